-- Document 02, M-112, "Where does this text message go": "Message centres ask which MSISDN stands behind a functional number". Assumes nothing.
use Rattle.std.specs.Prelude.{ℕ, ◌+◌, ◌-◌, ◌*◌, ◌/◌, ◌%◌, Bool, cond, not, ◌&&◌, ◌||◌, List, [], ◌∷◌, ◌++◌, length, take, drop, get_or, eqb, ltb}
use Rattle.std.proofs.Math.Option.{Option, none, some}
use Rattle.answers.specs.Begins.{begins}
use Rattle.answers.specs.Checks.{decide}
use Rattle.numbers.specs.Numbers.{fewest_digits, most_digits, are_digits, stored_form, is_nobody}
use Rattle.records.specs.declared.Record.{Record}
use Rattle.tables.specs.Tables.{table_sound, record_of}
use Rattle.rules.specs.Answers.{Answer, refusal, error, outcome, ask_network, routed_to}

-- ---- the digits

-- "The first three digits are its international code, by our house rule"
abbrev pub code_length : ℕ
code_length = 3

abbrev pub code_of : List ℕ → List ℕ
code_of digits = take code_length digits

-- "A request marked as having no code gets the node's own put in front"
abbrev pub with_code_in : List ℕ → Bool → List ℕ → List ℕ
with_code_in home coded asked = cond coded asked (home ++ asked)

-- "a node's code that isn't three digits"
abbrev pub is_international_code : List ℕ → Bool
is_international_code code = eqb (length code) code_length && are_digits code

-- "fewer than five or more than 15 digits after the code is added"
abbrev pub is_outside : ℕ → Bool
is_outside n = ltb n fewest_digits || ltb most_digits n

-- ---- the subaddress

-- the digit at a place, by its value
abbrev pub digit_at : List ℕ → ℕ → ℕ
digit_at digits place = get_or digits place 0 - 48

-- "number type 2, 3 or 4 (the fourth digit)"
abbrev pub has_branch : List ℕ → Bool
has_branch digits = let type = digit_at digits 3 in eqb type 2 || eqb type 3 || eqb type 4

-- "the last digit in the high half and the one before it in the low half, so branch 01 gives 10"
abbrev pub branch_octet : List ℕ → ℕ
branch_octet digits = 16 * digit_at digits (length digits - 1) + digit_at digits (length digits - 2)

-- "the subaddress octets of 000, table 2: 80 48, then" the branch
unfoldable pub subaddress_of : List ℕ → List ℕ
subaddress_of digits = cond (has_branch digits) (0x80 ∷ 0x48 ∷ branch_octet digits ∷ []) []

-- the branch as it is read from a subaddress, its two digits: none where there are no octets
abbrev pub branch_in : List ℕ → Option (List ℕ)
branch_in subaddress =
    let octet = get_or subaddress 2 0 in cond (eqb (length subaddress) 3) (some ((48 + octet % 16) ∷ (48 + octet / 16) ∷ [])) none

-- the branch as it stands in a number, its last two digits
abbrev pub branch_of : List ℕ → List ℕ
branch_of digits = drop (length digits - 2) digits

-- ---- the answer

-- "Refusals: 2, then error 36 for a node's code that isn't three digits, a character that isn't a digit, or fewer than five or more than 15 digits after the code is added"
abbrev pub routing_checks : Bool → List ℕ → Bool → List ℕ → List (Bool × Answer)
routing_checks sound_table home coded asked =
    (not sound_table, refusal 2)
    ∷ (not (is_international_code home), error 36)
    ∷ (not (are_digits asked), error 36)
    ∷ (is_outside (length (with_code_in home coded asked)), error 36)
    ∷ []

-- "a known, held number answers its MSISDN in international digits; otherwise 41 or 62"; nothing is written, so the outcomes have no octets
abbrev pub by_record : List ℕ → Option Record → Answer
by_record digits none = outcome 41 0
by_record digits (some r) = cond (is_nobody r.holder) (outcome 62 0) (routed_to r.holder.0 (subaddress_of digits))

-- "A foreign code answers "ask that network" with the code"; the table is not looked at
abbrev pub by_code : List ℕ → List ℕ → Option Record → Answer
by_code home digits r = cond (begins home digits) (by_record digits r) (ask_network (code_of digits))

-- it is lent the table alone: no buffer and no figures
unfoldable pub routing : List ℕ → List ℕ → Bool → List ℕ → Answer
routing table home coded asked =
    let digits = with_code_in home coded asked in
    decide (routing_checks (table_sound table) home coded asked) (by_code home digits (record_of table (stored_form digits)))
