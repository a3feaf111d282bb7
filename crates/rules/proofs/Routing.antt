-- Where a text message goes (M-112): nothing changes; without a code it is asked as with the node's own in front; the answer is the number's holder; and the branch is read back from the subaddress. Assumes nothing.
use mathlib.Core.Path.{◌≡◌, refl, sym, ap, ◌∙◌}
use mathlib.Core.Bool.{Bool, true, false, not, cond}
use mathlib.Core.Option.{none, some}
use mathlib.Core.List.{List, [], ◌∷◌, ◌++◌}
use Prim.Native.Nat.{ℕ, suc, ◌+◌, ◌-◌, ◌/◌, ◌%◌, ◌≤◌}
use native.Mathlib.Omega.{arith}
use lib.ListN.{length, get_or}
use lib.Dec.{eqb}
use Rattle.answers.specs.Begins.{begins}
use Rattle.answers.specs.Checks.{decide}
use Rattle.answers.proofs.Leading.{each_append}
use Rattle.answers.proofs.Tests.{and_right}
use Rattle.numbers.specs.Numbers.{is_digit, are_digits, stored_form, is_nobody}
use Rattle.numbers.proofs.Digits.{digit_at_lem}
use Rattle.records.specs.declared.Record.{Record}
use Rattle.tables.specs.Tables.{table_sound}
use Rattle.states.specs.States.{State, record_for}
use Rattle.rules.specs.Answers.{Answer, refusal, error, outcome, ask_network, routed_to}
use Rattle.rules.specs.Requests.{holder_in}
use Rattle.rules.specs.Routing.{code_of, with_code_in, is_international_code, is_outside, has_branch, branch_octet, subaddress_of, branch_in, branch_of, by_code, routing}
use Rattle.rules.specs.Calls.{routes, name_of, call}
use Rattle.rules.specs.Demand.{holder_of}
use Rattle.rules.proofs.Routes.{routing_looks}
use Rattle.rules.proofs.Visits.{routing_names}
use Rattle.rules.proofs.Members.{last_two}

-- "It changes nothing"
pub routing_keeps : (list : List ℕ) (delay : ℕ) (home : List ℕ) (coded : Bool) (asked : List ℕ) (state : State) → (call list delay (routes home coded asked) state).1 ≡ state
routing_keeps list delay home coded asked state = refl

-- "A request marked as having no code gets the node's own put in front": as if it had come so
pub as_with_code : (state : State) (home asked : List ℕ) → routing state.table home false asked ≡ routing state.table home true (home ++ asked)
unfolding routing
as_with_code state home asked = go (table_sound state.table) (is_international_code home) refl
  where
    go : (sound known : Bool) → is_international_code home ≡ known
        → decide ((not sound, refusal 2) ∷ (not known, error 36) ∷ (not (are_digits asked), error 36) ∷ (is_outside (length (home ++ asked)), error 36) ∷ []) (by_code home (home ++ asked) (record_for state (stored_form (home ++ asked))))
        ≡ decide ((not sound, refusal 2) ∷ (not known, error 36) ∷ (not (are_digits (home ++ asked)), error 36) ∷ (is_outside (length (home ++ asked)), error 36) ∷ []) (by_code home (home ++ asked) (record_for state (stored_form (home ++ asked))))
    go false known e = refl
    go true false e = refl
    go true true e = rw (each_append is_digit home asked, and_right (eqb (length home) 3) (are_digits home) e) refl

-- ---- the answer, one by one: over a sound table, of a routing that names k; the figures do not matter

module _ (list home : List ℕ) (coded : Bool) (asked : List ℕ) (state : State) (sound : table_sound state.table ≡ true)
    (k : ℕ) (names : name_of list (routes home coded asked) ≡ some k) where
  abbrev full : List ℕ
  full = with_code_in home coded asked

  abbrev answered : Answer
  answered = routing state.table home coded asked

  looks : answered ≡ by_code home full (record_for state k)
  looks =
      let (reads, number) = routing_names list home coded asked k names in
      routing_looks state.table home coded asked sound reads ∙ ap (λ n. by_code home full (record_for state n)) number

  -- "A foreign code answers "ask that network" with the code"
  pub routing_foreign : begins home full ≡ false → answered ≡ ask_network (code_of full)
  routing_foreign other = looks ∙ rw other refl

  module _ (ours : begins home full ≡ true) where
    -- "otherwise 41"
    pub routing_41 : record_for state k ≡ none → answered ≡ outcome 41 0
    routing_41 none-there = looks ∙ rw (ours, none-there) refl

    -- "or 62"
    pub routing_62 : (r : Record) → record_for state k ≡ some r → is_nobody r.holder ≡ true → answered ≡ outcome 62 0
    routing_62 r known free = looks ∙ rw (ours, known, free) refl

    -- "a known, held number answers its MSISDN": the holder that demand 3 speaks of
    pub routing_holder : (r : Record) → record_for state k ≡ some r → is_nobody r.holder ≡ false → answered ≡ routed_to (holder_of state k) (subaddress_of full)
    routing_holder r known held = looks ∙ rw (ours, known, held) (ap (λ o. routed_to (holder_in o).0 (subaddress_of full)) (sym known))

-- ---- the branch

module _ (digits : List ℕ) (h : are_digits digits ≡ true) (few : 2 ≤ length digits) where
  abbrev tens : ℕ
  tens = length digits - 2

  -- the two halves of the octet are the last two digits
  halves : (48 + branch_octet digits % 16) ∷ (48 + branch_octet digits / 16) ∷ [] ≡ branch_of digits
  halves =
      let last : length digits - 1 ≡ suc tens = omega (arith, few) in
      let high = digit_at_lem digits (suc tens) h (omega (arith, few)) in
      let low = digit_at_lem digits tens h (omega (arith, few)) in
      let one : 48 + branch_octet digits % 16 ≡ get_or digits tens 0 = rw last (omega (arith, high, low)) in
      let two : 48 + branch_octet digits / 16 ≡ get_or digits (suc tens) 0 = rw last (omega (arith, high, low)) in
      ap (λ x. x ∷ (48 + branch_octet digits / 16) ∷ []) one ∙ ap (λ y. get_or digits tens 0 ∷ y ∷ []) two ∙ sym (last_two digits tens (omega (arith, few)))

  -- "the last digit in the high half and the one before it in the low half": the branch is read back, and none where the type has none
  pub branch_back : branch_in (subaddress_of digits) ≡ cond (has_branch digits) (some (branch_of digits)) none
  unfolding subaddress_of
  branch_back = go (has_branch digits)
    where
      go : (b : Bool) → branch_in (cond b (0x80 ∷ 0x48 ∷ branch_octet digits ∷ []) []) ≡ cond b (some (branch_of digits)) none
      go true = ap some halves
      go false = refl
