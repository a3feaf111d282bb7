-- Document 01, "The program": the lines of an input, the fields of a line, and the forms that a line can have. Assumes nothing.
use Rattle.std.specs.Prelude.{ℕ, suc, ◌^◌, Bool, false, cond, ◌&&◌, List, [], ◌∷◌, length, eqb, leb, ltb}
use Prim.Native.Char.{code}
use Rattle.std.proofs.Math.Option.{Option, none, some}
use Rattle.answers.specs.Checks.{decide, ◌>>=◌, only_if}
use Rattle.numbers.specs.Numbers.{fewest_digits, most_digits, are_digits, pushed, stored_form}
use Rattle.numbers.specs.declared.FunctionalNumber.{FunctionalNumber}
use Rattle.numbers.specs.declared.Msisdn.{Msisdn}
use Rattle.tables.specs.Tables.{most_flags}

-- ---- lines

abbrev pub line_feed : ℕ
line_feed = code "\n"

-- an octet in front of the first line
abbrev pub on_first : ℕ → List (List ℕ) → List (List ℕ)
on_first c [] = (c ∷ []) ∷ []
on_first c (line ∷ lines) = (c ∷ line) ∷ lines

-- "line by line": a line feed ends a line, and so does the end of the input where octets stand before it
unfoldable pub lines_of : List ℕ → List (List ℕ)
lines_of [] = []
lines_of (c ∷ cs) = cond (eqb c line_feed) ([] ∷ lines_of cs) (on_first c (lines_of cs))

-- ---- fields

abbrev pub space : ℕ
space = code " "

-- "Fields stand one space apart": the field at the front of a part of a line reaches to the next space
unfoldable pub first_field : List ℕ → List ℕ
first_field [] = []
first_field (c ∷ cs) = cond (eqb c space) [] (c ∷ first_field cs)

-- what stands behind that space; nothing where the field is the last one
unfoldable pub behind_field : List ℕ → Option (List ℕ)
behind_field [] = none
behind_field (c ∷ cs) = cond (eqb c space) (some cs) (behind_field cs)

-- one digit or more, and nothing else
unfoldable pub is_digits : List ℕ → Bool
is_digits [] = false
is_digits (c ∷ cs) = are_digits (c ∷ cs)

-- "5 to 15 decimal digits"
abbrev pub is_number_long : List ℕ → Bool
is_number_long field = leb fewest_digits (length field) && leb (length field) most_digits

-- a number of `N` or `S`, as stored
unfoldable pub number_of : List ℕ → Option ℕ
number_of field = only_if (is_digits field && is_number_long field) (stored_form field)

-- "In `R`, `T` and `D`, digits not 5 to 15 long are a malformed number": the node is given the word 0
unfoldable pub asked_of : List ℕ → Option ℕ
asked_of field = only_if (is_digits field) (cond (is_number_long field) (stored_form field) 0)

-- flags, now, kind and a delay's seconds count by their value, "now and kind are below 2^32"
unfoldable pub value_below : ℕ → List ℕ → Option ℕ
value_below limit field = only_if (is_digits field && ltb (pushed 0 field) limit) (pushed 0 field)

-- ---- forms

pub data Form : Type 0 where
  -- `N` number
  number_line : FunctionalNumber → Form
  -- `S` MSISDN flags
  subscriber_line : Msisdn → ℕ → Form
  -- `R` requester string
  request_line : Msisdn → List ℕ → Form
  -- `T` now number
  sending_line : ℕ → FunctionalNumber → Form
  -- `D` now number kind
  result_line : ℕ → FunctionalNumber → ℕ → Form
  -- M-107: `W` seconds
  delay_line : ℕ → Form

-- what stands behind the letter and its space, in each form; "a string is the rest of its line", and so is every last field
unfoldable pub number_form : List ℕ → Option Form
number_form rest = do
  word ← number_of rest
  some (number_line (record { 0 = word }))

unfoldable pub subscriber_form : List ℕ → Option Form
subscriber_form rest = do
  flagsField ← behind_field rest
  word ← number_of (first_field rest)
  flags ← value_below (suc most_flags) flagsField
  some (subscriber_line (record { 0 = word }) flags)

unfoldable pub request_form : List ℕ → Option Form
request_form rest = do
  string ← behind_field rest
  word ← asked_of (first_field rest)
  some (request_line (record { 0 = word }) string)

unfoldable pub sending_form : List ℕ → Option Form
sending_form rest = do
  numberField ← behind_field rest
  now ← value_below (2 ^ 32) (first_field rest)
  word ← asked_of numberField
  some (sending_line now (record { 0 = word }))

-- number and kind, behind now
unfoldable pub result_fields : ℕ → List ℕ → Option Form
result_fields now rest = do
  kindField ← behind_field rest
  word ← asked_of (first_field rest)
  kind ← value_below (2 ^ 32) kindField
  some (result_line now (record { 0 = word }) kind)

unfoldable pub result_form : List ℕ → Option Form
result_form rest = do
  fields ← behind_field rest
  now ← value_below (2 ^ 32) (first_field rest)
  result_fields now fields

-- M-107: seconds count by their value
unfoldable pub delay_form : List ℕ → Option Form
delay_form rest = do
  seconds ← value_below (2 ^ 32) rest
  some (delay_line seconds)

-- the form by its letter
abbrev pub letters : ℕ → List ℕ → List (Bool × Option Form)
letters letter rest =
    (eqb letter (code "N"), number_form rest)
    ∷ (eqb letter (code "S"), subscriber_form rest)
    ∷ (eqb letter (code "R"), request_form rest)
    ∷ (eqb letter (code "T"), sending_form rest)
    ∷ (eqb letter (code "D"), result_form rest)
    ∷ (eqb letter (code "W"), delay_form rest)
    ∷ []

unfoldable pub lettered : ℕ → List ℕ → Option Form
lettered letter rest = decide (letters letter rest) none

-- the form of a line: a letter, a space, and what its form asks for; "Any other line" has none
unfoldable pub form_of : List ℕ → Option Form
form_of [] = none
form_of (letter ∷ []) = none
form_of (letter ∷ gap ∷ rest) = cond (eqb gap space) (lettered letter rest) none
