-- Document 02, M-100: the additional field of a request for a whole crew, and how it is read. Assumes nothing.
use Rattle.std.specs.Prelude.{ℕ, ◌+◌, ◌-◌, ◌*◌, ◌%◌, Bool, true, false, not, cond, ◌&&◌, ◌||◌, List, [], ◌∷◌, ◌++◌, length, get_or, leb, ltb, eqb}
use Rattle.std.proofs.Math.Option.{Option, none, some}
use Rattle.answers.specs.Ascii.{ascii}
use Rattle.answers.specs.Begins.{begins, behind}
use Rattle.answers.specs.Checks.{◌>>=◌, only_if}
use Rattle.answers.specs.Leading.{each}
use Rattle.numbers.specs.Numbers.{are_digits, two_digits}
use Rattle.crews.specs.declared.Crew.{Crew}
use Rattle.crews.specs.declared.Crew.TheVariants.{Single, Codes, Broken}

-- ---- the field of given codes

-- "The functional number ends in 01"
abbrev pub lead_code : ℕ
lead_code = 1

-- "one digit n"
abbrev pub most_codes : ℕ
most_codes = 9

abbrev pub bulk_text : List ℕ
bulk_text = ascii "BULK"

-- "two-digit codes"
abbrev pub codes_text : List ℕ → List ℕ
codes_text [] = []
codes_text (c ∷ cs) = two_digits c ++ codes_text cs

-- "if n is above 0, a space and n two-digit codes"
abbrev pub spaced_codes : List ℕ → List ℕ
spaced_codes [] = []
spaced_codes (c ∷ cs) = 32 ∷ codes_text (c ∷ cs)

-- "the additional field is `BULK`, one digit n, and, if n is above 0, a space and n two-digit codes"
unfoldable pub crew_text : List ℕ → List ℕ
crew_text codes = bulk_text ++ ((48 + length codes) ∷ spaced_codes codes)

-- "none is 01"
unfoldable pub is_code : ℕ → Bool
is_code c = ltb c 100 && not (eqb c lead_code)

unfoldable pub is_in : ℕ → List ℕ → Bool
is_in c [] = false
is_in c (x ∷ xs) = eqb x c || is_in c xs

-- "none comes twice"
unfoldable pub distinct : List ℕ → Bool
distinct [] = true
distinct (c ∷ cs) = not (is_in c cs) && distinct cs

-- "none is 01, none comes twice"
abbrev pub codes_allowed : List ℕ → Bool
codes_allowed codes = each is_code codes && distinct codes

unfoldable pub codes_sound : List ℕ → Bool
codes_sound codes = leb (length codes) most_codes && codes_allowed codes

-- ---- the field read

-- the value of two digits
abbrev pub code_of : ℕ → ℕ → ℕ
code_of tens ones = 10 * (tens - 48) + (ones - 48)

-- the i-th code of a text of codes
abbrev pub code_at : List ℕ → ℕ → ℕ
code_at s i = code_of (get_or s (2 * i) 0) (get_or s (2 * i + 1) 0)

-- digits two by two
unfoldable pub codes_in : List ℕ → List ℕ
codes_in [] = []
codes_in (a ∷ []) = []
codes_in (a ∷ b ∷ s) = code_of a b ∷ codes_in s

-- codes: digits only, and none is left over
unfoldable pub codes_at : List ℕ → Option (List ℕ)
codes_at s = only_if (are_digits s && eqb (length s % 2) 0) (codes_in s)

-- codes that a crew may have
unfoldable pub sound_codes_at : List ℕ → Option (List ℕ)
sound_codes_at s = do
  codes ← codes_at s
  only_if (codes_sound codes) codes

-- nothing, or a space and at least one code
unfoldable pub spaced_codes_at : List ℕ → Option (List ℕ)
spaced_codes_at [] = some []
spaced_codes_at (c ∷ s) = do
  rest ← only_if (eqb c 32) s
  codes ← sound_codes_at rest
  only_if (ltb 0 (length codes)) codes

-- one digit n, and n codes behind it
unfoldable pub counted_codes_at : List ℕ → Option (List ℕ)
counted_codes_at [] = none
counted_codes_at (n ∷ s) = do
  codes ← spaced_codes_at s
  only_if (eqb n (48 + length codes)) codes

-- the codes of the whole field
unfoldable pub crew_of : List ℕ → Option (List ℕ)
crew_of field = behind bulk_text field >>= counted_codes_at

-- "a field starting with `BULK`"
abbrev pub is_bulk : List ℕ → Bool
is_bulk field = begins bulk_text field

abbrev pub counted : Option (List ℕ) → Crew
counted none = Broken
counted (some codes) = Codes (length codes)

-- an ordinary field, a crew by its count of codes, or "a field starting with `BULK` that breaks this"
unfoldable pub count_of : List ℕ → Crew
count_of field = cond (is_bulk field) (counted (crew_of field)) Single
