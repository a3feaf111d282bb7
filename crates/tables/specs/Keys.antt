-- Rows by their first words: that they ascend, and where a word stands among them. One definition for every width of row. Assumes nothing.
use Rattle.std.specs.Prelude.{ℕ, zero, suc, ◌*◌, Bool, true, cond, ◌&&◌, List, get_or, eqb, ltb, Option, Some, None}

-- the first word of row i, in rows of `width` words
abbrev pub key : ℕ → List ℕ → ℕ → ℕ
key width t i = get_or t (width * i) 0

-- the test holds of every row below n
abbrev pub every : (ℕ → Bool) → ℕ → Bool
every test zero = true
every test (suc n) = every test n && test n

-- "strictly ascending by the first word": above the one before it. The first is above 0, as every number in stored form is
abbrev pub ascends : (ℕ → ℕ) → ℕ → Bool
ascends k zero = ltb 0 (k zero)
ascends k (suc i) = ltb (k i) (k (suc i))

-- where a key stands among the rows, or nowhere
abbrev pub Found : Type 0
Found = Option ℕ

-- the row below n with the key
unfoldable pub place_of : (ℕ → ℕ) → ℕ → ℕ → Found
place_of k wanted zero = None
place_of k wanted (suc n) = cond (eqb (k n) wanted) (Some n) (place_of k wanted n)
