-- Seven words read one by one are a row. Assumes nothing.
use mathlib.Core.Path.{◌≡◌, refl, ap}
use mathlib.Core.List.{List, [], ◌∷◌}
use Prim.Native.Nat.{ℕ, zero, suc, ◌+◌, ◌*◌, ◌≤◌}
use native.Mathlib.Omega.{arith}
use lib.ListN.{length, get_or, take, drop}
use lib.Seq.{drop-cons}
use Rattle.rows.specs.Rows.{row_words, row, listed}

abbrev list_from : ℕ → List ℕ → ℕ → List ℕ
list_from zero t at = []
list_from (suc n) t at = get_or t at 0 ∷ list_from n t (suc at)

list_from_is : (n : ℕ) (t : List ℕ) (at : ℕ) → at + n ≤ length t → list_from n t at ≡ take n (drop at t)
list_from_is zero t at h = refl
list_from_is (suc n) t at h =
    rw (drop-cons t at 0 (omega arith)) (ap (λ (l : List ℕ). get_or t at 0 ∷ l) (list_from_is n t (suc at) (omega arith)))

-- the code counts `at + 3`, the lists `suc (suc (suc at))`
record Steps (at : ℕ) : Type 0 where
  pub one : at + 1 ≡ suc at
  pub two : at + 2 ≡ suc (suc at)
  pub three : at + 3 ≡ suc (suc (suc at))
  pub four : at + 4 ≡ suc (suc (suc (suc at)))
  pub five : at + 5 ≡ suc (suc (suc (suc (suc at))))
  pub six : at + 6 ≡ suc (suc (suc (suc (suc (suc at)))))

steps : (at : ℕ) → Steps at
steps at = record { one = omega arith; two = omega arith; three = omega arith; four = omega arith; five = omega arith; six = omega arith }

pub row_listed : (t : List ℕ) (i : ℕ) → row_words * (i + 1) ≤ length t → listed t i ≡ row t i
row_listed t i h = let s = steps (row_words * i) in rw (s.one, s.two, s.three, s.four, s.five, s.six) (list_from_is row_words t (row_words * i) (omega arith))
