-- Rows put in behind other words, as far as there is room. Assumes nothing.
use Rattle.std.proofs.Common.{arith, ℕ, zero, suc, ◌+◌, ◌-◌, ◌≤◌, ◌≡◌, ◌%◌, ◌^◌, List, ◌++◌, [], ◌∷◌, length, take}
use mathlib.Core.Path.{refl, sym, ap, subst, ◌∙◌}
use native.Mathlib.Numerals.{unary_clauses}
use Rattle.std.proofs.lemmas.Grind.{common_steps}
use Rattle.std.proofs.lemmas.List.{length-take, take-append-le, append_assoc}
use Rattle.texts.specs.Words.{rows_of}

row_behind : (n : ℕ) (u r o : List ℕ) (w : ℕ) → take n (take n (take n (u ++ r) ++ w ∷ []) ++ o) ≡ take n (u ++ (r ++ w ∷ o))
row_behind n u r o w = grind (arith, common_steps)

-- one row more
pub row_more : (n : ℕ) (u o : List ℕ) (f i : ℕ) → take n (take n (take n (u ++ rows_of i f o) ++ ((f + i) % 2 ^ 64) ∷ []) ++ o) ≡ take n (u ++ rows_of (i + 1) f o)
unfolding rows_of
row_more n u o f i = simp unary_clauses (row_behind n u (rows_of i f o) o ((f + i) % 2 ^ 64))

-- as long as a list to which it is equal so far
pub reaches : (n : ℕ) (x y : List ℕ) → take n x ≡ take n y → n ≤ length y → n ≤ length x
reaches n x y e h = omega (arith, h, length-take n x, length-take n y, ap length e)

-- where there is no more room, more rows change nothing
pub rows_over : (n : ℕ) (u o : List ℕ) (f i k : ℕ) → n ≤ length (u ++ rows_of i f o) → take n (u ++ rows_of (i + k) f o) ≡ take n (u ++ rows_of i f o)
unfolding rows_of
rows_over n u o f i zero h = simp unary_clauses refl
rows_over n u o f i (suc k) h =
    simp unary_clauses
    grind (arith, common_steps, take-append-le, append_assoc, rows_over n u o f i k h, reaches n (u ++ rows_of (i + k) f o) (u ++ rows_of i f o) (rows_over n u o f i k h) h)

-- the same, of as many as there are in all
pub rows_left : (n : ℕ) (u o : List ℕ) (f i j : ℕ) → i ≤ j → n ≤ length (u ++ rows_of i f o) → take n (u ++ rows_of j f o) ≡ take n (u ++ rows_of i f o)
rows_left n u o f i j p h =
    let all : j ≡ i + (j - i) = omega (arith, p) in
    subst (λ (r : ℕ). take n (u ++ rows_of r f o) ≡ take n (u ++ rows_of i f o)) (sym all) (rows_over n u o f i (j - i) h)

-- so it is where the words in use are as many as there is room for
pub rows_full : (n : ℕ) (u o w : List ℕ) (f i j : ℕ) → i ≤ j → w ≡ take n (u ++ rows_of i f o) → length w ≡ n → w ≡ take n (u ++ rows_of j f o)
rows_full n u o w f i j p e h =
    e ∙ sym (rows_left n u o f i j p (omega (arith, h, ap length e, length-take n (u ++ rows_of i f o))))
