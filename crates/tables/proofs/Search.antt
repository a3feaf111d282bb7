-- What the library's search of the first words of rows comes to. Assumes nothing.
use Rattle.std.proofs.Common.{◌≡◌, ℕ, zero, suc, ◌+◌, ◌*◌, ◌≤◌, ◌<◌, true, List, [], length, get_or, drop, ap, refl, sym, ◌∙◌, arith, get_or-take, get_or-drop, Result, Ok, Err, ⊎_elim}
use Rattle.std.specs.Result.{result_ok}
use Rattle.std.specs.Simd.{first_chunks}
use Rattle.std.specs.List.Sorted.{IsSearchInRange, IsBinarySearchResult, IsNonDecreasingBy}
use Rattle.std.specs.Ordering.{nat_cmp, ordering_index}
use Rattle.std.proofs.lemmas.Cmp.{ranked}
use Rattle.std.proofs.lemmas.List.Sorted.{IsNonDecreasingBy-from_default}
use Rattle.std.proofs.lemmas.Bool.Decides.{nat_tests}
use Rattle.answers.proofs.Tests.{less_or_not}
use Rattle.tables.specs.Keys.{key, every, ascends, place_of}
use Rattle.tables.proofs.Keys.{ascending, place_at, place_none}

rows_long : (w n : ℕ) (xs : List ℕ) → length (first_chunks w n xs) ≡ n
rows_long w zero xs = refl
rows_long w (suc n) xs = ap (λ (j : ℕ). suc j) (rows_long w n (drop w xs))

-- the first word of a row
row_key : (w n : ℕ) (xs : List ℕ) (i : ℕ) (d : List ℕ) → 0 < w → i < n → get_or (get_or (first_chunks w n xs) i d) 0 0 ≡ key w xs i
row_key w zero xs i d p l = absurd (omega arith)
row_key w (suc n) xs zero d p l = let first : 0 ≡ w * 0 = omega arith in get_or-take w xs 0 0 p ∙ ap (λ (j : ℕ). get_or xs j 0) first
row_key w (suc n) xs (suc i) d p l =
    let further : w + w * i ≡ w * suc i = omega arith in
    row_key w n (drop w xs) i d p (omega arith) ∙ get_or-drop w xs (w * i) 0 ∙ ap (λ (j : ℕ). get_or xs j 0) further

module _ (w n wanted : ℕ) (xs : List ℕ) (some : 0 < w) (sorted : every (ascends (key w xs)) n ≡ true) where
  rise : IsNonDecreasingBy (λ row. ordering_index (nat_cmp (get_or row 0 0) wanted)) (first_chunks w n xs)
  rise = IsNonDecreasingBy-from_default (λ row. ordering_index (nat_cmp (get_or row 0 0) wanted)) (first_chunks w n xs) [] (λ i j le l.
      let m : j < n = omega (arith, rows_long w n xs) in
      let up : key w xs i ≤ key w xs j = ⊎_elim (λ (x : i < j). let y = ascending (key w xs) n sorted i j x m in omega arith) (λ (x : j ≤ i). let same : i ≡ j = omega arith in omega (arith, ap (key w xs) same)) (less_or_not i j) in
      rw (row_key w n xs i [] some (omega arith), row_key w n xs j [] some m) (grind (arith, nat_tests)))

  pub searched : (r : Result ℕ ℕ) → IsSearchInRange r (length (first_chunks w n xs)) → IsBinarySearchResult (λ row. nat_cmp (get_or row 0 0) wanted) (first_chunks w n xs) r → result_ok r ≡ place_of (key w xs) wanted n
  searched (Ok i) l h =
      let m : i < n = omega (arith, rows_long w n xs) in
      place_at (key w xs) n sorted wanted i m (sym (row_key w n xs i [] some m) ∙ ranked _ wanted _ (sym (h [])))
  searched (Err i) l h =
      place_none (key w xs) wanted n
      (λ j m q.
      ⊎_elim (λ x. let y = ranked _ wanted _ (sym ((h rise).0 j [] (omega arith) x)) in omega (arith, row_key w n xs j [] some m))
      (λ x. let y = ranked _ wanted _ (sym ((h rise).1 j [] x (omega (arith, rows_long w n xs)))) in omega (arith, row_key w n xs j [] some m))
      (less_or_not j i))
