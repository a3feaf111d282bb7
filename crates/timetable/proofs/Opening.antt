-- A row being put in: the first i + 1 rows are as they were, and the rows from i on stand one row higher. Assumes nothing.
use mathlib.Core.Path.{◌≡◌, refl, ap, ◌∙◌}
use mathlib.Core.Bool.{Bool, true, false, cond}
use mathlib.Core.List.{List, ◌++◌, append_assoc}
use Prim.Native.Nat.{ℕ, zero, suc, ◌+◌, ◌-◌, ◌*◌, ◌≤◌}
use native.Mathlib.Numerals.{add-one}
use native.Mathlib.Omega.{arith}
use lib.Dec.{ltb}
use lib.ListN.{length, take, drop, get_or}
use lib.Seq.{sets, sets-eq, length-take-le, take-take, take-append-le, drop_at, get_or-take, get_or-drop}
use Rattle.std.proofs.lemmas.List.{drop-take}
use Rattle.std.specs.List.{copy_within}
use Rattle.rows.specs.Rows.{row_words, row}
use Rattle.timetable.specs.Moving.{number_of, place, new_row, inserted}
use Rattle.timetable.proofs.Rows.{joined_append, joined_take, joined_drop}

-- a row's number, where the code reads it
pub row_number : (t : List ℕ) (i : ℕ) → number_of (row t i) ≡ get_or t (row_words * i) 0
row_number t i = get_or-take row_words (drop (row_words * i) t) 0 0 (omega arith) ∙ get_or-drop (row_words * i) t 0 0 ∙ ap (λ (n : ℕ). get_or t n 0) (omega arith)

-- the last row below the number, and one that is not
module _ (number : ℕ) (t : List ℕ) (i : ℕ) where
  pub stops_below : (j : ℕ) → i ≡ j + 1 → ltb (number_of (row t j)) number ≡ true → place number t i ≡ i
  stops_below j e n = rw (e, add-one, n)

  pub stops_not : (j : ℕ) → i ≡ j + 1 → ltb (number_of (row t j)) number ≡ false → place number t i ≡ place number t j
  stops_not j e n = rw (e, add-one, n)

-- where the new row goes, no more rows stand before it
pub place_again : (number : ℕ) (t : List ℕ) (used : ℕ) → place number t (place number t used) ≡ place number t used
place_again number t zero = refl
place_again number t (suc n) = go (ltb (number_of (row t n)) number) refl (place_again number t n)
  where
    go : (b : Bool) → ltb (number_of (row t n)) number ≡ b → place number t (place number t n) ≡ place number t n
        → place number t (cond b (suc n) (place number t n)) ≡ cond b (suc n) (place number t n)
    go true e h = rw e
    go false e h = h

pub record Opened (number used : ℕ) (t : List ℕ) (i : ℕ) (words : List ℕ) : Type 0 where
  pub within : i ≤ used
  pub placed : place number t used ≡ place number t i
  pub long : length words ≡ length t
  pub are : words ≡ take (row_words * (i + 1)) t ++ drop (row_words * i) (take (row_words * used) t) ++ drop (row_words * (used + 1)) t

module _ (number used : ℕ) (t : List ℕ) where
  module _ (i : ℕ) (words : List ℕ) (fits : row_words * (used + 1) ≤ length t) (o : Opened number used t i words) where
    -- what stands before row i is as it was
    front : take (row_words * i) words ≡ take (row_words * i) t
    front =
        let w = o.within in
        rw (o.are, append_assoc)
        (take-append-le (row_words * i) (take (row_words * (i + 1)) t) _ (rw (length-take-le (row_words * (i + 1)) t (omega arith)) (omega arith))
        ∙ take-take (row_words * i) (row_words * (i + 1)) t (omega arith))

    -- a row written at i
    put : (r : List ℕ) → length r ≡ row_words
        → sets words (row_words * i) r ≡ take (row_words * i) t ++ r ++ (drop (row_words * i) (take (row_words * used) t) ++ drop (row_words * (used + 1)) t)
    put r e =
        let w = o.within in
        let l = o.long in
        let next : row_words * i + length r ≡ row_words * (i + 1) = omega arith in
        let behind : drop (row_words * (i + 1)) words ≡ drop (row_words * i) (take (row_words * used) t) ++ drop (row_words * (used + 1)) t =
        rw (o.are, append_assoc) (drop_at (take (row_words * (i + 1)) t) _ _ (length-take-le (row_words * (i + 1)) t (omega arith))) in
        sets-eq r words (row_words * i) (omega arith) ∙ rw (front, next, behind)

    pub opened_end : place number t i ≡ i → sets words (row_words * i) (new_row number) ≡ inserted number used t
    unfolding inserted
    opened_end e =
        let w = o.within in
        put (new_row number) refl
        ∙ rw (o.placed, e, joined_append, joined_take i used t w (omega arith), joined_drop i used t w (omega arith)) (simp append_assoc)

-- the rows from i on, copied one row higher
pub moved_up : (used : ℕ) (t : List ℕ) (i : ℕ) → i ≤ used → row_words * (used + 1) ≤ length t
    → copy_within t (row_words * i) (row_words * used) (row_words * (i + 1))
    ≡ take (row_words * (i + 1)) t ++ drop (row_words * i) (take (row_words * used) t) ++ drop (row_words * (used + 1)) t
moved_up used t i within fits =
    let long = row_words * used - row_words * i in
    let end : row_words * (i + 1) + long ≡ row_words * (used + 1) = omega arith in
    let all : row_words * used ≡ row_words * i + long = omega arith in
    rw (end, ← drop-take (row_words * i) long t, ← all)
