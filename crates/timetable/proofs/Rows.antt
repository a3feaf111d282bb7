-- The words of a slice as rows: how many they are, and a run of stores at a seam. Assumes nothing.
use mathlib.Core.Logic.{⊎_elim}
use mathlib.Core.Path.{◌≡◌, refl, sym, ap, ◌∙◌}
use mathlib.Core.List.{List, [], ◌∷◌, ◌++◌, append_assoc, append-nil}
use Prim.Native.Nat.{ℕ, zero, suc, ◌+◌, ◌*◌, ◌≤◌, ◌<◌}
use native.Mathlib.Nat.{le_of_suc-le-suc, not-suc-le-zero, eq-or-lt_of_le}
use native.Mathlib.Omega.{arith}
use lib.ListN.{length, get_or, take, drop, length-append, length-drop, take-append-drop, get_or-append}
use lib.Seq.{sets, sets-eq, length-take-le, take_all, take-append-le, take_at, drop_at, get_or_at, take-add, drop-drop}
use Rattle.answers.specs.Joined.{joined}
use Rattle.rows.specs.Rows.{row_words, row}
use Rattle.timetable.specs.Moving.{rows_of}

-- ---- a run of stores, where what is done meets what is as it was
pub sets_seam : (p t r : List ℕ) (n : ℕ) → length p ≡ n → n + length r ≤ length t → sets (p ++ drop n t) n r ≡ p ++ r ++ drop (n + length r) t
sets_seam p t r n e h =
    sets-eq r (p ++ drop n t) n (simp (length-append, length-drop) (omega arith))
    ∙ rw (take_at p (drop n t) n e, ← drop-drop (length r) n (p ++ drop n t), drop_at p (drop n t) n e, drop-drop)

-- ---- the words of rows

pub joined_append : (a b : List (List ℕ)) → joined (a ++ b) ≡ joined a ++ joined b
joined_append [] b = refl
joined_append (r ∷ a) b = rw (joined_append a b) (sym (append_assoc r (joined a) (joined b)))

pub joined_rows : (n : ℕ) (t : List ℕ) → joined (rows_of n t) ≡ take (row_words * n) t
joined_rows zero t = refl
joined_rows (suc n) t =
    let e : row_words * suc n ≡ row_words * n + row_words = omega arith in
    joined_append (rows_of n t) (row t n ∷ []) ∙ rw (append-nil, joined_rows n t, e, take-add)

-- ---- every row has all its words

pub data Whole : List (List ℕ) → Type 0 where
  whole_none : Whole []
  whole_more : {r : List ℕ} {rs : List (List ℕ)} → length r ≡ row_words → Whole rs → Whole (r ∷ rs)

pub whole_append : {a b : List (List ℕ)} → Whole a → Whole b → Whole (a ++ b)
whole_append whole_none w = w
whole_append (whole_more e v) w = whole_more e (whole_append v w)

pub joined_length : {rs : List (List ℕ)} → Whole rs → length (joined rs) ≡ row_words * length rs
joined_length whole_none = refl
joined_length {rs = r ∷ rs} (whole_more e w) = rw length-append (omega (arith, joined_length w))

pub row_length : (t : List ℕ) (i : ℕ) → row_words * (i + 1) ≤ length t → length (row t i) ≡ row_words
row_length t i h = length-take-le row_words (drop (row_words * i) t) (rw length-drop (omega arith))

pub rows_whole : (n : ℕ) (t : List ℕ) → row_words * n ≤ length t → Whole (rows_of n t)
rows_whole zero t h = whole_none
rows_whole (suc n) t h = whole_append (rows_whole n t (omega arith)) (whole_more (row_length t n (omega arith)) whole_none)

-- ---- some of the rows

pub length_rows : (n : ℕ) (t : List ℕ) → length (rows_of n t) ≡ n
length_rows zero t = refl
length_rows (suc n) t = rw length-append (omega (arith, length_rows n t))

pub take_rows : (i n : ℕ) (t : List ℕ) → i ≤ n → take i (rows_of n t) ≡ rows_of i t
take_rows i zero t h = let e : i ≡ 0 = omega arith in rw e
take_rows i (suc n) t h =
    ⊎_elim (λ e. rw e (take_all (suc n) (rows_of (suc n) t) (omega (arith, length_rows (suc n) t))))
    (λ l. take-append-le i (rows_of n t) (row t n ∷ []) (omega (arith, length_rows n t)) ∙ take_rows i n t (omega arith))
    (eq-or-lt_of_le h)

module _ (i n : ℕ) (t : List ℕ) (within : i ≤ n) (fits : row_words * n ≤ length t) where
  pub joined_take : joined (take i (rows_of n t)) ≡ take (row_words * i) t
  joined_take = ap joined (take_rows i n t within) ∙ joined_rows i t

  pub joined_drop : joined (drop i (rows_of n t)) ≡ drop (row_words * i) (take (row_words * n) t)
  joined_drop =
      let parts : joined (take i (rows_of n t)) ++ joined (drop i (rows_of n t)) ≡ take (row_words * n) t =
      sym (joined_append (take i (rows_of n t)) (drop i (rows_of n t))) ∙ ap joined (take-append-drop i (rows_of n t)) ∙ joined_rows n t in
      let long : length (joined (take i (rows_of n t))) ≡ row_words * i = ap length joined_take ∙ length-take-le (row_words * i) t (omega arith) in
      sym (ap (drop (row_words * i)) (sym parts) ∙ drop_at (joined (take i (rows_of n t))) (joined (drop i (rows_of n t))) (row_words * i) long)

-- ---- a row is known by the words up to its end

pub row_end : (t : List ℕ) (j : ℕ) → row_words * j ≤ length t → row t j ≡ drop (row_words * j) (take (row_words * (j + 1)) t)
row_end t j h =
    let e : row_words * (j + 1) ≡ row_words * j + row_words = omega arith in
    rw (e, take-add, drop_at (take (row_words * j) t) _ _ (length-take-le (row_words * j) t h))

pub row_same : (a b : List ℕ) (j : ℕ) → row_words * j ≤ length a → row_words * j ≤ length b → take (row_words * (j + 1)) a ≡ take (row_words * (j + 1)) b → row a j ≡ row b j
row_same a b j ha hb e = row_end a j ha ∙ ap (drop (row_words * j)) e ∙ sym (row_end b j hb)

-- ---- the rows of the words of rows are the rows

rows_front : (n : ℕ) (t : List ℕ) → rows_of (suc n) t ≡ take row_words t ∷ rows_of n (drop row_words t)
rows_front zero t = refl
rows_front (suc n) t =
    let e : row_words + row_words * n ≡ row_words * suc n = omega arith in
    let same : row (drop row_words t) n ≡ row t (suc n) = ap (take row_words) (drop-drop (row_words * n) row_words t ∙ ap (λ (k : ℕ). drop k t) e) in
    rw (rows_front n t, same)

pub rows_words : {rs : List (List ℕ)} → Whole rs → (behind : List ℕ) → rows_of (length rs) (joined rs ++ behind) ≡ rs
rows_words whole_none behind = refl
rows_words {rs = r ∷ rs} (whole_more e w) behind =
    rows_front (length rs) (r ++ joined rs ++ behind)
    ∙ rw (append_assoc, take_at r (joined rs ++ behind) row_words e, drop_at r (joined rs ++ behind) row_words e, rows_words w behind)

pub whole_take : (i : ℕ) {rs : List (List ℕ)} → Whole rs → Whole (take i rs)
whole_take zero w = whole_none
whole_take (suc i) whole_none = whole_none
whole_take (suc i) (whole_more e w) = whole_more e (whole_take i w)

pub whole_drop : (i : ℕ) {rs : List (List ℕ)} → Whole rs → Whole (drop i rs)
whole_drop zero w = w
whole_drop (suc i) whole_none = whole_none
whole_drop (suc i) (whole_more e w) = whole_drop i w

pub rows_get : (i n : ℕ) (t : List ℕ) → i < n → get_or (rows_of n t) i [] ≡ row t i
rows_get i zero t h = absurd (not-suc-le-zero h)
rows_get i (suc n) t h =
    ⊎_elim (λ e. rw e (get_or_at (rows_of n t) (row t n) [] [] n (length_rows n t)))
    (λ l. get_or-append (rows_of n t) (row t n ∷ []) [] i (rw length_rows l) ∙ rows_get i n t l)
    (eq-or-lt_of_le (le_of_suc-le-suc h))
