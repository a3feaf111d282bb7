-- The rows of a table as a list: that they ascend and are sound, what is counted and what is found, is the same as by their places. Assumes nothing.
use mathlib.Core.Path.{◌≡◌, refl, sym, ap, ◌∙◌}
use mathlib.Core.Bool.{Bool, true, false, cond, ◌&&◌, and-true, and_assoc}
use mathlib.Core.Option.{Option, none, some}
use mathlib.Core.List.{List, [], ◌∷◌, ◌++◌, append-nil}
use Prim.Native.Nat.{ℕ, zero, suc, ◌+◌, ◌*◌, ◌≤◌, ◌<◌}
use native.Mathlib.Nat.{add-zero}
use native.Mathlib.Omega.{arith}
use lib.Dec.{eqb, ltb}
use lib.ListN.{length, get_or, drop}
use lib.Seq.{get_or-take, get_or-drop}
use borrow.Author.Tests.{ltb-true, eqb-true, eqb-false, eq-eqb, ne_eqb}
use Rattle.answers.proofs.Tests.{and_left, and_right, and_both}
use Rattle.answers.proofs.Checks.{not_some}
use Rattle.records.specs.declared.Record.{Record}
use Rattle.rows.specs.Rows.{row_words, row_sound, record_at, one, row}
use Rattle.std.specs.Prelude.{Some}
use Rattle.tables.specs.Keys.{every, ascends, place_of}
use Rattle.tables.specs.Tables.{most_numbers, rows_in, number_key, row_stands, table_up_to, table_sound, row_of, record_found, record_of}
use Rattle.tables.specs.Figures.{is_held_at, waits_at, flies_at, how_many, recount}
use Rattle.tables.proofs.Alone.{alone_row_sound, alone_record, alone_words}
use Rattle.tables.proofs.Keys.{every_at, every_from}
use Rattle.tables.proofs.Sound.{all_stand, table_few, table_ascends, table_row}
use Rattle.timetable.specs.Moving.{rows_of, number_of}

-- ---- rows as a list

-- "strictly ascending by the first word": above the one before it, the first above `last`
abbrev pub ascend : ℕ → List (List ℕ) → Bool
ascend last [] = true
ascend last (r ∷ rs) = ltb last (number_of r) && ascend (number_of r) rs

-- each is sound by itself
abbrev pub all_sound : List (List ℕ) → Bool
all_sound [] = true
all_sound (r ∷ rs) = row_sound r 0 && all_sound rs

-- how many pass a test
abbrev pub many : (List ℕ → Bool) → List (List ℕ) → ℕ
many test [] = 0
many test (r ∷ rs) = one (test r) + many test rs

-- the row of a number, and its record
abbrev pub found : ℕ → List (List ℕ) → Option (List ℕ)
found number [] = none
found number (r ∷ rs) = cond (eqb (number_of r) number) (some r) (found number rs)

abbrev pub record_of_row : Option (List ℕ) → Option Record
record_of_row none = none
record_of_row (some r) = some (record_at r 0)

-- ---- rows behind others

-- the number of the last row; `last` where there is none
abbrev pub last_number : ℕ → List (List ℕ) → ℕ
last_number last [] = last
last_number last (r ∷ rs) = last_number (number_of r) rs

pub last_snoc : (last : ℕ) (rs : List (List ℕ)) (r : List ℕ) → last_number last (rs ++ (r ∷ [])) ≡ number_of r
last_snoc last [] r = refl
last_snoc last (x ∷ rs) r = last_snoc (number_of x) rs r

pub ascend_append : (last : ℕ) (a b : List (List ℕ)) → ascend last (a ++ b) ≡ (ascend last a && ascend (last_number last a) b)
ascend_append last [] b = refl
ascend_append last (r ∷ a) b =
    rw (ascend_append (number_of r) a b) (sym (and_assoc (ltb last (number_of r)) (ascend (number_of r) a) (ascend (last_number (number_of r) a) b)))

pub sound_append : (a b : List (List ℕ)) → all_sound (a ++ b) ≡ (all_sound a && all_sound b)
sound_append [] b = refl
sound_append (r ∷ a) b = rw (sound_append a b) (sym (and_assoc (row_sound r 0) (all_sound a) (all_sound b)))

pub many_append : (test : List ℕ → Bool) (a b : List (List ℕ)) → many test (a ++ b) ≡ many test a + many test b
many_append test [] b = omega arith
many_append test (r ∷ a) b = omega (arith, many_append test a b)

-- ---- by their places

pub number_row : (t : List ℕ) (i : ℕ) → number_of (row t i) ≡ number_key t i
number_row t i =
    get_or-take row_words (drop (row_words * i) t) 0 0 (omega arith) ∙ get_or-drop (row_words * i) t 0 0 ∙ ap (λ (k : ℕ). get_or t k 0) (add-zero (row_words * i))

pub ascend_rows : (n : ℕ) (t : List ℕ) → ascend 0 (rows_of n t) ≡ every (ascends (number_key t)) n
ascend_rows zero t = refl
ascend_rows (suc n) t =
    ascend_append 0 (rows_of n t) (row t n ∷ [])
    ∙ rw (ascend_rows n t, and-true, number_row t n) (ap (λ (b : Bool). every (ascends (number_key t)) n && b) (last n))
  where
    last : (n : ℕ) → ltb (last_number 0 (rows_of n t)) (number_key t n) ≡ ascends (number_key t) n
    last zero = refl
    last (suc n) = rw (last_snoc, number_row t n)

pub sound_rows : (n : ℕ) (t : List ℕ) → all_sound (rows_of n t) ≡ every (row_sound t) n
sound_rows zero t = refl
sound_rows (suc n) t = sound_append (rows_of n t) (row t n ∷ []) ∙ rw (sound_rows n t, and-true, alone_row_sound t n) refl

pub many_rows : (test : List ℕ → ℕ → Bool) → ((t : List ℕ) (i : ℕ) → test (row t i) 0 ≡ test t i) → (n : ℕ) (t : List ℕ)
    → many (λ r. test r 0) (rows_of n t) ≡ how_many (test t) n
many_rows test same zero t = refl
many_rows test same (suc n) t =
    many_append (λ r. test r 0) (rows_of n t) (row t n ∷ []) ∙ omega (arith, many_rows test same n t, ap one (same t n))

-- ---- what is found

-- the row found for any other number is the same
pub found_other : (m : ℕ) (a : List (List ℕ)) (r : List ℕ) (b : List (List ℕ)) → (number_of r ≡ m → ⊥) → found m (a ++ r ∷ b) ≡ found m (a ++ b)
found_other m [] r b n = rw (ne_eqb (number_of r) m n)
found_other m (x ∷ a) r b n = rw (found_other m a r b n)

-- the row of a number that had none is the new one
pub found_new : (a : List (List ℕ)) (r : List ℕ) (b : List (List ℕ)) → found (number_of r) (a ++ b) ≡ none → found (number_of r) (a ++ r ∷ b) ≡ some r
found_new [] r b e = rw (eq-eqb (number_of r) (number_of r) refl)
found_new (x ∷ a) r b e = go (eqb (number_of x) (number_of r)) refl (found_new a r b)
  where
    go : (h : Bool) → eqb (number_of x) (number_of r) ≡ h → (found (number_of r) (a ++ b) ≡ none → found (number_of r) (a ++ r ∷ b) ≡ some r)
        → cond h (some x) (found (number_of r) (a ++ r ∷ b)) ≡ some r
    go true p ih = not_some (sym (rw p at e))
    go false p ih = ih (rw p at e)

-- the first is above `last`
pub first_above : (last : ℕ) (r : List ℕ) (rs : List (List ℕ)) → ascend last (r ∷ rs) ≡ true → last < number_of r
first_above last r rs h = ltb-true last (number_of r) (and_left (ltb last (number_of r)) (ascend (number_of r) rs) h)

pub rest_ascends : (last : ℕ) (r : List ℕ) (rs : List (List ℕ)) → ascend last (r ∷ rs) ≡ true → ascend (number_of r) rs ≡ true
rest_ascends last r rs h = and_right (ltb last (number_of r)) (ascend (number_of r) rs) h

last_below : (last : ℕ) (a : List (List ℕ)) (r : List ℕ) (b : List (List ℕ)) → ascend last (a ++ r ∷ b) ≡ true → last < number_of r
last_below last [] r b h = first_above last r b h
last_below last (x ∷ a) r b h =
    let f = first_above last x (a ++ r ∷ b) h in let l = last_below (number_of x) a r b (rest_ascends last x (a ++ r ∷ b) h) in omega arith

found_front : (last : ℕ) (a : List (List ℕ)) (r : List ℕ) (b : List (List ℕ)) → ascend last (a ++ r ∷ b) ≡ true → found (number_of r) a ≡ none
found_front last [] r b h = refl
found_front last (x ∷ a) r b h =
    let rest = rest_ascends last x (a ++ r ∷ b) h in
    let l = last_below (number_of x) a r b rest in
    rw (ne_eqb (number_of x) (number_of r) (λ e. omega arith)) (found_front (number_of x) a r b rest)

-- the record found among ascending rows is that of the number's place
pub found_rows : (m n : ℕ) (t : List ℕ) → ascend 0 (rows_of n t) ≡ true → record_of_row (found m (rows_of n t)) ≡ record_found t (place_of (number_key t) m n)
unfolding place_of
found_rows m zero t h = refl
found_rows m (suc n) t h = go (eqb (number_key t n) m) refl (λ a. found_rows m n t a)
  where
    below : ascend 0 (rows_of n t) ≡ true
    below = and_left (ascend 0 (rows_of n t)) _ (sym (ascend_append 0 (rows_of n t) (row t n ∷ [])) ∙ h)

    go : (b : Bool) → eqb (number_key t n) m ≡ b → (ascend 0 (rows_of n t) ≡ true → record_of_row (found m (rows_of n t)) ≡ record_found t (place_of (number_key t) m n))
        → record_of_row (found m (rows_of n t ++ (row t n ∷ []))) ≡ record_found t (cond b (Some n) (place_of (number_key t) m n))
    go true e ih =
        let k : number_of (row t n) ≡ m = number_row t n ∙ eqb-true (number_key t n) m e in
        let new : found (number_of (row t n)) (rows_of n t ++ (row t n ∷ [])) ≡ some (row t n) =
        found_new (rows_of n t) (row t n) [] (rw append-nil (found_front 0 (rows_of n t) (row t n) [] h)) in
        ap record_of_row (ap (λ (x : ℕ). found x (rows_of n t ++ (row t n ∷ []))) (sym k) ∙ new) ∙ ap some (alone_record t n)
    go false e ih =
        ap record_of_row (found_other m (rows_of n t) (row t n) [] (λ k. eqb-false (number_key t n) m e (sym (number_row t n) ∙ k)) ∙ ap (found m) (append-nil (rows_of n t)))
        ∙ ih below

-- ---- a table by its rows

pub record AreRows (t : List ℕ) (rs : List (List ℕ)) : Type 0 where
  pub long : length t ≡ row_words * length rs
  pub are : rows_of (length rs) t ≡ rs

module _ (t : List ℕ) (rs : List (List ℕ)) (a : AreRows t rs) where
  pub are_count : rows_in t ≡ length rs
  are_count = let l = a.long in omega arith

  pub rows_sound_lem : length rs ≤ most_numbers → ascend 0 rs ≡ true → all_sound rs ≡ true → table_sound t ≡ true
  unfolding table_up_to
  rows_sound_lem few up each =
      let l = a.long in
      let ups : every (ascends (number_key t)) (length rs) ≡ true = sym (ascend_rows (length rs) t) ∙ ap (ascend 0) a.are ∙ up in
      let sounds : every (row_sound t) (length rs) ≡ true = sym (sound_rows (length rs) t) ∙ ap all_sound a.are ∙ each in
      sym (all_stand row_words most_numbers (row_stands t) t (omega arith) (rw are_count few)
      (rw are_count
      (every_from (row_stands t) (length rs)
      (λ i b. and_both (ascends (number_key t) i) (row_sound t i) (every_at (ascends (number_key t)) (length rs) ups i b) (every_at (row_sound t) (length rs) sounds i b)))))

  pub rows_few : table_sound t ≡ true → length rs ≤ most_numbers
  rows_few s = rw (← are_count) (table_few t s)

  pub rows_ascend : table_sound t ≡ true → ascend 0 rs ≡ true
  rows_ascend s = ap (ascend 0) (sym a.are) ∙ ascend_rows (length rs) t ∙ ap (every (ascends (number_key t))) (sym are_count) ∙ table_ascends t s

  pub rows_each : table_sound t ≡ true → all_sound rs ≡ true
  rows_each s =
      ap all_sound (sym a.are) ∙ sound_rows (length rs) t ∙ ap (every (row_sound t)) (sym are_count) ∙ every_from (row_sound t) (rows_in t) (table_row t s)

  -- what is found
  pub rows_record : ascend 0 rs ≡ true → (m : ℕ) → record_of t m ≡ record_of_row (found m rs)
  unfolding record_of row_of
  rows_record up m =
      ap (λ (n : ℕ). record_found t (place_of (number_key t) m n)) are_count
      ∙ sym (found_rows m (length rs) t (ap (ascend 0) a.are ∙ up))
      ∙ ap (λ (l : List (List ℕ)). record_of_row (found m l)) a.are

  -- what is counted
  pub rows_recount : recount t ≡ many (λ r. is_held_at r 0) rs ∷ many (λ r. waits_at r 0) rs ∷ many (λ r. flies_at r 0) rs ∷ []
  unfolding recount
  rows_recount = rw (counts is_held_at held, counts waits_at waits, counts flies_at flies) refl
    where
      held : (t : List ℕ) (i : ℕ) → is_held_at (row t i) 0 ≡ is_held_at t i
      held t i = rw (alone_words t i 1 (omega arith) (omega arith)) refl

      waits : (t : List ℕ) (i : ℕ) → waits_at (row t i) 0 ≡ waits_at t i
      waits t i = rw (alone_words t i 2 (omega arith) (omega arith)) refl

      flies : (t : List ℕ) (i : ℕ) → flies_at (row t i) 0 ≡ flies_at t i
      flies t i = rw (alone_words t i 2 (omega arith) (omega arith)) refl

      counts : (test : List ℕ → ℕ → Bool) → ((t : List ℕ) (i : ℕ) → test (row t i) 0 ≡ test t i) → how_many (test t) (rows_in t) ≡ many (λ r. test r 0) rs
      counts test same = ap (how_many (test t)) are_count ∙ sym (many_rows test same (length rs) t) ∙ ap (many (λ r. test r 0)) a.are
