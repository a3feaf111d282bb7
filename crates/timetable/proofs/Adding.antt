-- Adding, over all lent words: the table stays sound and its figures right; the number is found, open and without holder, and every other number's record is as it was. A freed row is used again. Assumes nothing.
use mathlib.Core.Path.{◌≡◌, refl, sym, ap, ◌∙◌}
use mathlib.Core.Logic.{⊎_elim}
use mathlib.Core.Bool.{Bool, true, false, cond, ◌&&◌}
use mathlib.Core.Option.{Option, none, some}
use mathlib.Core.List.{List, [], ◌∷◌}
use Prim.Native.Nat.{ℕ, zero, suc, ◌+◌, ◌*◌, ◌/◌, ◌≤◌, ◌<◌}
use native.Mathlib.Nat.{le_of_suc-le-suc, not-suc-le-zero, eq-or-lt_of_le}
use native.Mathlib.Omega.{arith}
use lib.Dec.{eqb, ltb}
use lib.ListN.{length, get_or, take, drop, length-append, length-drop, take-append-drop, drop_of_length-le}
use lib.Seq.{drop-cons, drop_at}
use borrow.Author.Tests.{ltb-true, ltb-false, eq-eqb, lt-leb}
use Rattle.answers.specs.Joined.{joined}
use Rattle.answers.proofs.Tests.{and_left, and_right, and_both, less_or_not}
use Rattle.answers.proofs.Checks.{not_some}
use Rattle.numbers.specs.Numbers.{is_number}
use Rattle.numbers.proofs.Lengths.{number_some}
use Rattle.records.specs.declared.Record.{Record}
use Rattle.records.specs.Steps.{free_record, has_run_out}
use Rattle.rows.specs.Rows.{row_words, notice_up_to, notice_of, row_up_to, row_sound, record_at, one, row}
use Rattle.tables.specs.Keys.{Found}
use Rattle.std.specs.Prelude.{Some, None}
use Rattle.tables.specs.Tables.{most_numbers, rows_in, table_sound, row_of, record_of}
use Rattle.tables.specs.Figures.{is_held_at, waits_at, flies_at, recount}
use Rattle.tables.proofs.Sound.{table_few}
use Rattle.tables.proofs.Stored.{record_found_lem}
use Rattle.states.specs.States.{beside, state_sound}
use Rattle.states.proofs.States.{state_table, sound_state_lem, state_sound_lem}
use Rattle.timetable.specs.Moving.{rows_of, number_of, compacted, place, new_row, insert_at, inserted}
use Rattle.timetable.specs.Timetable.{in_use, is_there, rows, leaving, adding}
use Rattle.timetable.proofs.Rows.{Whole, whole_more, whole_append, whole_take, whole_drop, joined_length, rows_whole, rows_words, length_rows, take_rows, rows_get}
use Rattle.timetable.proofs.Lists.{ascend, all_sound, many, found, record_of_row, last_number, last_snoc, sound_append, many_append, found_other, found_new, AreRows, rows_sound_lem, rows_ascend, rows_each, rows_record, rows_recount}
use Rattle.timetable.proofs.Inserted.{Above, nothing, first, insert_ascends}
use Rattle.timetable.proofs.Using.{use_rows, rows_used}
use Rattle.timetable.proofs.Calls.{adding_done}
use Rattle.timetable.proofs.Compacting.{left, unless_run_out, compacted_length, compacted_within, compacted_state, compacted_found, compacted_fewer}

-- ---- the new row

pub new_sound : (number : ℕ) → is_number number ≡ true → row_sound (new_row number) 0 ≡ true
unfolding row_up_to notice_up_to
new_sound number e = rw e refl

pub new_record : (number : ℕ) → record_at (new_row number) 0 ≡ free_record
unfolding record_at notice_of
new_record number = refl

-- ---- its place

-- the row before the place is below the number, the row at the place is not
module _ (number : ℕ) (t : List ℕ) where
  place_before : (n : ℕ) → 0 < number → last_number 0 (rows_of (place number t n) t) < number
  place_before zero p = p
  place_before (suc n) p = go (ltb (number_of (row t n)) number) refl (place_before n p)
    where
      go : (b : Bool) → ltb (number_of (row t n)) number ≡ b → last_number 0 (rows_of (place number t n) t) < number → last_number 0 (rows_of (cond b (suc n) (place number t n)) t) < number
      go true e ih = rw last_snoc (ltb-true (number_of (row t n)) number e)
      go false e ih = ih

  place_behind : (n : ℕ) → (place number t n ≤ n) × (place number t n < n → number ≤ number_of (row t (place number t n)))
  place_behind zero = (omega arith, λ l. absurd (not-suc-le-zero l))
  place_behind (suc n) = go (ltb (number_of (row t n)) number) refl (place_behind n)
    where
      Behind : ℕ → ℕ → Type 0
      Behind p n = (p ≤ n) × (p < n → number ≤ number_of (row t p))

      go : (b : Bool) → ltb (number_of (row t n)) number ≡ b → Behind (place number t n) n → Behind (cond b (suc n) (place number t n)) (suc n)
      go true e ih = (omega arith, λ l. absurd (omega arith))
      go false e ih =
          let within = ih.0 in (
            omega arith,
            λ l. ⊎_elim (λ q. rw q (ltb-false (number_of (row t n)) number e)) (λ q. ih.1 q) (eq-or-lt_of_le within),
          )

-- a number without a row is no row's number
not_found : (m : ℕ) (rs : List (List ℕ)) (i : ℕ) → found m rs ≡ none → i < length rs → number_of (get_or rs i []) ≡ m → ⊥
not_found m [] i e l k = not-suc-le-zero l
not_found m (r ∷ rs) zero e l k = not_some (sym (rw (eq-eqb (number_of r) m k) at e))
not_found m (r ∷ rs) (suc i) e l k = go (eqb (number_of r) m) refl (λ f. not_found m rs i f (le_of_suc-le-suc l) k)
  where
    go : (b : Bool) → eqb (number_of r) m ≡ b → (found m rs ≡ none → ⊥) → ⊥
    go true q ih = not_some (sym (rw q at e))
    go false q ih = ih (rw q at e)

-- ---- rows with one more

module _ (p : ℕ) (r : List ℕ) (rs : List (List ℕ)) where
  length_insert : length (insert_at p r rs) ≡ length rs + 1
  length_insert = omega (arith, length-append (take p rs) (r ∷ drop p rs), length-append (take p rs) (drop p rs), ap length (take-append-drop p rs))

  sound_insert : row_sound r 0 ≡ true → all_sound rs ≡ true → all_sound (insert_at p r rs) ≡ true
  sound_insert new all =
      let both : (all_sound (take p rs) && all_sound (drop p rs)) ≡ true = sym (sound_append (take p rs) (drop p rs)) ∙ ap all_sound (take-append-drop p rs) ∙ all in
      sound_append (take p rs) (r ∷ drop p rs)
      ∙ and_both (all_sound (take p rs)) (row_sound r 0 && all_sound (drop p rs)) (and_left (all_sound (take p rs)) (all_sound (drop p rs)) both)
      (and_both (row_sound r 0) (all_sound (drop p rs)) new (and_right (all_sound (take p rs)) (all_sound (drop p rs)) both))

  many_insert : (test : List ℕ → Bool) → test r ≡ false → many test (insert_at p r rs) ≡ many test rs
  many_insert test e =
      omega (arith, many_append test (take p rs) (r ∷ drop p rs), many_append test (take p rs) (drop p rs), ap (many test) (take-append-drop p rs), ap one e)

-- ---- the words afterwards

module _ (words : List ℕ) (used number : ℕ) (room : used < rows_in words) where
  abbrev new_rows : List (List ℕ)
  new_rows = insert_at (place number words used) (new_row number) (rows_of used words)

  fits : row_words * (used + 1) ≤ length words
  fits = omega arith

  new_whole : Whole new_rows
  new_whole =
      let w = rows_whole used words (omega (arith, fits)) in
      whole_append (whole_take (place number words used) w) (whole_more refl (whole_drop (place number words used) w))

  new_count : length new_rows ≡ used + 1
  new_count = length_insert (place number words used) (new_row number) (rows_of used words) ∙ rw length_rows

  -- the lent words are as many as before
  pub added_length : length (inserted number used words) ≡ length words
  unfolding inserted
  added_length = rw (length-append, joined_length new_whole, length-drop, new_count) (omega (arith, fits))

  pub added_within : used + 1 ≤ rows_in (inserted number used words)
  added_within = rw added_length (omega arith)

  -- the rows in use afterwards are those before, with the new one at its place
  pub added_rows : rows_of (used + 1) (inserted number used words) ≡ insert_at (place number words used) (new_row number) (rows_of used words)
  unfolding inserted
  added_rows = rw (← new_count) (rows_words new_whole _)

  -- "the rest behind stays"
  pub added_behind : drop (row_words * (used + 1)) (inserted number used words) ≡ drop (row_words * (used + 1)) words
  unfolding inserted
  added_behind = drop_at (joined new_rows) (drop (row_words * (used + 1)) words) (row_words * (used + 1)) (joined_length new_whole ∙ ap (λ (n : ℕ). row_words * n) new_count)

  -- ---- the table afterwards

  before : AreRows (in_use words used) (rows_of used words)
  before = rows_used words used (rows_of used words) (omega arith) refl (length_rows used words)

  after : AreRows (in_use (inserted number used words) (used + 1)) new_rows
  after = rows_used (inserted number used words) (used + 1) new_rows added_within added_rows new_count

  -- the figures are the same, and right
  pub added_recount : recount (in_use (inserted number used words) (used + 1)) ≡ recount (in_use words used)
  added_recount =
      rows_recount (in_use (inserted number used words) (used + 1)) new_rows after
      ∙ rw (none_more (λ r. is_held_at r 0) refl, none_more (λ r. waits_at r 0) refl, none_more (λ r. flies_at r 0) refl) refl
      ∙ sym (rows_recount (in_use words used) (rows_of used words) before)
    where
      none_more : (test : List ℕ → Bool) → test (new_row number) ≡ false → many test new_rows ≡ many test (rows_of used words)
      none_more = many_insert (place number words used) (new_row number) (rows_of used words)

  module _ (sound : table_sound (in_use words used) ≡ true) (absent : record_of (in_use words used) number ≡ none) (form : is_number number ≡ true) where
    ascending : ascend 0 (rows_of used words) ≡ true
    ascending = rows_ascend (in_use words used) (rows_of used words) before sound

    missing : found number (rows_of used words) ≡ none
    missing = go (found number (rows_of used words)) (sym (rows_record (in_use words used) (rows_of used words) before ascending number) ∙ absent)
      where
        go : (o : Option (List ℕ)) → record_of_row o ≡ none → o ≡ none
        go none e = refl
        go (some r) e = not_some (sym e)

    above : Above number (drop (place number words used) (rows_of used words))
    above = ⊎_elim inside end (less_or_not (place number words used) used)
      where
        inside : place number words used < used → Above number (drop (place number words used) (rows_of used words))
        inside l =
            let here = rows_get (place number words used) used words l in
            let least = (place_behind number words used).1 l in
            let other : number_of (row words (place number words used)) ≡ number → ⊥ =
            rw here at (not_found number (rows_of used words) (place number words used) missing (rw length_rows l)) in
            rw (drop-cons (rows_of used words) (place number words used) [] (rw length_rows l), here) (first (⊎_elim (λ e. absurd (other (sym e))) (λ q. q) (eq-or-lt_of_le least)))

        end : used ≤ place number words used → Above number (drop (place number words used) (rows_of used words))
        end l = rw (drop_of_length-le (rows_of used words) {i = place number words used} (rw length_rows l)) nothing

    ascending_after : ascend 0 new_rows ≡ true
    ascending_after =
        insert_ascends 0 (take (place number words used) (rows_of used words)) (new_row number) (drop (place number words used) (rows_of used words))
        (rw take-append-drop ascending)
        (rw (take_rows (place number words used) used words (place_behind number words used).0) (place_before number words used (positive number (number_some number form))))
        above
      where
        positive : (n : ℕ) → (n ≡ 0 → ⊥) → 0 < n
        positive n h = omega arith

    -- the number is found, open and without holder
    pub added_found : record_of (in_use (inserted number used words) (used + 1)) number ≡ some free_record
    added_found =
        rows_record (in_use (inserted number used words) (used + 1)) new_rows after ascending_after number
        ∙ ap record_of_row (found_new (take (place number words used) (rows_of used words)) (new_row number) (drop (place number words used) (rows_of used words))
        (ap (found number) (take-append-drop (place number words used) (rows_of used words)) ∙ missing))
        ∙ ap some (new_record number)

    -- every other number's record is as it was
    pub added_other : (m : ℕ) → (m ≡ number → ⊥) → record_of (in_use (inserted number used words) (used + 1)) m ≡ record_of (in_use words used) m
    added_other m n =
        rows_record (in_use (inserted number used words) (used + 1)) new_rows after ascending_after m
        ∙ ap record_of_row (found_other m (take (place number words used) (rows_of used words)) (new_row number) (drop (place number words used) (rows_of used words)) (λ e. n (sym e))
        ∙ ap (found m) (take-append-drop (place number words used) (rows_of used words)))
        ∙ sym (rows_record (in_use words used) (rows_of used words) before ascending m)

    module _ (few : used < most_numbers) where
      pub added_sound : table_sound (in_use (inserted number used words) (used + 1)) ≡ true
      added_sound =
          rows_sound_lem (in_use (inserted number used words) (used + 1)) new_rows after (omega (arith, new_count)) ascending_after
          (sound_insert (place number words used) (new_row number) (rows_of used words) (new_sound number form) (rows_each (in_use words used) (rows_of used words) before sound))

      pub added_state : (figures : List ℕ) → state_sound (beside (in_use words used) figures) ≡ true → state_sound (beside (in_use (inserted number used words) (used + 1)) figures) ≡ true
      added_state figures s =
          let h = sound_state_lem (beside (in_use words used) figures) s in
          state_sound_lem (beside (in_use (inserted number used words) (used + 1)) figures) (record { table = added_sound; figures = h.figures ∙ sym added_recount })

-- ---- a freed row is used again

-- what has no record stands nowhere
pub nowhere : (t : List ℕ) (number : ℕ) → record_of t number ≡ none → is_there (row_of t number) ≡ false
nowhere t number e = go (row_of t number) refl
  where
    go : (f : Found) → row_of t number ≡ f → is_there f ≡ false
    go None q = refl
    go (Some i) q = not_some (sym e ∙ record_found_lem t number i q)

module _ (words : List ℕ) (used : ℕ) (figures : List ℕ) (within : used ≤ rows_in words) (sound : state_sound (beside (in_use words used) figures) ≡ true) where
  module _ (number : ℕ) (form : is_number number ≡ true) where
    -- behind a compacting that freed a row, any number that is not there can be added
    pub freed_again : left words used within < used → record_of (in_use (compacted used words) (left words used within)) number ≡ none
        → adding (compacted used words) (left words used within) figures number ≡ leaving (rows (left words used within + 1)) (inserted number (left words used within) (compacted used words))
    freed_again fewer absent =
        let few = table_few (in_use words used) (state_table (beside (in_use words used) figures) sound) in
        let count = use_rows words used within in
        let long : rows_in (compacted used words) ≡ rows_in words = ap (λ (n : ℕ). n / row_words) (compacted_length words used within) in
        adding_done (compacted used words) (left words used within) figures number (compacted_within words used within) (compacted_state words used within figures sound) form
        (nowhere (in_use (compacted used words) (left words used within)) number absent)
        (rw (lt-leb most_numbers (left words used within) (omega arith), lt-leb (rows_in (compacted used words)) (left words used within) (omega arith)) refl)

    -- also the very number that went
    pub same_again : (r : Record) → record_of (in_use words used) number ≡ some r → has_run_out r ≡ true
        → adding (compacted used words) (left words used within) figures number ≡ leaving (rows (left words used within + 1)) (inserted number (left words used within) (compacted used words))
    same_again r e h =
        let table = state_table (beside (in_use words used) figures) sound in
        freed_again (compacted_fewer words used within table number r e h) (compacted_found words used within table number ∙ ap unless_run_out e ∙ rw h refl)
