-- Compacting, over all lent words: the table stays sound and its figures right; exactly the closed rows with neither holder nor notice went, and what is found for any other number is as it was. Assumes nothing.
use mathlib.Core.Path.{◌≡◌, refl, sym, ap, ◌∙◌}
use mathlib.Core.Bool.{Bool, true, false, cond, not, ◌&&◌}
use mathlib.Core.Option.{Option, none, some}
use mathlib.Core.List.{List, ◌++◌, append_assoc, Memᴰ, Sublistᴰ}
use Prim.Native.Nat.{ℕ, ◌+◌, ◌-◌, ◌*◌, ◌≤◌, ◌<◌}
use native.Mathlib.Omega.{arith}
use lib.ListN.{length, get_or, drop, replicate, length-append, length-drop, length-replicate, get_or-replicate, get_or-append}
use lib.Seq.{drop_at, get_or-append-add}
use Rattle.answers.specs.Joined.{joined}
use Rattle.answers.proofs.Tests.{and_left, and_right}
use Rattle.answers.proofs.Checks.{not_some}
use Rattle.numbers.specs.Numbers.{is_nobody}
use Rattle.records.specs.declared.Record.{Record}
use Rattle.records.specs.Steps.{is_absent, has_run_out}
use Rattle.rows.specs.Rows.{row_words, record_at}
use Rattle.rows.proofs.Notices.{absent_still}
use Rattle.tables.specs.Tables.{rows_in, table_sound, record_of}
use Rattle.tables.specs.Figures.{is_held_at, waits_at, flies_at, how_many, recount}
use Rattle.tables.proofs.Alone.{alone_record}
use Rattle.tables.proofs.Counts.{row_waits, row_flies}
use Rattle.states.specs.States.{beside, state_sound}
use Rattle.states.proofs.States.{sound_state_lem, state_sound_lem}
use Rattle.timetable.specs.Moving.{rows_of, goes, stay, compacted}
use Rattle.timetable.specs.Timetable.{in_use}
use Rattle.timetable.proofs.Rows.{Whole, joined_length, rows_whole, rows_words, length_rows}
use Rattle.timetable.proofs.Packing.{whole_kept, stay_few}
use Rattle.timetable.proofs.Lists.{ascend, found, many_rows, record_of_row, AreRows, rows_sound_lem, rows_few, rows_ascend, rows_each, rows_record, rows_recount}
use Rattle.timetable.proofs.Kept.{kept_order, kept_was, was_kept, kept_ascends, kept_sound, kept_many, kept_count, found_stays, found_none, found_goes, found_counts}
use Rattle.timetable.proofs.Using.{use_fits, rows_used}

-- ---- a row that goes is in no figure

not_held : (r : List ℕ) → goes r ≡ true → is_held_at r 0 ≡ false
unfolding goes has_run_out record_at
not_held r e =
    let n = (record_at r 0).notice in
    ap not (and_left (is_nobody (record_at r 0).holder) (is_absent n) (and_right (record_at r 0).closed (is_nobody (record_at r 0).holder && is_absent n) e))

no_notice_lem : (r : List ℕ) → goes r ≡ true → is_absent (record_at r 0).notice ≡ true
unfolding goes has_run_out
no_notice_lem r e =
    let n = (record_at r 0).notice in
    and_right (is_nobody (record_at r 0).holder) (is_absent n) (and_right (record_at r 0).closed (is_nobody (record_at r 0).holder && is_absent n) e)

not_waiting : (r : List ℕ) → goes r ≡ true → waits_at r 0 ≡ false
not_waiting r e = row_waits r 0 ∙ (absent_still (record_at r 0).notice (no_notice_lem r e)).0

not_flying : (r : List ℕ) → goes r ≡ true → flies_at r 0 ≡ false
not_flying r e = row_flies r 0 ∙ (absent_still (record_at r 0).notice (no_notice_lem r e)).1

test_is : (r : List ℕ) → goes r ≡ has_run_out (record_at r 0)
unfolding goes
test_is r = refl

-- what is found for a number once closed rows with neither holder nor notice are gone: nothing, where its record has run out
abbrev pub unless_run_out : Option Record → Option Record
unless_run_out none = none
unless_run_out (some r) = cond (has_run_out r) none (some r)

-- ---- the words afterwards

module _ (words : List ℕ) (used : ℕ) (within : used ≤ rows_in words) where
  -- so many rows are in use afterwards
  abbrev pub left : ℕ
  left = length (stay used words)

  stay_whole : Whole (stay used words)
  stay_whole = whole_kept goes (rows_whole used words (use_fits words used within))

  -- the lent words are as many as before
  pub compacted_length : length (compacted used words) ≡ length words
  unfolding compacted
  compacted_length =
      let fits = use_fits words used within in
      let few = stay_few used words in
      rw (length-append, length-append, joined_length stay_whole, length-replicate, length-drop) (omega arith)

  pub compacted_within : left ≤ rows_in (compacted used words)
  compacted_within = let few = stay_few used words in rw compacted_length (omega arith)

  -- the rows in use afterwards are those that stay, in their order
  pub compacted_rows : rows_of left (compacted used words) ≡ stay used words
  unfolding compacted
  compacted_rows = rw append_assoc (rows_words stay_whole _)

  -- "freed words become 0"
  pub compacted_freed : (j : ℕ) → j < row_words * (used - left) → get_or (compacted used words) (row_words * left + j) 0 ≡ 0
  unfolding compacted
  compacted_freed j l =
      rw (append_assoc, ← joined_length stay_whole)
      (get_or-append-add (joined (stay used words)) _ j 0 ∙ get_or-append (replicate (row_words * (used - left)) 0) _ 0 j (rw length-replicate l) ∙ get_or-replicate _ j 0 0 l)

  -- "the rest behind stays"
  pub compacted_behind : drop (row_words * used) (compacted used words) ≡ drop (row_words * used) words
  unfolding compacted
  compacted_behind =
      let few = stay_few used words in
      drop_at (joined (stay used words) ++ replicate (row_words * (used - left)) 0) (drop (row_words * used) words) (row_words * used)
      (rw (length-append, joined_length stay_whole, length-replicate) (omega arith))

  -- ---- which rows went, and which stayed

  -- a row is in use afterwards if and only if it was and has not run out
  pub compacted_was : (r : List ℕ) → Memᴰ r (rows_of left (compacted used words)) → Memᴰ r (rows_of used words) × (goes r ≡ false)
  compacted_was r m = kept_was goes r (rows_of used words) (rw compacted_rows at m)

  pub compacted_stays : (r : List ℕ) → Memᴰ r (rows_of used words) → goes r ≡ false → Memᴰ r (rows_of left (compacted used words))
  compacted_stays r m e = rw compacted_rows (was_kept goes r (rows_of used words) m e)

  -- "keeps the rest in order"
  pub compacted_order : Sublistᴰ (rows_of left (compacted used words)) (rows_of used words)
  compacted_order = rw compacted_rows (kept_order goes (rows_of used words))

  -- "reports how many went": the rows whose record has run out
  pub compacted_went : used - left ≡ how_many (λ i. has_run_out (record_at words i)) used
  unfolding goes
  compacted_went =
      omega
      (arith, kept_count goes (rows_of used words), length_rows used words, many_rows (λ t i. has_run_out (record_at t i)) (λ t i. ap has_run_out (alone_record t i)) used words)

  -- ---- the table afterwards

  before : AreRows (in_use words used) (rows_of used words)
  before = rows_used words used (rows_of used words) within refl (length_rows used words)

  after : AreRows (in_use (compacted used words) left) (stay used words)
  after = rows_used (compacted used words) left (stay used words) compacted_within compacted_rows refl

  module _ (sound : table_sound (in_use words used) ≡ true) where
    ascending : ascend 0 (rows_of used words) ≡ true
    ascending = rows_ascend (in_use words used) (rows_of used words) before sound

    pub compacted_sound : table_sound (in_use (compacted used words) left) ≡ true
    compacted_sound =
        let few = rows_few (in_use words used) (rows_of used words) before sound in
        let less = stay_few used words in
        let all = length_rows used words in
        rows_sound_lem (in_use (compacted used words) left) (stay used words) after (omega arith) (kept_ascends goes 0 (rows_of used words) ascending)
        (kept_sound goes (rows_of used words) (rows_each (in_use words used) (rows_of used words) before sound))

    -- every other number's record is as it was
    pub compacted_found : (m : ℕ) → record_of (in_use (compacted used words) left) m ≡ unless_run_out (record_of (in_use words used) m)
    compacted_found m =
        rows_record (in_use (compacted used words) left) (stay used words) after (kept_ascends goes 0 (rows_of used words) ascending) m
        ∙ go (found m (rows_of used words)) refl
        ∙ ap unless_run_out (sym (rows_record (in_use words used) (rows_of used words) before ascending m))
      where
        by_test : (r : List ℕ) (b : Bool) → goes r ≡ b → found m (rows_of used words) ≡ some r → record_of_row (found m (stay used words)) ≡ cond b none (some (record_at r 0))
        by_test r true g e = ap record_of_row (found_goes goes m 0 (rows_of used words) r ascending e g)
        by_test r false g e = ap record_of_row (found_stays goes m (rows_of used words) r e g)

        go : (o : Option (List ℕ)) → found m (rows_of used words) ≡ o → record_of_row (found m (stay used words)) ≡ unless_run_out (record_of_row o)
        go none e = ap record_of_row (found_none goes m (rows_of used words) e)
        go (some r) e = by_test r (has_run_out (record_at r 0)) (test_is r) e

    -- where one has run out, fewer rows are in use
    pub compacted_fewer : (m : ℕ) (r : Record) → record_of (in_use words used) m ≡ some r → has_run_out r ≡ true → left < used
    unfolding goes
    compacted_fewer m r e h = go (found m (rows_of used words)) refl (sym (rows_record (in_use words used) (rows_of used words) before ascending m) ∙ e)
      where
        go : (o : Option (List ℕ)) → found m (rows_of used words) ≡ o → record_of_row o ≡ some r → left < used
        go none f q = not_some q
        go (some x) f q =
            let same : record_at x 0 ≡ r = cc in
            let one = found_counts goes m (rows_of used words) x f (ap has_run_out same ∙ h) in
            omega (arith, one, kept_count goes (rows_of used words), length_rows used words)

  -- the figures are the same, and right
  pub compacted_recount : recount (in_use (compacted used words) left) ≡ recount (in_use words used)
  compacted_recount =
      rows_recount (in_use (compacted used words) left) (stay used words) after
      ∙ rw (kept_many goes (λ r. is_held_at r 0) not_held (rows_of used words), kept_many goes (λ r. waits_at r 0) not_waiting (rows_of used words), kept_many goes (λ r. flies_at r 0) not_flying (rows_of used words)) refl
      ∙ sym (rows_recount (in_use words used) (rows_of used words) before)

  pub compacted_state : (figures : List ℕ) → state_sound (beside (in_use words used) figures) ≡ true → state_sound (beside (in_use (compacted used words) left) figures) ≡ true
  compacted_state figures s =
      let h = sound_state_lem (beside (in_use words used) figures) s in
      state_sound_lem (beside (in_use (compacted used words) left) figures) (record { table = compacted_sound h.table; figures = h.figures ∙ sym compacted_recount })
