-- What closing, compacting and adding come to in each case. Assumes nothing.
use mathlib.Core.Path.{◌≡◌, sym}
use mathlib.Core.Bool.{true, false, ◌||◌}
use mathlib.Core.List.{List}
use Prim.Native.Nat.{ℕ, ◌+◌, ◌-◌, ◌≤◌, ◌<◌}
use lib.Dec.{leb}
use lib.ListN.{length}
use borrow.Author.Tests.{le-ltb, leb-false}
use Rattle.answers.proofs.Tests.{or_neither}
use Rattle.numbers.specs.Numbers.{is_number}
use Rattle.records.specs.Steps.{closing}
use Rattle.rows.specs.Rows.{record_at, stored}
use Rattle.std.specs.Prelude.{Some, None}
use Rattle.tables.specs.Tables.{most_numbers, rows_in, row_of}
use Rattle.states.specs.States.{State, beside, state_sound, refusal_of}
use Rattle.states.proofs.States.{state_table, state_right, state_refuses}
use Rattle.timetable.specs.Moving.{stay, compacted, inserted}
use Rattle.timetable.specs.Timetable.{refusal, shut, went, rows, leaving, in_use, is_there, buffer_refusal, closing_number, compacting, adding}
use Rattle.timetable.proofs.Using.{buffer_refuses}

-- ---- closing

module _ (s : State) (number : ℕ) where
  pub closing_state : (n : ℕ) → n ≡ refusal_of s → (n ≡ 0 → ⊥) → leaving (refusal n) s.table ≡ closing_number s number
  unfolding closing_number
  closing_state n said some = state_refuses s n said (λ k. leaving (refusal k) s.table) _ some

  module _ (sound : state_sound s ≡ true) where
    pub closing_malformed : is_number number ≡ false → leaving (refusal 7) s.table ≡ closing_number s number
    unfolding closing_number
    closing_malformed e = rw (state_table s sound, state_right s sound, e)

    module _ (form : is_number number ≡ true) where
      pub closing_missing : row_of s.table number ≡ None → leaving (refusal 52) s.table ≡ closing_number s number
      unfolding closing_number
      closing_missing e = rw (state_table s sound, state_right s sound, form, e)

      pub closing_done : (i : ℕ) → row_of s.table number ≡ Some i → closing_number s number ≡ leaving shut (stored s.table i (closing (record_at s.table i)))
      unfolding closing_number
      closing_done i e = rw (state_table s sound, state_right s sound, form, e)

-- ---- compacting

module _ (words : List ℕ) (used : ℕ) (figures : List ℕ) where
  pub compacting_refused : (n : ℕ) → n ≡ buffer_refusal words used figures → (n ≡ 0 → ⊥) → leaving (refusal n) words ≡ compacting words used figures
  unfolding compacting
  compacting_refused n said some = buffer_refuses words used figures n said (λ k. leaving (refusal k) words) _ some

  module _ (within : used ≤ rows_in words) (sound : state_sound (beside (in_use words used) figures) ≡ true) where
    pub compacting_done : compacting words used figures ≡ leaving (went (used - length (stay used words)) (length (stay used words))) (compacted used words)
    unfolding compacting
    compacting_done = rw (le-ltb (rows_in words) used within, state_table (beside (in_use words used) figures) sound, state_right (beside (in_use words used) figures) sound)

    -- as the code has it
    pub compacting_as : (left : ℕ) (after : List ℕ) → left ≡ length (stay used words) → after ≡ compacted used words
        → leaving (went (used - left) left) after ≡ compacting words used figures
    compacting_as left after l a = rw (l, a) (sym compacting_done)

-- ---- adding

-- below 1,024 rows and below the buffer's end
pub room_for : (words : List ℕ) (used : ℕ) → (leb most_numbers used || leb (rows_in words) used) ≡ false → (used < most_numbers) × (used < rows_in words)
room_for words used e =
    let b = or_neither (leb most_numbers used) (leb (rows_in words) used) e in
    (leb-false most_numbers used b.0, leb-false (rows_in words) used b.1)

module _ (words : List ℕ) (used : ℕ) (figures : List ℕ) (number : ℕ) where
  pub adding_refused : (n : ℕ) → n ≡ buffer_refusal words used figures → (n ≡ 0 → ⊥) → leaving (refusal n) words ≡ adding words used figures number
  unfolding adding
  adding_refused n said some = buffer_refuses words used figures n said (λ k. leaving (refusal k) words) _ some

  module _ (within : used ≤ rows_in words) (sound : state_sound (beside (in_use words used) figures) ≡ true) where
    pub adding_malformed : is_number number ≡ false → leaving (refusal 7) words ≡ adding words used figures number
    unfolding adding
    adding_malformed e = rw (le-ltb (rows_in words) used within, state_table (beside (in_use words used) figures) sound, state_right (beside (in_use words used) figures) sound, e)

    module _ (form : is_number number ≡ true) where
      pub adding_present : is_there (row_of (in_use words used) number) ≡ true → leaving (refusal 51) words ≡ adding words used figures number
      unfolding adding
      adding_present e = rw (le-ltb (rows_in words) used within, state_table (beside (in_use words used) figures) sound, state_right (beside (in_use words used) figures) sound, form, e)

      module _ (absent : is_there (row_of (in_use words used) number) ≡ false) where
        pub adding_full : (leb most_numbers used || leb (rows_in words) used) ≡ true → leaving (refusal 50) words ≡ adding words used figures number
        unfolding adding
        adding_full e = rw (le-ltb (rows_in words) used within, state_table (beside (in_use words used) figures) sound, state_right (beside (in_use words used) figures) sound, form, absent, e)

        pub adding_done : (leb most_numbers used || leb (rows_in words) used) ≡ false → adding words used figures number ≡ leaving (rows (used + 1)) (inserted number used words)
        unfolding adding
        adding_done e = rw (le-ltb (rows_in words) used within, state_table (beside (in_use words used) figures) sound, state_right (beside (in_use words used) figures) sound, form, absent, e)
