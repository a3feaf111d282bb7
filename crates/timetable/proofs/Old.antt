-- M-110: a table of six-word rows with numbers in it is refused 2 by closing, compacting and adding. Assumes nothing.
use mathlib.Core.Path.{◌≡◌, refl}
use mathlib.Core.Logic.{⊎_elim}
use mathlib.Core.Bool.{false}
use mathlib.Core.List.{List}
use Prim.Native.Nat.{ℕ, ◌*◌, ◌≤◌, ◌<◌}
use native.Mathlib.Omega.{arith}
use lib.ListN.{length}
use lib.Seq.{get_or-take}
use borrow.Author.Tests.{lt-ltb, le-ltb}
use Rattle.answers.proofs.Tests.{less_or_not}
use Rattle.rows.specs.Rows.{row_words}
use Rattle.rows.specs.Old.{old_row_words, OldTable}
use Rattle.tables.specs.Tables.{rows_in, table_sound}
use Rattle.tables.proofs.Old.{second_number, old_unsound}
use Rattle.states.specs.States.{beside}
use Rattle.timetable.specs.Timetable.{refusal, leaving, in_use, closing_number, compacting, adding}
use Rattle.timetable.proofs.Using.{use_rows}

pub old_closing : (n : ℕ) (words figures : List ℕ) → 0 < n → OldTable n words → length words ≡ old_row_words * n
    → (number : ℕ) → closing_number (beside words figures) number ≡ leaving (refusal 2) words
unfolding closing_number
old_closing n words figures some old long number = rw (old_unsound n words some old long) refl

-- what is refused by either where the rows in use do not fit, or are unsound
module _ (words : List ℕ) (used : ℕ) (figures : List ℕ) (unfit : used ≤ rows_in words → table_sound (in_use words used) ≡ false) where
  unfit_compacting : compacting words used figures ≡ leaving (refusal 2) words
  unfolding compacting
  unfit_compacting = ⊎_elim (λ b. rw (lt-ltb (rows_in words) used b) refl) (λ h. rw (le-ltb (rows_in words) used h, unfit h) refl) (less_or_not (rows_in words) used)

  unfit_adding : (number : ℕ) → adding words used figures number ≡ leaving (refusal 2) words
  unfolding adding
  unfit_adding number = ⊎_elim (λ b. rw (lt-ltb (rows_in words) used b) refl) (λ h. rw (le-ltb (rows_in words) used h, unfit h) refl) (less_or_not (rows_in words) used)

-- two old rows or more at the front, whatever lies behind them, with any count but 0
module _ (n : ℕ) (words : List ℕ) (used : ℕ) (figures : List ℕ) (more : 1 < n) (some : 0 < used) (old : OldTable n words) where
  unfit_rows : used ≤ rows_in words → table_sound (in_use words used) ≡ false
  unfit_rows within = second_number (in_use words used) (rw (use_rows words used within) some) (rw (get_or-take (row_words * used) words old_row_words 0 (omega arith)) (old 1 more))

  pub old_compacting : compacting words used figures ≡ leaving (refusal 2) words
  old_compacting = unfit_compacting words used figures unfit_rows

  pub old_adding : (number : ℕ) → adding words used figures number ≡ leaving (refusal 2) words
  old_adding = unfit_adding words used figures unfit_rows

-- one old row, lent whole: it has no room for a row
module _ (words : List ℕ) (used : ℕ) (figures : List ℕ) (some : 0 < used) (long : length words ≡ old_row_words) where
  pub old_row_compacting : compacting words used figures ≡ leaving (refusal 2) words
  old_row_compacting = unfit_compacting words used figures (λ within. absurd (omega arith))

  pub old_row_adding : (number : ℕ) → adding words used figures number ≡ leaving (refusal 2) words
  old_row_adding = unfit_adding words used figures (λ within. absurd (omega arith))
