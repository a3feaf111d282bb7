-- The rows in use: how many they are, which they are, and what the checks of table and figures say of them. Assumes nothing.
use mathlib.Core.Path.{◌≡◌, refl, sym, ap, ◌∙◌}
use mathlib.Core.Bool.{Bool, true, false, not, ◌&&◌}
use mathlib.Core.List.{List, [], ◌∷◌}
use Prim.Native.Nat.{ℕ, zero, suc, ◌+◌, ◌*◌, ◌/◌, ◌≤◌, ◌<◌}
use native.Mathlib.Omega.{arith}
use lib.Dec.{ltb}
use lib.ListN.{length}
use lib.Seq.{length-take-le, take-take}
use borrow.Author.Tests.{lt-ltb, le-ltb, ltb-false}
use Rattle.std.specs.Prelude.{Result, Ok, Err, IsErrAnd}
use Rattle.answers.specs.Checks.{decide}
use Rattle.answers.specs.declared.Refusal.{Refusal}
use Rattle.numbers.specs.Numbers.{is_nobody}
use Rattle.records.specs.declared.Record.{Record}
use Rattle.records.specs.Steps.{is_absent, has_run_out}
use Rattle.rows.specs.Rows.{row_words, row_sound, row}
use Rattle.tables.specs.Tables.{rows_in, table_sound}
use Rattle.tables.proofs.Sound.{table_row}
use Rattle.tables.proofs.Alone.{alone_row_sound}
use Rattle.states.specs.States.{beside, figures_right, state_sound, said_check, refusal_of}
use Rattle.timetable.specs.Moving.{rows_of}
use Rattle.timetable.specs.Timetable.{in_use, buffer_refusal}
use Rattle.timetable.proofs.Rows.{row_same}
use Rattle.timetable.proofs.Lists.{AreRows}

-- ---- a record that has run out

pub run_out : (r : Record) → ((r.closed && is_nobody r.holder) && is_absent r.notice) ≡ has_run_out r
unfolding has_run_out
run_out r = and_assoc r.closed (is_nobody r.holder) (is_absent r.notice)
  where
    and_assoc : (a b c : Bool) → ((a && b) && c) ≡ (a && (b && c))
    and_assoc true b c = refl
    and_assoc false b c = refl

-- ---- the rows in use

pub whole_rows : (n : ℕ) → (row_words * n) / row_words ≡ n
whole_rows n = omega arith

module _ (words : List ℕ) (used : ℕ) (within : used ≤ rows_in words) where
  pub use_fits : row_words * used ≤ length words
  use_fits = omega arith

  pub use_length : length (in_use words used) ≡ row_words * used
  use_length = length-take-le (row_words * used) words use_fits

  pub use_rows : rows_in (in_use words used) ≡ used
  use_rows = ap (λ (n : ℕ). n / row_words) use_length ∙ whole_rows used

  pub use_row : (i : ℕ) → i < used → row (in_use words used) i ≡ row words i
  use_row i l = row_same (in_use words used) words i (rw use_length (omega arith)) (omega arith) (take-take (row_words * (i + 1)) (row_words * used) words (omega arith))

  pub use_sound : table_sound (in_use words used) ≡ true → (i : ℕ) → i < used → row_sound (row words i) 0 ≡ true
  use_sound sound i l =
      ap (λ (r : List ℕ). row_sound r 0) (sym (use_row i l)) ∙ alone_row_sound (in_use words used) i ∙ table_row (in_use words used) sound i (rw use_rows l)

-- rows of the words are those of the table that they are
pub rows_used : (words : List ℕ) (used : ℕ) (rs : List (List ℕ)) → used ≤ rows_in words → rows_of used words ≡ rs → length rs ≡ used → AreRows (in_use words used) rs
rows_used words used rs within e n = record {
  long = use_length words used within ∙ ap (λ (k : ℕ). row_words * k) (sym n);
  are = rw n (same used (omega arith) ∙ e);
}
  where
    same : (k : ℕ) → k ≤ used → rows_of k (in_use words used) ≡ rows_of k words
    same zero l = refl
    same (suc k) l = rw (same k (omega arith), use_row words used within k (omega arith)) refl

-- ---- refusals 2 and 10

module _ (words : List ℕ) (used : ℕ) (figures : List ℕ) where
  pub refuses_beyond : rows_in words < used → ◌≡◌ {A = ℕ} 2 (buffer_refusal words used figures)
  unfolding buffer_refusal
  refuses_beyond h = rw (lt-ltb (rows_in words) used h)

  pub refuses_within : used ≤ rows_in words → (n : ℕ) → n ≡ refusal_of (beside (in_use words used) figures) → n ≡ buffer_refusal words used figures
  unfolding buffer_refusal
  refuses_within h n e = rw (le-ltb (rows_in words) used h) e

  module _ (n : ℕ) (said : n ≡ buffer_refusal words used figures) where
    pub buffer_passes : n ≡ 0 → (used ≤ rows_in words) × (state_sound (beside (in_use words used) figures) ≡ true)
    unfolding buffer_refusal
    buffer_passes z = go (ltb (rows_in words) used) refl (table_sound (in_use words used)) (figures_right (beside (in_use words used) figures)) (sym said ∙ z)
      where
        go : (o : Bool) → ltb (rows_in words) used ≡ o → (a b : Bool) → ◌≡◌ {A = ℕ} (decide ((o, 2) ∷ (not a, 2) ∷ (not b, 10) ∷ []) 0) 0 → (used ≤ rows_in words) × ((a && b) ≡ true)
        go true q a b e = absurd (omega arith)
        go false q false b e = absurd (omega arith)
        go false q true false e = absurd (omega arith)
        go false q true true e = (ltb-false (rows_in words) used q, refl)

    -- what comes of it, whatever a refusal comes to and whatever else is done
    pub buffer_refuses : {A : Type 0} (make : ℕ → A) (done : A) → (n ≡ 0 → ⊥)
        → make n ≡ decide ((ltb (rows_in words) used, make 2) ∷ (not (table_sound (in_use words used)), make 2) ∷ (not (figures_right (beside (in_use words used) figures)), make 10) ∷ []) done
    unfolding buffer_refusal
    buffer_refuses make done refused = go (ltb (rows_in words) used) (table_sound (in_use words used)) (figures_right (beside (in_use words used) figures)) said
      where
        go : (o a b : Bool) → n ≡ decide ((o, 2) ∷ (not a, 2) ∷ (not b, 10) ∷ []) 0 → make n ≡ decide ((o, make 2) ∷ (not a, make 2) ∷ (not b, make 10) ∷ []) done
        go true a b e = ap make e
        go false false b e = ap make e
        go false true false e = ap make e
        go false true true e = absurd (refused e)

-- the check of the rows in use: it answers by a refusal, or they are right
module _ (words : List ℕ) (used : ℕ) (figures : List ℕ) (answer : Result Unit Refusal) (said : said_check answer ≡ buffer_refusal words used figures) where
  pub in_use_passes : {done : Unit} → answer ≡ Ok done → (used ≤ rows_in words) × (state_sound (beside (in_use words used) figures) ≡ true)
  in_use_passes is = buffer_passes words used figures (said_check answer) said (ap said_check is)

-- the error that `?` hands on is the one it met
pub handed_on : {X : Type 0} (r : Result X Refusal) (e : Refusal) → IsErrAnd r (λ y. y ≡ e) → r ≡ Err e
handed_on (Ok x) e h = absurd h
handed_on (Err y) e h = ap Err h
