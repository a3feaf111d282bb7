-- A sound state: its table is sound and its figures are the recount; a step of a record keeps it so. Assumes nothing.
use mathlib.Core.Path.{◌≡◌, refl, sym, ap, ◌∙◌}
use mathlib.Core.Bool.{Bool, true, false, not, ◌&&◌}
use mathlib.Core.List.{List, [], ◌∷◌}
use Prim.Native.Nat.{ℕ, zero, suc, ◌+◌, ◌-◌, ◌≤◌, ◌<◌}
use native.Mathlib.Omega.{arith}
use lib.ListN.{length}
use borrow.Author.Tests.{eq-eqb}
use Rattle.std.specs.Prelude.{Result, Ok, Err}
use Rattle.answers.specs.Checks.{decide}
use Rattle.answers.specs.Numbers.{refusal_number}
use Rattle.answers.specs.declared.Refusal.{Refusal}
use Rattle.answers.specs.declared.Refusal.TheVariants as refusal
use Rattle.answers.proofs.Tests.{and_left, and_right, and_both}
use Rattle.numbers.specs.Numbers.{is_nobody}
use Rattle.records.specs.declared.Record.{Record}
use Rattle.records.specs.Steps.{is_waiting, is_in_flight}
use Rattle.rows.specs.Rows.{row_sound, record_at, stored, record_sound, one}
use Rattle.rows.proofs.Rows.{words_stored, record_sound_lem, record_other, record_stored}
use Rattle.tables.specs.Tables.{most_numbers, rows_in, table_sound}
use Rattle.tables.specs.Figures.{is_held_at, waits_at, flies_at, how_many, figure_count, recount}
use Rattle.tables.proofs.Sound.{table_few, table_row}
use Rattle.tables.proofs.Stored.{table_stored, rows_stored}
use Rattle.tables.proofs.Counts.{one_most, many_most, many_has, many_changed, row_waits, row_flies}
use Rattle.states.proofs.Words.{words_same, other_length}
use Rattle.states.specs.States.{State, beside, counted, same_words, figures_right, state_sound, said_check, refusal_of, record_in, counts_of, more, less, Among, Room, moved, stored_in}

-- ---- right figures

same_as_itself : (ws : List ℕ) → same_words ws ws ≡ true
same_as_itself [] = refl
same_as_itself (w ∷ ws) = simp (eq-eqb w w refl, same_as_itself ws)

pub record SoundState (s : State) : Type 0 where
  pub table : table_sound s.table ≡ true
  pub figures : s.figures ≡ recount s.table

pub state_table : (s : State) → state_sound s ≡ true → table_sound s.table ≡ true
state_table s e = and_left (table_sound s.table) (figures_right s) e

pub state_right : (s : State) → state_sound s ≡ true → figures_right s ≡ true
state_right s e = and_right (table_sound s.table) (figures_right s) e

pub sound_state_lem : (s : State) → state_sound s ≡ true → SoundState s
unfolding figures_right
sound_state_lem s e = record {
  table = state_table s e;
  figures = words_same s.figures (recount s.table) (state_right s e);
}

pub right_figures_lem : (s : State) → s.figures ≡ recount s.table → figures_right s ≡ true
unfolding figures_right
right_figures_lem s e = rw e (same_as_itself (recount s.table))

-- "a slice of another length differs from every recount"
pub other_figures : (s : State) → (length s.figures ≡ figure_count → ⊥) → figures_right s ≡ false
unfolding figures_right recount
other_figures s n = other_length s.figures (recount s.table) n

pub state_sound_lem : (s : State) → SoundState s → state_sound s ≡ true
state_sound_lem s h = and_both (table_sound s.table) (figures_right s) h.table (right_figures_lem s h.figures)

-- a table with its recount
pub counted_sound : (t : List ℕ) → table_sound t ≡ true → state_sound (counted t) ≡ true
counted_sound t e = state_sound_lem (counted t) (record { table = e; figures = refl })

-- a sound state is known by its table
pub same_state : (s u : State) → state_sound s ≡ true → state_sound u ≡ true → s.table ≡ u.table → s ≡ u
same_state s u a b e =
    let figures = (sound_state_lem s a).figures ∙ ap recount e ∙ sym (sound_state_lem u b).figures in
    rw (e, figures) refl

-- ---- refusals 2 and 10

-- no refusal has the number 0
pub refusal_some : (r : Refusal) → refusal_number r ≡ 0 → ⊥
refusal_some refusal.NoRoom e = omega arith
refusal_some refusal.UnsoundTable e = omega arith
refusal_some refusal.UnknownKind e = omega arith
refusal_some refusal.NotInPhase e = omega arith
refusal_some refusal.NotDue e = omega arith
refusal_some refusal.WrongDelay e = omega arith
refusal_some refusal.NoNumber e = omega arith
refusal_some refusal.UnsoundList e = omega arith
refusal_some refusal.Unfit e = omega arith
refusal_some refusal.WrongFigures e = omega arith
refusal_some refusal.NoMessage e = omega arith
refusal_some refusal.RadioFull e = omega arith
refusal_some refusal.NoNotice e = omega arith
refusal_some refusal.NoQuestion e = omega arith
refusal_some refusal.NotStorable e = omega arith
refusal_some refusal.UnsoundRadio e = omega arith
refusal_some refusal.ImageTooShort e = omega arith
refusal_some refusal.WrongDistance e = omega arith
refusal_some refusal.TooManyRows e = omega arith
refusal_some refusal.NoRoomForImage e = omega arith
refusal_some refusal.WrongLength e = omega arith
refusal_some refusal.TableFull e = omega arith
refusal_some refusal.AlreadyThere e = omega arith
refusal_some refusal.NotThere e = omega arith

module _ (s : State) (n : ℕ) (said : n ≡ refusal_of s) where
  pub state_passes : n ≡ 0 → state_sound s ≡ true
  state_passes z = go (table_sound s.table) (figures_right s) (sym said ∙ z)
    where
      go : (a b : Bool) → ◌≡◌ {A = ℕ} (decide ((not a, 2) ∷ (not b, 10) ∷ []) 0) 0 → (a && b) ≡ true
      go false b e = absurd (omega arith)
      go true false e = absurd (omega arith)
      go true true e = refl

  -- what comes of it, whatever a refusal comes to and whatever else is done
  pub state_refuses : {A : Type 0} (make : ℕ → A) (done : A) → (n ≡ 0 → ⊥)
      → make n ≡ decide ((not (table_sound s.table), make 2) ∷ (not (figures_right s), make 10) ∷ []) done
  state_refuses make done refused = go (table_sound s.table) (figures_right s) said
    where
      go : (a b : Bool) → n ≡ decide ((not a, 2) ∷ (not b, 10) ∷ []) 0 → make n ≡ decide ((not a, make 2) ∷ (not b, make 10) ∷ []) done
      go false b e = ap make e
      go true false e = ap make e
      go true true e = absurd (refused e)

-- the check of a call's table and figures: it answers by a refusal, or they are right
module _ (s : State) (answer : Result Unit Refusal) (said : said_check answer ≡ refusal_of s) where
  pub check_passes : {done : Unit} → answer ≡ Ok done → state_sound s ≡ true
  check_passes is = state_passes s (said_check answer) said (ap said_check is)

  -- what comes of it, whatever a refusal comes to and whatever else is done
  pub check_refuses : {A : Type 0} (make : ℕ → A) (done : A) (r : Refusal) → answer ≡ Err r
      → make (refusal_number r) ≡ decide ((not (table_sound s.table), make 2) ∷ (not (figures_right s), make 10) ∷ []) done
  check_refuses make done r is = state_refuses s (refusal_number r) (sym (ap said_check is) ∙ said) make done (refusal_some r)

-- what the recount said of the table, beside the figures
module _ (t figures : List ℕ) where
  module _ (words : List ℕ) (said : (table_sound t ≡ true) × (recount t ≡ words)) where
    pub refuses_figures : same_words figures words ≡ false → ◌≡◌ {A = ℕ} 10 (refusal_of (beside t figures))
    unfolding figures_right
    refuses_figures e = rw (said.0, said.1, e) refl

    pub refuses_none : same_words figures words ≡ true → ◌≡◌ {A = ℕ} 0 (refusal_of (beside t figures))
    unfolding figures_right
    refuses_none e = rw (said.0, said.1, e) refl

-- ---- a step of a record

row_held : (t : List ℕ) (i : ℕ) → is_held_at t i ≡ not (is_nobody (record_at t i).holder)
unfolding record_at
row_held t i = refl

-- how many rows pass a test, once row i is another
rest : (f lost gained after : ℕ) → after + lost ≡ f + gained → lost ≤ f → after ≡ (f - lost) + gained
rest f lost gained after e h = omega arith

module _ (t : List ℕ) (i : ℕ) (r : Record) (within : i < rows_in t) (sound : record_sound r ≡ true) where
  one_figure : (test : List ℕ → ℕ → Bool) (by : Record → Bool) → ((u : List ℕ) (j : ℕ) → test u j ≡ by (record_at u j))
      → how_many (test (stored t i r)) (rows_in (stored t i r)) ≡ (how_many (test t) (rows_in t) - one (by (record_at t i))) + one (by r)
  one_figure test by same =
      let here : test (stored t i r) i ≡ by r = same (stored t i r) i ∙ ap by (record_stored t i r within sound) in
      let changed = many_changed (test t) (test (stored t i r)) i (λ j n. same (stored t i r) j ∙ ap by (record_other t i r j n) ∙ sym (same t j)) (rows_in t) within in
      rw (rows_stored t i r)
      (rest (how_many (test t) (rows_in t)) (one (by (record_at t i))) (one (by r)) (how_many (test (stored t i r)) (rows_in t))
      (rw (here, same t i) at changed) (rw (same t i) at (many_has (test t) (rows_in t) i within)))

  pub recount_stored : recount (stored t i r) ≡ moved (recount t) (record_at t i) r
  unfolding recount moved
  recount_stored = rw (
    one_figure is_held_at (λ r. not (is_nobody r.holder)) row_held,
    one_figure waits_at (λ r. is_waiting r.notice) row_waits,
    one_figure flies_at (λ r. is_in_flight r.notice) row_flies,
  ) refl

-- table and figures, each changed by its own
pub stored_parts : (s : State) (i : ℕ) (next : Record) (table figures lost gained : List ℕ) → lost ≡ counts_of (record_in s i) → gained ≡ counts_of next
    → figures ≡ more (less s.figures lost) gained → table ≡ stored s.table i next → beside table figures ≡ stored_in s i next
unfolding moved
stored_parts s i next table figures lost gained l g f t = rw (t, f, l, g) refl

module _ (s : State) (i : ℕ) (sound : state_sound s ≡ true) (within : i < rows_in s.table) where
  pub state_row : row_sound s.table i ≡ true
  state_row = table_row s.table (state_table s sound) i within

  -- what the row counts is among the figures, and there is room for any record's counts
  pub record Fits : Type 0 where
    pub three : length s.figures ≡ figure_count
    pub among : Among (counts_of (record_in s i)) s.figures
    pub room : (r : Record) → Room s.figures (counts_of r)

  pub state_fits : Fits
  unfolding recount
  state_fits = record { three = rw figures refl; among = rw figures among; room = λ r. rw figures (room r) }
    where
      t : List ℕ
      t = s.table

      figures : s.figures ≡ recount t
      figures = (sound_state_lem s sound).figures

      among : Among (counts_of (record_in s i)) (recount t)
      among zero = rw (← (row_held t i)) (many_has (is_held_at t) (rows_in t) i within)
      among (suc zero) = rw (← (row_waits t i)) (many_has (waits_at t) (rows_in t) i within)
      among (suc (suc zero)) = rw (← (row_flies t i)) (many_has (flies_at t) (rows_in t) i within)
      among (suc (suc (suc j))) = omega arith

      few : rows_in t ≤ most_numbers
      few = table_few t (state_table s sound)

      room : (r : Record) → Room (recount t) (counts_of r)
      room r zero = omega (arith, few, many_most (is_held_at t) (rows_in t), one_most (not (is_nobody r.holder)))
      room r (suc zero) = omega (arith, few, many_most (waits_at t) (rows_in t), one_most (is_waiting r.notice))
      room r (suc (suc zero)) = omega (arith, few, many_most (flies_at t) (rows_in t), one_most (is_in_flight r.notice))
      room r (suc (suc (suc j))) = omega arith

  pub state_stored : (r : Record) → record_sound r ≡ true → state_sound (stored_in s i r) ≡ true
  state_stored r k =
      let h = sound_state_lem s sound in
      state_sound_lem (stored_in s i r) (record {
        table = table_stored s.table i r h.table within k;
        figures = ap (λ f. moved f (record_in s i) r) h.figures ∙ sym (recount_stored s.table i r within k);
      })

  -- storing the record that it has changes nothing
  pub stored_back : stored_in s i (record_in s i) ≡ s
  stored_back =
      same_state (stored_in s i (record_in s i)) s (state_stored (record_in s i) (record_sound_lem s.table i state_row)) sound (words_stored s.table i state_row)
