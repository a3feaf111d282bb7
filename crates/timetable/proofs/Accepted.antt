-- What each call keeps, whatever it answers; that a refusal changes nothing; and what a caller knows by the answer. Assumes nothing.
use mathlib.Core.Path.{◌≡◌, refl, sym, subst}
use mathlib.Core.Bool.{Bool, true, false, ◌||◌}
use mathlib.Core.List.{List}
use mathlib.Core.Option.{none}
use Prim.Native.Nat.{ℕ, ◌+◌, ◌-◌, ◌≤◌, ◌<◌}
use native.Mathlib.Omega.{arith}
use lib.Dec.{leb}
use lib.ListN.{length}
use borrow.Author.Tests.{not-false, ltb-false, le-leb}
use Rattle.answers.proofs.Tests.{no_path, and_both, or_left, or_right}
use Rattle.answers.proofs.Decide.{all_passed, decide_all}
use Rattle.numbers.specs.Numbers.{is_number}
use Rattle.tables.specs.Keys.{Found}
use Rattle.std.specs.Prelude.{Some, None}
use Rattle.tables.specs.Tables.{most_numbers, rows_in, table_sound, row_of, record_of}
use Rattle.tables.proofs.Stored.{record_missing}
use Rattle.states.specs.States.{State, beside, figures_right, state_sound}
use Rattle.states.proofs.States.{state_table}
use Rattle.timetable.specs.Moving.{stay, compacted, inserted}
use Rattle.timetable.specs.Timetable.{refusal, shut, went, rows, Outcome, leaving, in_use, rows_left, is_there, closing_checks, buffer_checks, adding_checks, closed_in, closing_number, compacting, adding}
use Rattle.timetable.proofs.Calls.{closing_malformed, closing_missing, closing_done, compacting_done, room_for, adding_malformed, adding_present, adding_full, adding_done}
use Rattle.timetable.proofs.Compacting.{compacted_state}
use Rattle.timetable.proofs.Adding.{added_state}
use Rattle.timetable.proofs.Closing.{closed_state}

-- ---- a refusal changes nothing

-- where a refusal was said, the words are those
abbrev Untouched : List ℕ → Outcome → Type 0
Untouched words o = (n : ℕ) → o.answer ≡ refusal n → o.words ≡ words

not_refused : {A : Type 0} {n : ℕ} → shut ≡ refusal n → A
not_refused e = absurd (let z : ◌≡◌ {A = ℕ} 0 1 = cc in omega arith)

pub closing_untouched : (s : State) (number n : ℕ) → (closing_number s number).answer ≡ refusal n → (closing_number s number).words ≡ s.table
unfolding closing_number
closing_untouched s number =
    decide_all (λ k. leaving (refusal k) s.table) (Untouched s.table) (λ k n e. refl) (closing_checks s number)
    (leaving shut (closed_in s.table (row_of s.table number))) (λ n e. not_refused e)

pub compacting_untouched : (words : List ℕ) (used : ℕ) (figures : List ℕ) (n : ℕ) → (compacting words used figures).answer ≡ refusal n → (compacting words used figures).words ≡ words
unfolding compacting
compacting_untouched words used figures =
    decide_all (λ k. leaving (refusal k) words) (Untouched words) (λ k n e. refl) (buffer_checks words used figures)
    (leaving (went (used - length (stay used words)) (length (stay used words))) (compacted used words)) (λ n e. absurd (let z : ◌≡◌ {A = ℕ} 0 1 = cc in omega arith))

pub adding_untouched : (words : List ℕ) (used : ℕ) (figures : List ℕ) (number n : ℕ) → (adding words used figures number).answer ≡ refusal n → (adding words used figures number).words ≡ words
unfolding adding
adding_untouched words used figures number =
    decide_all (λ k. leaving (refusal k) words) (Untouched words) (λ k n e. refl) (adding_checks words used figures number)
    (leaving (rows (used + 1)) (inserted number used words)) (λ n e. absurd (let z : ◌≡◌ {A = ℕ} 0 1 = cc in omega arith))

-- ---- a sound table with right figures stays so, whatever is answered

abbrev SoundAfter : ℕ → List ℕ → Outcome → Type 0
SoundAfter used figures o = state_sound (rows_left used figures o) ≡ true

pub closing_keeps : (s : State) (number : ℕ) → state_sound s ≡ true → state_sound (beside (closing_number s number).words s.figures) ≡ true
closing_keeps s number sound = go (is_number number) refl (row_of s.table number) refl
  where
    Keeps : Outcome → Type 0
    Keeps o = state_sound (beside o.words s.figures) ≡ true

    go : (b : Bool) → is_number number ≡ b → (f : Found) → row_of s.table number ≡ f → Keeps (closing_number s number)
    go false e f q = subst Keeps (closing_malformed s number sound e) sound
    go true e None q = subst Keeps (closing_missing s number sound e q) sound
    go true e (Some i) q = subst Keeps (sym (closing_done s number sound e i q)) (closed_state s number i sound q)

module _ (words : List ℕ) (used : ℕ) (figures : List ℕ) (within : used ≤ rows_in words) (sound : state_sound (beside (in_use words used) figures) ≡ true) where
  pub compacting_keeps : SoundAfter used figures (compacting words used figures)
  compacting_keeps = subst (SoundAfter used figures) (sym (compacting_done words used figures within sound)) (compacted_state words used within figures sound)

  module _ (number : ℕ) where
    pub missing : is_there (row_of (in_use words used) number) ≡ false → record_of (in_use words used) number ≡ none
    missing e = go (row_of (in_use words used) number) refl e
      where
        go : (f : Found) → row_of (in_use words used) number ≡ f → is_there f ≡ false → record_of (in_use words used) number ≡ none
        go None q h = record_missing (in_use words used) number q
        go (Some i) q h = no_path (sym h)

    pub adding_keeps : SoundAfter used figures (adding words used figures number)
    adding_keeps = go (is_number number) refl (is_there (row_of (in_use words used) number)) refl (leb most_numbers used || leb (rows_in words) used) refl
      where
        go :
            (form : Bool) → is_number number ≡ form → (there : Bool) → is_there (row_of (in_use words used) number) ≡ there
            → (full : Bool) → (leb most_numbers used || leb (rows_in words) used) ≡ full → SoundAfter used figures (adding words used figures number)
        go false a there b full c = subst (SoundAfter used figures) (adding_malformed words used figures number within sound a) sound
        go true a true b full c = subst (SoundAfter used figures) (adding_present words used figures number within sound a b) sound
        go true a false b true c = subst (SoundAfter used figures) (adding_full words used figures number within sound a b c) sound
        go true a false b false c =
            let r = room_for words used c in
            subst (SoundAfter used figures) (sym (adding_done words used figures number within sound a b c))
            (added_state words used number r.1 (state_table (beside (in_use words used) figures) sound) (missing b) a r.0 figures sound)

    -- "50 for adding to 1,024 rows or a full buffer"
    module _ (form : is_number number ≡ true) (absent : is_there (row_of (in_use words used) number) ≡ false) where
      pub full_table : most_numbers ≤ used → adding words used figures number ≡ leaving (refusal 50) words
      full_table h = sym (adding_full words used figures number within sound form absent (or_left (leb most_numbers used) (leb (rows_in words) used) (le-leb most_numbers used h)))

      pub full_buffer : rows_in words ≤ used → adding words used figures number ≡ leaving (refusal 50) words
      full_buffer h = sym (adding_full words used figures number within sound form absent (or_right (leb most_numbers used) (leb (rows_in words) used) (le-leb (rows_in words) used h)))

-- ---- what is known by the answer

pub record ClosedBy (s : State) (number : ℕ) : Type 0 where
  pub sound : state_sound s ≡ true
  pub form : is_number number ≡ true
  pub row : ℕ
  pub here : row_of s.table number ≡ Some row

pub closed_accepted : (s : State) (number : ℕ) → (closing_number s number).answer ≡ shut → ClosedBy s number
unfolding closing_number
closed_accepted s number e =
    let p = all_passed (λ k. leaving (refusal k) s.table) (λ (o : Outcome). o.answer ≡ shut) (λ n q. let z : ◌≡◌ {A = ℕ} 0 1 = cc in omega arith)
    (closing_checks s number) (leaving shut (closed_in s.table (row_of s.table number))) e in
    let c = p.0 in
    go (row_of s.table number) refl (and_both (table_sound s.table) (figures_right s) (not-false _ c.0) (not-false _ c.1.0)) (not-false _ c.1.1.0) (not-false _ c.1.1.1.0)
  where
    go : (f : Found) → row_of s.table number ≡ f → state_sound s ≡ true → is_number number ≡ true → is_there f ≡ true → ClosedBy s number
    go None q a b h = no_path h
    go (Some i) q a b h = record { sound = a; form = b; row = i; here = q }

pub record CompactedBy (words : List ℕ) (used : ℕ) (figures : List ℕ) (gone left : ℕ) : Type 0 where
  pub within : used ≤ rows_in words
  pub sound : state_sound (beside (in_use words used) figures) ≡ true
  pub how_many_lem : gone ≡ used - length (stay used words)
  pub count : left ≡ length (stay used words)

pub compacted_accepted : (words : List ℕ) (used : ℕ) (figures : List ℕ) (gone left : ℕ) → (compacting words used figures).answer ≡ went gone left → CompactedBy words used figures gone left
unfolding compacting
compacted_accepted words used figures gone left e =
    let p = all_passed (λ k. leaving (refusal k) words) (λ (o : Outcome). o.answer ≡ went gone left) (λ n q. let z : ◌≡◌ {A = ℕ} 0 1 = cc in omega arith)
    (buffer_checks words used figures) (leaving (went (used - length (stay used words)) (length (stay used words))) (compacted used words)) e in
    let checks = p.0 in
    let said = p.1 in
    record {
      within = ltb-false (rows_in words) used checks.0;
      sound = and_both (table_sound (in_use words used)) (figures_right (beside (in_use words used) figures)) (not-false _ checks.1.0) (not-false _ checks.1.1.0);
      how_many_lem = let q : used - length (stay used words) ≡ gone = cc in sym q;
      count = let q : length (stay used words) ≡ left = cc in sym q;
    }

pub record AddedBy (words : List ℕ) (used : ℕ) (figures : List ℕ) (number n : ℕ) : Type 0 where
  pub within : used ≤ rows_in words
  pub sound : state_sound (beside (in_use words used) figures) ≡ true
  pub form : is_number number ≡ true
  pub absent : is_there (row_of (in_use words used) number) ≡ false
  pub few : used < most_numbers
  pub room : used < rows_in words
  pub count : n ≡ used + 1

pub added_accepted : (words : List ℕ) (used : ℕ) (figures : List ℕ) (number n : ℕ) → (adding words used figures number).answer ≡ rows n → AddedBy words used figures number n
unfolding adding
added_accepted words used figures number n e =
    let p = all_passed (λ k. leaving (refusal k) words) (λ (o : Outcome). o.answer ≡ rows n) (λ m q. let z : ◌≡◌ {A = ℕ} 0 1 = cc in omega arith)
    (adding_checks words used figures number) (leaving (rows (used + 1)) (inserted number used words)) e in
    let c = p.0 in
    let said = p.1 in
    let r = room_for words used c.1.1.1.1.1.0 in
    record {
      within = ltb-false (rows_in words) used c.0;
      sound = and_both (table_sound (in_use words used)) (figures_right (beside (in_use words used) figures)) (not-false _ c.1.0) (not-false _ c.1.1.0);
      form = not-false _ c.1.1.1.0;
      absent = c.1.1.1.1.0;
      few = r.0;
      room = r.1;
      count = let q : used + 1 ≡ n = cc in sym q;
    }
