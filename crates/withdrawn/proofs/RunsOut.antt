-- M-110: over any list of calls and closings a closed number never gets a new holder; its holder is the one before or nobody; and once it has neither holder nor notice nothing changes it. Assumes nothing.
use mathlib.Core.Path.{◌≡◌, refl, sym, ap, ◌∙◌, subst}
use mathlib.Core.Logic.{◌⊎◌, inl, inr, ⊎_elim}
use mathlib.Core.Bool.{Bool, true, false}
use mathlib.Core.Option.{some}
use mathlib.Core.List.{List, [], ◌∷◌}
use Prim.Native.Nat.{ℕ}
use lib.Dec.{eqb}
use borrow.Author.Tests.{eqb-true, eqb-false}
use Rattle.numbers.specs.Numbers.{is_number}
use Rattle.numbers.specs.declared.FunctionalNumber.{FunctionalNumber}
use Rattle.records.specs.Steps.{closing}
use Rattle.tables.specs.Keys.{Found}
use Rattle.std.specs.Prelude.{Some, None}
use Rattle.tables.specs.Tables.{row_of}
use Rattle.tables.proofs.Stored.{record_found_lem}
use Rattle.states.specs.States.{State, beside, state_sound, record_for, record_in}
use Rattle.timetable.specs.Timetable.{Outcome, shut, closing_number}
use Rattle.timetable.proofs.Accepted.{closing_keeps, closed_accepted}
use Rattle.timetable.proofs.Calls.{closing_malformed, closing_missing, closing_done}
use Rattle.timetable.proofs.Closing.{closed_own, closed_other, closed_already}
use Rattle.rules.specs.Requests.{holder_in, is_closed}
use Rattle.rules.specs.Demand.{holder_of}
use Rattle.promises.specs.Withdrawn.{run_out, Withdrawn}
use Rattle.rules.proofs.Calls.{calls_keep}
use Rattle.promises.proofs.Withdrawn.{withdrawn}
use Rattle.withdrawn.specs.Events.{Event, called, closes, left_by, left_by_all}

-- a record that stays
same_record : (k : ℕ) (s u : State) → is_closed (record_for s k) ≡ true → record_for u k ≡ record_for s k → Withdrawn k s u
same_record k s u c e = record { closed = ap is_closed e ∙ c; holder = inl (ap (λ o. (holder_in o).0) e); unchanged = λ r. e }

-- one behind the other
twice : (k : ℕ) (s u v : State) → Withdrawn k s u → Withdrawn k u v → Withdrawn k s v
twice k s u v p q = record {
  closed = q.closed;
  holder = ⊎_elim (λ e. ⊎_elim (λ h. inl (e ∙ h)) (λ h. inr (e ∙ h)) p.holder) (λ e. inr e) q.holder;
  unchanged = λ r. let e = p.unchanged r in q.unchanged (ap run_out e ∙ r) ∙ e;
}

module _ (list : List ℕ) (delay : ℕ) where
  keeps : (e : Event) (s : State) → state_sound s ≡ true → state_sound (left_by list delay e s) ≡ true
  keeps (called c) s sound = (calls_keep list delay (c ∷ []) s sound).sound
  keeps (closes number) s sound = closing_keeps s number.0 sound

  module _ (k : ℕ) where
    closing_stays : (n : ℕ) (s : State) → state_sound s ≡ true → is_closed (record_for s k) ≡ true → record_for (beside (closing_number s n).words s.figures) k ≡ record_for s k
    closing_stays n s sound c = go (is_number n) refl (row_of s.table n) refl (eqb k n) refl
      where
        Stays : Outcome → Type 0
        Stays o = record_for (beside o.words s.figures) k ≡ record_for s k

        go : (b : Bool) → is_number n ≡ b → (f : Found) → row_of s.table n ≡ f → (same : Bool) → eqb k n ≡ same → Stays (closing_number s n)
        go false e f q same m = subst Stays (closing_malformed s n sound e) refl
        go true e None q same m = subst Stays (closing_missing s n sound e q) refl
        go true e (Some i) q true m =
            let one = eqb-true k n m in
            let already : (record_in s i).closed ≡ true = sym (ap is_closed (record_found_lem s.table n i q)) ∙ ap (λ (x : ℕ). is_closed (record_for s x)) (sym one) ∙ c in
            subst Stays (sym (closed_already s n i sound q e already)) refl
        go true e (Some i) q false m = subst Stays (sym (closing_done s n sound e i q)) (closed_other s n i sound q k (eqb-false k n m))

    event_withdrawn : (e : Event) (s : State) → state_sound s ≡ true → is_closed (record_for s k) ≡ true → Withdrawn k s (left_by list delay e s)
    event_withdrawn (called c) s sound closed = withdrawn list delay k (c ∷ []) s closed
    event_withdrawn (closes number) s sound closed = same_record k s _ closed (closing_stays number.0 s sound closed)

    pub runs_out : (es : List Event) (s : State) → state_sound s ≡ true → is_closed (record_for s k) ≡ true → Withdrawn k s (left_by_all list delay es s)
    runs_out [] s sound closed = same_record k s s closed refl
    runs_out (e ∷ es) s sound closed =
        let first = event_withdrawn e s sound closed in
        twice k s (left_by list delay e s) _ first (runs_out es (left_by list delay e s) (keeps e s sound) first.closed)

-- from its closing on: closed, and held by the one at the closing or by nobody
pub closed_runs_out : (list : List ℕ) (delay : ℕ) (k : FunctionalNumber) (es : List Event) (s : State) → (closing_number s k.0).answer ≡ shut
    → let after = left_by_all list delay (closes k ∷ es) s in
    (is_closed (record_for after k.0) ≡ true) × ((holder_of after k.0 ≡ holder_of s k.0) ⊎ (holder_of after k.0 ≡ 0))
closed_runs_out list delay k es s said =
    let by = closed_accepted s k.0 said in
    let before = record_found_lem s.table k.0 by.row by.here in
    let left = left_by list delay (closes k) s in
    let own : record_for left k.0 ≡ some (closing (record_in s by.row)) =
    ap (λ (o : Outcome). record_for (beside o.words s.figures) k.0) (closing_done s k.0 by.sound by.form by.row by.here)
    ∙ closed_own s k.0 by.row by.sound by.here (record_in s by.row) before in
    let kept : holder_of left k.0 ≡ holder_of s k.0 = ap (λ o. (holder_in o).0) own ∙ sym (ap (λ o. (holder_in o).0) before) in
    let w = runs_out list delay k.0 es left (keeps list delay (closes k) s by.sound) (ap is_closed own) in
    (w.closed, ⊎_elim (λ h. inl (h ∙ kept)) (λ h. inr h) w.holder)
