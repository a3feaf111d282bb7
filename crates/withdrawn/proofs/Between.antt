-- M-110: M-108's equation survives closing, compacting and adding between two lists of calls, of all numbers and of each. Assumes nothing.
use mathlib.Core.Path.{◌≡◌, refl, sym, ap, subst, ◌∙◌}
use mathlib.Core.Bool.{Bool, true, false, not, ◌&&◌, ◌||◌}
use mathlib.Core.Option.{Option, none, some}
use mathlib.Core.List.{List, [], ◌∷◌, ◌++◌}
use Prim.Native.Nat.{ℕ, ◌+◌, ◌≤◌}
use native.Mathlib.Omega.{arith}
use lib.Dec.{eqb, leb}
use lib.ListN.{length-append}
use borrow.Author.Tests.{eqb-true, eqb-false}
use Rattle.answers.proofs.Tests.{and_right}
use Rattle.numbers.specs.Numbers.{is_number, is_nobody}
use Rattle.records.specs.declared.Record.{Record}
use Rattle.records.specs.Steps.{is_absent, has_run_out}
use Rattle.rows.specs.Rows.{one}
use Rattle.tables.specs.Keys.{Found}
use Rattle.std.specs.Prelude.{Some, None}
use Rattle.tables.specs.Tables.{most_numbers, rows_in, row_of}
use Rattle.tables.proofs.Stored.{record_found_lem}
use Rattle.states.specs.States.{State, beside, state_sound, record_for, record_in}
use Rattle.states.proofs.States.{state_table}
use Rattle.timetable.specs.Timetable.{Outcome, in_use, rows_left, is_there, closing_number, compacting, adding}
use Rattle.timetable.proofs.Calls.{closing_malformed, closing_missing, closing_done, compacting_done, room_for, adding_malformed, adding_present, adding_full, adding_done}
use Rattle.timetable.proofs.Closing.{closed_own, closed_other}
use Rattle.timetable.proofs.Compacting.{unless_run_out, compacted_found}
use Rattle.timetable.proofs.Adding.{added_found, added_other}
use Rattle.timetable.proofs.Accepted.{closing_keeps, compacting_keeps, missing, adding_keeps}
use Rattle.rules.specs.Notices.{notice_in}
use Rattle.rules.specs.Run.{only, log, end}
use Rattle.rules.specs.Calls.{Call, Reply, names_one, call}
use Rattle.rules.specs.Demand.{got_by}
use Rattle.promises.specs.Accounts.{makes_notice, is_delivery, is_dropped_by_kind, is_dropped_last, how_often, pending_for, pending_in, Balanced}
use Rattle.rules.proofs.Calls.{calls_keep}
use Rattle.promises.proofs.Totals.{pending_figures, balanced, balanced_of}
use Rattle.withdrawn.specs.Lists.{Unbroken, Across}

-- ---- two lists one behind the other

only_both : {X : Type 0} (test : X → Bool) (a b : List X) → only test (a ++ b) ≡ only test a ++ only test b
only_both test [] b = refl
only_both {X = X} test (x ∷ xs) b = go (test x) refl (only_both test xs b)
  where
    go : (p : Bool) → test x ≡ p → only test (xs ++ b) ≡ only test xs ++ only test b → only test (x ∷ xs ++ b) ≡ only test (x ∷ xs) ++ only test b
    go true u rest = rw u (ap (λ (l : List X). x ∷ l) rest)
    go false u rest = rw u rest

often_both : (test : Call × Reply → Bool) (a b : List (Call × Reply)) → how_often test (a ++ b) ≡ how_often test a + how_often test b
often_both test a b = rw (only_both test a b, length-append) refl

balanced_both : (a b : List (Call × Reply)) (before between after : ℕ) → Balanced a before between → Balanced b between after → Balanced (a ++ b) before after
balanced_both a b before between after p q =
    omega (arith, p, q, often_both makes_notice a b, often_both is_delivery a b, often_both is_dropped_by_kind a b, often_both is_dropped_last a b)

-- whatever leaves the notices pending as they were, the equation goes on behind it
pub across : (list : List ℕ) (delay : ℕ) (calls : List Call) (start : State) (more : List Call) (next : State)
    → Unbroken (end (call list delay) calls start) next → Across list delay calls start more next
across list delay calls start more next same = record {
  all_numbers = balanced_both first second (pending_in start) (pending_in next) _ (rw same.all (balanced list delay calls start)) (balanced list delay more next);
  each_number = λ k. rw (only_both (λ p. names_one list p.0 k) first second)
      (balanced_both (got_by list k first) (got_by list k second) (pending_for start k) (pending_for next k) _ (rw (same.each k) (balanced_of list delay calls start k)) (balanced_of list delay more next k));
}
  where
    first : List (Call × Reply)
    first = log (call list delay) calls start

    second : List (Call × Reply)
    second = log (call list delay) more next

-- ---- none of the three makes or ends a notice

-- sound states with the same figures have as many notices pending
same_pending : (s u : State) → state_sound s ≡ true → state_sound u ≡ true → u.figures ≡ s.figures → pending_in u ≡ pending_in s
same_pending s u p q e = pending_figures u q ∙ rw e (sym (pending_figures s p))

-- by what is found for a number
abbrev pending_of : Option Record → ℕ
pending_of o = one (not (is_absent (notice_in o)))

run_out_absent : (o : Option Record) → pending_of (unless_run_out o) ≡ pending_of o
unfolding has_run_out
run_out_absent none = refl
run_out_absent (some r) = go (has_run_out r) refl
  where
    go : (b : Bool) → has_run_out r ≡ b → pending_of (unless_run_out (some r)) ≡ pending_of (some r)
    go true e =
        let a : is_absent r.notice ≡ true = and_right (is_nobody r.holder) (is_absent r.notice) (and_right r.closed (is_nobody r.holder && is_absent r.notice) e) in
        rw (e, a) refl
    go false e = rw e refl

pub closing_unbroken : (s : State) (number : ℕ) → state_sound s ≡ true → Unbroken s (beside (closing_number s number).words s.figures)
closing_unbroken s number sound = record {
  all = same_pending s _ sound (closing_keeps s number sound) refl;
  each = λ k. go k (is_number number) refl (row_of s.table number) refl (eqb k number) refl;
}
  where
    Same : ℕ → Outcome → Type 0
    Same k o = pending_for (beside o.words s.figures) k ≡ pending_for s k

    go : (k : ℕ) (b : Bool) → is_number number ≡ b → (f : Found) → row_of s.table number ≡ f → (same : Bool) → eqb k number ≡ same → Same k (closing_number s number)
    go k false e f q same m = subst (Same k) (closing_malformed s number sound e) refl
    go k true e None q same m = subst (Same k) (closing_missing s number sound e q) refl
    go k true e (Some i) q true m =
        let found = record_found_lem s.table number i q in
        rw (eqb-true k number m) (subst (Same number) (sym (closing_done s number sound e i q))
        (ap pending_of (closed_own s number i sound q (record_in s i) found) ∙ sym (ap pending_of found)))
    go k true e (Some i) q false m =
        subst (Same k) (sym (closing_done s number sound e i q)) (ap pending_of (closed_other s number i sound q k (eqb-false k number m)))

module _ (words : List ℕ) (used : ℕ) (figures : List ℕ) (within : used ≤ rows_in words) (sound : state_sound (beside (in_use words used) figures) ≡ true) where
  abbrev rows_before : State
  rows_before = beside (in_use words used) figures

  pub compacting_unbroken : Unbroken rows_before (rows_left used figures (compacting words used figures))
  compacting_unbroken = record {
    all = same_pending rows_before _ sound (compacting_keeps words used figures within sound) refl;
    each = λ k. subst (λ (o : Outcome). pending_for (rows_left used figures o) k ≡ pending_for rows_before k) (sym (compacting_done words used figures within sound))
        (ap pending_of (compacted_found words used within (state_table rows_before sound) k) ∙ run_out_absent (record_for rows_before k));
  }

  module _ (number : ℕ) where
    abbrev Same : ℕ → Outcome → Type 0
    Same k o = pending_for (rows_left used figures o) k ≡ pending_for rows_before k

    pub adding_unbroken : Unbroken rows_before (rows_left used figures (adding words used figures number))
    adding_unbroken = record {
      all = same_pending rows_before _ sound (adding_keeps words used figures within sound number) refl;
      each = λ k. go k (is_number number) refl (is_there (row_of (in_use words used) number)) refl (leb most_numbers used || leb (rows_in words) used) refl (eqb k number) refl;
    }
      where
        go :
            (k : ℕ) (form : Bool) → is_number number ≡ form → (there : Bool) → is_there (row_of (in_use words used) number) ≡ there
            → (full : Bool) → (leb most_numbers used || leb (rows_in words) used) ≡ full → (same : Bool) → eqb k number ≡ same → Same k (adding words used figures number)
        go k false a there b full c same m = subst (Same k) (adding_malformed words used figures number within sound a) refl
        go k true a true b full c same m = subst (Same k) (adding_present words used figures number within sound a b) refl
        go k true a false b true c same m = subst (Same k) (adding_full words used figures number within sound a b c) refl
        go k true a false b false c true m =
            let r = room_for words used c in
            let absent = missing words used figures within sound number b in
            let table = state_table rows_before sound in
            rw (eqb-true k number m) (subst (Same number) (sym (adding_done words used figures number within sound a b c))
            (ap pending_of (added_found words used number r.1 table absent a) ∙ sym (ap pending_of absent)))
        go k true a false b false c false m =
            let r = room_for words used c in
            subst (Same k) (sym (adding_done words used figures number within sound a b c))
            (ap pending_of (added_other words used number r.1 (state_table rows_before sound) (missing words used figures within sound number b) a k (eqb-false k number m)))

-- ---- so it survives them

module _ (list : List ℕ) (delay : ℕ) (calls : List Call) (start : State) (more : List Call) (sound : state_sound start ≡ true) where
  abbrev left : State
  left = end (call list delay) calls start

  left_sound : state_sound left ≡ true
  left_sound = (calls_keep list delay calls start sound).sound

  pub across_closing : (number : ℕ) → Across list delay calls start more (beside (closing_number left number).words left.figures)
  across_closing number = across list delay calls start more _ (closing_unbroken left number left_sound)

  -- the first calls left the rows in use and the figures that are lent
  module _ (words : List ℕ) (used : ℕ) (figures : List ℕ) (within : used ≤ rows_in words) (lent : left ≡ beside (in_use words used) figures) where
    lent_sound : state_sound (beside (in_use words used) figures) ≡ true
    lent_sound = ap state_sound (sym lent) ∙ left_sound

    behind : (o : Outcome) → Unbroken (beside (in_use words used) figures) (rows_left used figures o) → Across list delay calls start more (rows_left used figures o)
    behind o same = across list delay calls start more (rows_left used figures o) (subst (λ (s : State). Unbroken s (rows_left used figures o)) (sym lent) same)

    pub across_compacting : Across list delay calls start more (rows_left used figures (compacting words used figures))
    across_compacting = behind (compacting words used figures) (compacting_unbroken words used figures within lent_sound)

    pub across_adding : (number : ℕ) → Across list delay calls start more (rows_left used figures (adding words used figures number))
    across_adding number = behind (adding words used figures number) (adding_unbroken words used figures within lent_sound number)
