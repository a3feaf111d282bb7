-- Demand 1 holds of every call, over any words and octets: each check's answer and what is done where none holds. Assumes nothing.
use mathlib.Core.Path.{◌≡◌, refl, sym, ap, ◌∙◌}
use mathlib.Core.Logic.{⊎_elim}
use mathlib.Core.Bool.{Bool, true, false, ◌||◌}
use mathlib.Core.Option.{none, some}
use mathlib.Core.List.{List, [], map}
use Prim.Native.Nat.{ℕ}
use lib.Dec.{eqb}
use borrow.Author.Tests.{not-true, not-false}
use Rattle.answers.proofs.Tests.{no_path, and_both, or_neither}
use Rattle.answers.proofs.Decide.{decide_by, decide_each}
use Rattle.numbers.specs.declared.Msisdn.{Msisdn}
use Rattle.strings.specs.declared.Operation.{Operation}
use Rattle.strings.specs.declared.Operation.TheVariants.{Register, Erase, Interrogate}
use Rattle.strings.specs.Text.{Request}
use Rattle.strings.specs.Outcomes.{request_of}
use Rattle.records.specs.declared.Record.{Record}
use Rattle.records.specs.Steps.{held_by}
use Rattle.tables.specs.Keys.{Found}
use Rattle.std.specs.Prelude.{Some, None}
use Rattle.tables.specs.Tables.{table_sound, flags_of}
use Rattle.tables.proofs.Stored.{record_found_lem}
use Rattle.states.specs.States.{State, figures_right, state_sound, row_for, record_for, record_in, stored_in}
use Rattle.rules.specs.Answers.{Answer, Outcome, is_negative_number, interrogation_number, crew_registered, crew_erased, refusing}
use Rattle.rules.specs.Requests as requests
use Rattle.rules.specs.Frames.{own_reply}
use Rattle.rules.specs.Requests.{Verdict, says, tells, Stepping}
use Rattle.rules.specs.Notices as notices
use Rattle.rules.specs.Run.{end}
use Rattle.rules.specs.Calls.{Call, request, framed, sending, result, terminal, routes, clock_reading, call, name_of, codes_read, codes_of, steps_of}
use Rattle.rules.specs.Demand.{is_crew_outcome, Demand1, registers_as, registers, requester_of, holder_of}
use Rattle.rules.proofs.Once.{requesting_once, single}
use Rattle.rules.proofs.Inside.{Opened, shut, carries, opened}
use Rattle.rules.proofs.Visits.{found_back, naming}
use Rattle.rules.proofs.Leaves.{leaves}
use Rattle.rules.proofs.Routes.{routing_each}
use Rattle.rules.proofs.Each.{returned_each, terminal_each, once_each}
use Rattle.rules.proofs.Single.{call_single}
use Rattle.rules.proofs.Steps.{goes_said, View, own, stops, goes, view}
use Rattle.rules.proofs.Calls.{step_end}
use Rattle.rules.proofs.Unsound.{unsound_single, unsound_call, unsound_stays}

-- ---- a holder who registers again

held_already : (r : Record) (m : Msisdn) → r.holder.0 ≡ m.0 → held_by m r ≡ r
held_already r m e = rw (← e) refl

module _ (list reply : List ℕ) (requester : Msisdn) (scheme : ℕ) (string : List ℕ) (t : State) where
  abbrev Stays : Outcome → Type 0
  Stays o = o.state ≡ t

  at : (f : Request) → f.operation ≡ Register → holder_of t f.number.0 ≡ requester.0 → state_sound t ≡ true → (place : Found)
      → row_for t f.number.0 ≡ place → (requests.carried_out_at f place requester t).state ≡ t
  at f register holds sound None e = refl
  at f register holds sound (Some i) e = rw register
      (ap (stored_in t i) (held_already (record_in t i) requester (sym (ap (λ o. (requests.holder_in o).0) (record_found_lem t.table f.number.0 i e)) ∙ holds))
      ∙ found_back t f.number.0 i sound e)

  -- the state that a reply leaves is its step's
  replied_state : (s : Stepping) → s.state ≡ t → Stays (requests.replying reply s)
  replied_state s e = go s.verdict
    where
      go : (v : Verdict) → Stays (requests.answered reply v s.state)
      go (says n) = e
      go (tells msisdn) = e

  step_stays : (f : Request) → f.operation ≡ Register → holder_of t f.number.0 ≡ requester.0 → state_sound t ≡ true → (requests.step t requester f).state ≡ t
  unfolding requests.step
  step_stays f register holds sound =
      decide_each (λ (s : Stepping). s.state ≡ t) (map (requests.staying t) (requests.step_checks requester f (record_for t f.number.0)))
      (requests.carried_out_at f (row_for t f.number.0) requester t) (refl, (refl, (refl, (refl, (refl, (refl, (refl, tt)))))))
      (at f register holds sound (row_for t f.number.0) refl)

  asking_stays : (flags : ℕ) (f : Request) → (requests.step t requester f).state ≡ t → Stays (requests.asking_by (requests.once t reply requester) t flags reply (some f))
  asking_stays flags f e =
      decide_each Stays (map (requests.negative t reply) (requests.right_checks flags f.erasing)) (requests.replying reply (requests.step t requester f))
      (refl, (refl, tt)) (replied_state (requests.step t requester f) e)

  registers_again : (f : Request) → request_of string ≡ some f → f.operation ≡ Register → holder_of t f.number.0 ≡ requester.0
      → Stays (requesting_once t list reply requester scheme string)
  unfolding requesting_once
  registers_again f reads register holds =
      decide_by Stays (refusing t reply (requests.refusal_checks (table_sound t.table) (figures_right t) list reply requester scheme string)) _
      (refl, (refl, (refl, (refl, (refl, (refl, (refl, (refl, tt))))))))
      (λ passed. rw reads (asking_stays (flags_of list requester.0) f (step_stays f register holds (and_both (table_sound t.table) (figures_right t) (not-false _ passed.1.1.0) (not-false _ passed.1.1.1.0)))))

-- ---- the demand

operation_registers : (o : Operation) → requests.is_register o ≡ true → o ≡ Register
operation_registers Register e = refl
operation_registers Erase e = no_path e
operation_registers Interrogate e = no_path e

again_bare : (list : List ℕ) (delay : ℕ) (requester : Msisdn) (scheme : ℕ) (string reply : List ℕ) (state : State) (k : ℕ)
    → name_of list (request requester scheme string reply) ≡ some k → codes_read (request_of string) ≡ none → registers_as (request_of string) ≡ true
    → holder_of state k ≡ requester.0 → (call list delay (request requester scheme string reply) state).1 ≡ state
again_bare list delay requester scheme string reply state k named alone registration holds =
    let x = naming list reply requester scheme string k named in
    ap (λ r. r.1) (call_single list delay (request requester scheme string reply) state alone)
    ∙ registers_again list reply requester scheme string state x.fields x.reads
    (operation_registers x.fields.operation (sym (ap registers_as x.reads) ∙ registration)) (rw x.names holds)

again : (list : List ℕ) (delay : ℕ) (c : Call) (state : State) (k : ℕ) → name_of list c ≡ some k → codes_of c ≡ none → registers c ≡ true
    → holder_of state k ≡ requester_of c → (call list delay c state).1 ≡ state
again list delay (request requester scheme string reply) state k named alone registration holds =
    again_bare list delay requester scheme string reply state k named alone registration holds
again list delay (framed requester message frame) state k named alone registration holds = by_state (state_sound state) refl
  where
    by_frame : state_sound state ≡ true → Opened list frame message requester delay → (call list delay (framed requester message frame) state).1 ≡ state
    by_frame sound (shut r unsaid why nameless c s) = ap (λ x. x.1) (c state sound)
    by_frame sound (carries i inside passes w) =
        ap (λ x. x.1) (w.calls state sound)
        ∙ again_bare list delay requester i.scheme i.string own_reply state k (sym w.name ∙ named) (sym (ap codes_read w.read) ∙ alone)
        (sym (ap registers_as w.read) ∙ registration) holds

    by_state : (b : Bool) → state_sound state ≡ b → (call list delay (framed requester message frame) state).1 ≡ state
    by_state true sound = by_frame sound (opened list frame message requester delay)
    by_state false unsound = unsound_stays state unsound list delay (framed requester message frame)
again list delay (sending now number buffer) state k named alone registration holds = no_path registration
again list delay (result now number kind) state k named alone registration holds = no_path registration
again list delay (terminal number holder reply) state k named alone registration holds = no_path registration
again list delay (routes home coded asked) state k named alone registration holds = refl

-- ---- a crew's request

-- only a crew's request is answered 11 or 12
uncrewed : (state : State) (reply : List ℕ) (n : ℕ) → is_negative_number n ≡ true → is_crew_outcome (requests.saying n state reply).answer ≡ false
uncrewed state reply n e =
    let other = or_neither (eqb n 1 || eqb n 2 || eqb n interrogation_number || eqb n crew_registered) (eqb n crew_erased) (not-true _ e) in
    rw ((or_neither (eqb n 1 || eqb n 2 || eqb n interrogation_number) (eqb n crew_registered) other.0).1, other.1) refl

once_answered : (list : List ℕ) (requester : Msisdn) (scheme : ℕ) (string reply : List ℕ) (state : State)
    → is_crew_outcome (requesting_once state list reply requester scheme string).answer ≡ false
once_answered list requester scheme string reply state =
    once_each state reply (λ (o : Outcome). is_crew_outcome o.answer ≡ false) (λ n. refl) (λ n. refl) (λ n l e. uncrewed state reply n e) (λ new. refl) (λ new. refl)
    (λ m. refl) list requester scheme string

single_answered : (list : List ℕ) (delay : ℕ) (c : Call) (state : State) → is_crew_outcome (single list delay c state).0.answer ≡ false
unfolding notices.sending_notice notices.taking_result
single_answered list delay (request requester scheme string reply) state = once_answered list requester scheme string reply state
single_answered list delay (framed requester message frame) state = by_state (state_sound state) refl
  where
    by_frame : state_sound state ≡ true → Opened list frame message requester delay → is_crew_outcome (single list delay (framed requester message frame) state).0.answer ≡ false
    by_frame sound (shut r unsaid why nameless c s) = ap (λ x. is_crew_outcome x.0.answer) (s state sound) ∙ rw unsaid refl
    by_frame sound (carries i inside passes w) =
        let r = (single list delay (request requester i.scheme i.string own_reply) state).0 in
        ap (λ x. is_crew_outcome x.0.answer) (w.singles state sound)
        ∙ rw (w.outcomes r crew_registered, w.outcomes r crew_erased) (once_answered list requester i.scheme i.string own_reply state)

    by_state : (b : Bool) → state_sound state ≡ b → is_crew_outcome (single list delay (framed requester message frame) state).0.answer ≡ false
    by_state true sound = by_frame sound (opened list frame message requester delay)
    by_state false unsound =
        ⊎_elim (λ (n, buffer, e, early). ap (λ x. is_crew_outcome x.0.answer) e) (λ (a, e, looks, quiet). no_path looks)
        (unsound_single state unsound list delay (framed requester message frame))
single_answered list delay (sending now number buffer) state =
    decide_each (λ (o : Outcome). is_crew_outcome o.answer ≡ false)
    (refusing state buffer (notices.sending_checks (table_sound state.table) (figures_right state) buffer number.0 (record_for state number.0) delay (clock_reading now))) _
    (refl, (refl, (refl, (refl, (refl, (refl, (refl, tt))))))) (at_place (row_for state number.0))
  where
    at_place : (place : Found) → is_crew_outcome (notices.sent_at number place state buffer).answer ≡ false
    at_place None = refl
    at_place (Some i) = refl
single_answered list delay (routes home coded asked) state =
    routing_each (λ a. is_crew_outcome a ≡ false) refl refl (λ code. refl) (λ m s. refl) refl refl state.table home coded asked
single_answered list delay (terminal number holder reply) state =
    terminal_each state reply (λ (o : Outcome). is_crew_outcome o.answer ≡ false) (λ n. refl) (λ n. refl) (λ n l e. uncrewed state reply n e) (λ new. refl) (λ new. refl)
    (λ m. refl) number holder
single_answered list delay (result now number kind) state =
    decide_each (λ (o : Outcome). is_crew_outcome o.answer ≡ false)
    (refusing state [] (notices.result_checks (table_sound state.table) (figures_right state) number.0 (record_for state number.0) kind)) _
    (refl, (refl, (refl, (refl, (refl, tt))))) (at_place (row_for state number.0))
  where
    at_place : (place : Found) → is_crew_outcome (notices.result_at kind (clock_reading now) place state).answer ≡ false
    at_place None = refl
    at_place (Some i) = returned_each (λ a. is_crew_outcome a ≡ false) refl refl refl kind (record_in state i).notice

module _ (list : List ℕ) (delay : ℕ) (c : Call) (state : State) where
  abbrev answer : Answer
  answer = (call list delay c state).0.answer

  abbrev after : State
  after = (call list delay c state).1

  -- a crew's outcome comes over a sound state only
  unsound_idles : state_sound state ≡ false → (is_crew_outcome answer ≡ false) × (after ≡ state)
  unsound_idles s = (
    ⊎_elim (λ (n, buffer, e, early). ap (λ r. is_crew_outcome r.0.answer) e) (λ (a, e, looks, quiet). ap (λ r. is_crew_outcome r.0.answer) e ∙ quiet.2)
        (unsound_call state s list delay c),
    unsound_stays state s list delay c,
  )

  -- a call that is its own step is not answered 11 or 12
  own_answered : codes_of c ≡ none → is_crew_outcome answer ≡ false
  own_answered alone = ap (λ r. is_crew_outcome r.0.answer) (call_single list delay c state alone) ∙ single_answered list delay c state

  crew_goes : is_crew_outcome answer ≡ true → (codes_of c ≡ none → ⊥) × (after ≡ end (call list delay) (steps_of list c) state)
  crew_goes e = (λ alone. no_path (sym (own_answered alone) ∙ e), by_state (state_sound state) refl)
    where
      by_state : (b : Bool) → state_sound state ≡ b → after ≡ end (call list delay) (steps_of list c) state
      by_state true sound = step_end list delay c state sound
      by_state false s = no_path (sym (unsound_idles s).0 ∙ e)

  crew_stops : (codes_of c ≡ none → ⊥) → is_crew_outcome answer ≡ false → (after ≡ state) × (state_sound state ≡ true → steps_of list c ≡ [])
  crew_stops crew e = (by_state (state_sound state) refl, λ sound. (by_view sound (view list delay c) refl).1)
    where
      by_view : state_sound state ≡ true → {d : Call} → View list delay d → d ≡ c → (after ≡ state) × (steps_of list c ≡ [])
      by_view sound (own d alone s) p = absurd (crew (ap codes_of (sym p) ∙ alone))
      by_view sound (stops d r f s) p = (ap (λ q. (call list delay q state).1) (sym p) ∙ ap (λ x. x.1) (f state sound), ap (steps_of list) (sym p) ∙ s)
      by_view sound (goes {requester = requester} {scheme = scheme} {string = string} {reply = reply} g w s) p =
          no_path (sym (ap (λ q. is_crew_outcome (call list delay q state).0.answer) p ∙ e) ∙ goes_said list delay requester scheme string reply g w state sound)

      by_state : (b : Bool) → state_sound state ≡ b → after ≡ state
      by_state true sound = (by_view sound (view list delay c) refl).0
      by_state false s = (unsound_idles s).1

pub demand1 : (list : List ℕ) (delay : ℕ) (c : Call) (state : State) → Demand1 list delay c state
demand1 list delay c state =
    let l = leaves list delay c state in
    record {
      refused = l.refused;
      negative = l.negative;
      returned_error = l.returned_error;
      rejected = l.rejected;
      others = λ alone o n. l.others o (rw n (own_answered list delay c state alone));
      crew_goes = crew_goes list delay c state;
      crew_stops = crew_stops list delay c state;
      registered_again = again list delay c state;
    }
