-- A call over a sound state leaves a sound state, with the same numbers in the same rows; and what it does to the records. Assumes nothing.
use mathlib.Core.Path.{◌≡◌, refl, sym, ap, ◌∙◌}
use mathlib.Core.Bool.{true, false, not}
use mathlib.Core.Option.{Option, none, some}
use mathlib.Core.List.{List, [], ◌∷◌, map}
use Prim.Native.Nat.{ℕ, ◌<◌}
use native.Mathlib.Omega.{arith}
use lib.ListN.{length}
use lib.Dec.{eqb, ltb}
use borrow.Author.Tests.{eqb-false}
use Rattle.answers.proofs.Tests.{or_right}
use Rattle.answers.proofs.Checks.{not_some}
use Rattle.answers.proofs.Decide.{answering, decide_each}
use Rattle.numbers.specs.Numbers.{is_number, nobody}
use Rattle.numbers.specs.declared.FunctionalNumber.{FunctionalNumber}
use Rattle.numbers.specs.declared.Msisdn.{Msisdn}
use Rattle.strings.specs.declared.Operation.{Operation}
use Rattle.strings.specs.declared.Operation.TheVariants.{Register, Erase, Interrogate}
use Rattle.strings.specs.declared.Erasing.{Erasing}
use Rattle.strings.specs.declared.Erasing.TheVariants.{Empty, Forced}
use Rattle.strings.specs.Text.{Request, erasing_sound}
use Rattle.strings.specs.Outcomes.{request_of}
use Rattle.records.specs.declared.Record.{Record}
use Rattle.records.specs.Step.{Step}
use Rattle.records.specs.Step as step
use Rattle.records.specs.Holder.{Holder}
use Rattle.records.specs.Holder as holds
use Rattle.records.specs.Sending.{Sending}
use Rattle.records.specs.Sending as launches
use Rattle.records.specs.Resulted.{Resulted}
use Rattle.records.specs.Resulted.{Refused, Delivered, Dropped, Again}
use Rattle.records.specs.Steps as steps
use Rattle.rows.specs.Rows.{number_at, record_sound}
use Rattle.rows.proofs.Rows.{record_sound_lem, stored_length, stored_number}
use Rattle.rows.proofs.Kept.{SoundStep, SoundSending, SoundResult, registered_sound, erased_sound, forced_sound, sent_sound, resulted_sound}
use Rattle.tables.specs.Keys.{Found}
use Rattle.std.specs.Prelude.{Some, None}
use Rattle.tables.specs.Tables.{rows_in, record_of, flags_of}
use Rattle.tables.proofs.Stored.{row_found, own_record, other_record}
use Rattle.states.specs.States.{State, state_sound, row_for, record_where, record_for, record_in, stored_in}
use Rattle.states.proofs.States.{state_stored}
use Rattle.rules.specs.Answers.{refusal, buffer_room}
use Rattle.rules.specs.Requests as requests
use Rattle.rules.specs.Requests.{right_checks}
use Rattle.rules.specs.Frames.{own_reply}
use Rattle.rules.specs.Run.{end}
use Rattle.rules.specs.Terminal.{both_numbers}
use Rattle.rules.specs.Calls.{Call, request, framed, sending, result, terminal, routes, Reply, clock_reading, name_of, is_named, names_one}
use Rattle.rules.specs.Visits.{Visited, visited, visit_saying, stepped, holder_answered, step_at, tell_at, decides_at, decides, decided, sent_step, result_step, visit_request, visit, missed}
use Rattle.rules.proofs.Once.{single}
use Rattle.rules.proofs.Inside.{named_inside}
use Rattle.rules.proofs.Visits.{found_sound, step_visits, step_misses, requester_number_lem, single_visits, single_misses, single_stops}

-- ---- a visit leaves a sound record

abbrev pub SoundVisit : Visited → Type 0
SoundVisit v = record_sound v.next ≡ true

module _ (r : Record) (sound : record_sound r ≡ true) where
  stepped_sound : (n : ℕ) (reply : List ℕ) (s : Step) → SoundStep s → SoundVisit (stepped n reply r s)
  stepped_sound n reply (step.Stays m) h = sound
  stepped_sound n reply (step.Becomes next) h = h

  told_sound : (reply : List ℕ) (h : Holder) → SoundVisit (holder_answered reply r h)
  told_sound reply (holds.Stays m) = sound
  told_sound reply (holds.Held msisdn) = sound

  sent_step_sound : (number : FunctionalNumber) (buffer : List ℕ) (s : Sending) → SoundSending s → SoundVisit (sent_step number buffer r s)
  sent_step_sound number buffer (launches.Refused m) h = sound
  sent_step_sound number buffer (launches.Launched next) h = h

  result_step_sound : (s : Resulted) → SoundResult s → SoundVisit (result_step r s)
  result_step_sound (Refused m) h = sound
  result_step_sound (Delivered next) h = h
  result_step_sound (Dropped next) h = h
  result_step_sound (Again next) h = h

  decides_sound : (o : Operation) (e : Erasing) (number : FunctionalNumber) (requester : Msisdn) (reply : List ℕ) → is_number requester.0 ≡ true
      → SoundVisit (decides o e number requester reply r)
  decides_sound Register e number requester reply n = stepped_sound 1 reply (steps.registered number requester r) (registered_sound r sound number requester n)
  decides_sound Erase Empty number requester reply n = stepped_sound 2 reply (steps.erased number requester r) (erased_sound r sound number requester)
  decides_sound Erase (Forced m) number requester reply n = stepped_sound 2 reply (steps.forced requester m r) (forced_sound r sound requester m (or_right (eqb requester.0 0) _ n))
  decides_sound Interrogate e number requester reply n = told_sound reply (steps.interrogated r)

  request_sound_lem : (flags : ℕ) (requester : Msisdn) (reply : List ℕ) (read : Option Request) → is_number requester.0 ≡ true
      → SoundVisit (visit_request flags requester reply read r)
  unfolding decided
  request_sound_lem flags requester reply none n = sound
  request_sound_lem flags requester reply (some f) n =
      decide_each SoundVisit (map (answering (λ n. visit_saying n reply r)) (right_checks flags f.erasing)) (decided f requester reply r) (sound, (sound, tt))
      (decides_sound f.operation f.erasing f.number requester reply n)

  -- a call that names a number leaves that number's record sound
  pub visit_sound : (list : List ℕ) (delay : ℕ) (c : Call) (k : ℕ) → name_of list c ≡ some k → SoundVisit (visit list delay c r)
  unfolding decided
  visit_sound list delay (request requester scheme string reply) k e =
      request_sound_lem (flags_of list requester.0) requester reply (request_of string) (requester_number_lem list reply requester scheme string k e)
  visit_sound list delay (framed requester message frame) k e =
      let (i, inside, named) = named_inside list frame message requester k e in
      rw inside (request_sound_lem (flags_of list requester.0) requester own_reply (request_of i.string)
      (requester_number_lem list own_reply requester i.scheme i.string k named))
  visit_sound list delay (sending now number buffer) k e =
      decide_each SoundVisit ((ltb (length buffer) buffer_room, visited (refusal 1) buffer r) ∷ [])
      (sent_step number buffer r (steps.sent delay (clock_reading now) r)) (sound, tt)
      (sent_step_sound number buffer (steps.sent delay (clock_reading now) r) (sent_sound r sound delay (clock_reading now)))
  visit_sound list delay (result now number kind) k e =
      result_step_sound (steps.resulted kind (clock_reading now) r) (resulted_sound r sound kind (clock_reading now) (omega arith))
  visit_sound list delay (terminal number holder reply) k e =
      decide_each SoundVisit
      ((ltb (length reply) buffer_room, visited (refusal 1) reply r) ∷ (not (both_numbers number holder), visited (refusal 7) reply r) ∷ []) _ (sound, (sound, tt))
      (stepped_sound 2 reply (steps.forced nobody holder r) (forced_sound r sound nobody holder refl))
  visit_sound list delay (routes home coded asked) k e = sound

-- ---- a call leaves a sound state

-- the state u is sound, and its table has the numbers of t in the rows of t
pub record Kept (t u : State) : Type 0 where
  pub sound : state_sound u ≡ true
  pub long : length u.table ≡ length t.table
  pub numbers : (i : ℕ) → number_at u.table i ≡ number_at t.table i

kept_same : (t : State) → state_sound t ≡ true → Kept t t
kept_same t s = record { sound = s; long = refl; numbers = λ i. refl }

pub kept_twice : (t u v : State) → Kept t u → Kept u v → Kept t v
kept_twice t u v p q = record { sound = q.sound; long = q.long ∙ p.long; numbers = λ i. q.numbers i ∙ p.numbers i }

kept_stored : (t : State) (i : ℕ) (r : Record) → state_sound t ≡ true → i < rows_in t.table → record_sound r ≡ true → Kept t (stored_in t i r)
kept_stored t i r s l q = record { sound = state_stored t i s l r q; long = stored_length t.table i r; numbers = stored_number t.table i r }

-- a single step does
module _ (t : State) (sound : state_sound t ≡ true) (requester : Msisdn) (one : is_number requester.0 ≡ true) where
  module _ (i : ℕ) (inside : i < rows_in t.table) (row : record_sound (record_in t i) ≡ true) where
    step_at_keeps : (n : ℕ) (s : Step) → SoundStep s → Kept t (step_at t i n s).state
    step_at_keeps n (step.Stays m) h = kept_same t sound
    step_at_keeps n (step.Becomes next) h = kept_stored t i next sound inside h

    tell_at_keeps : (h : Holder) → Kept t (tell_at t h).state
    tell_at_keeps (holds.Stays m) = kept_same t sound
    tell_at_keeps (holds.Held msisdn) = kept_same t sound

    decides_at_keeps : (o : Operation) (e : Erasing) (number : FunctionalNumber) → Kept t (decides_at o e number requester t i).state
    decides_at_keeps Register e number = step_at_keeps 1 (steps.registered number requester (record_in t i)) (registered_sound (record_in t i) row number requester one)
    decides_at_keeps Erase Empty number = step_at_keeps 2 (steps.erased number requester (record_in t i)) (erased_sound (record_in t i) row number requester)
    decides_at_keeps Erase (Forced m) number = step_at_keeps 2 (steps.forced requester m (record_in t i)) (forced_sound (record_in t i) row requester m (or_right (eqb requester.0 0) _ one))
    decides_at_keeps Interrogate e number = tell_at_keeps (steps.interrogated (record_in t i))

  pub step_keeps : (f : Request) → erasing_sound f.operation f.erasing ≡ true → Kept t (requests.step t requester f).state
  step_keeps f h = placed (row_for t f.number.0) refl
    where
      placed : (place : Found) → row_for t f.number.0 ≡ place → Kept t (requests.step t requester f).state
      placed None e = rw (step_misses t requester f e) (kept_same t sound)
      placed (Some i) e =
          rw (step_visits t requester f i e h)
          (decides_at_keeps i (row_found t.table f.number.0 i e).0 (record_sound_lem t.table i (found_sound t f.number.0 i sound e)) f.operation f.erasing f.number)

-- the row of a record that the table has, and that there is none for one that it does not have
pub record_place : (t : State) (k : ℕ) (r : Record) → record_for t k ≡ some r → (i : ℕ) × (row_for t k ≡ Some i) × (record_in t i ≡ r)
unfolding record_of
record_place t k r e = go (row_for t k) refl e
  where
    go : (place : Found) → row_for t k ≡ place → record_where t place ≡ some r → (i : ℕ) × (row_for t k ≡ Some i) × (record_in t i ≡ r)
    go None p e = not_some e
    go (Some i) p e = (i, p, cc)

no_place : (t : State) (k : ℕ) → record_for t k ≡ none → row_for t k ≡ None
unfolding record_of
no_place t k e = go (row_for t k) refl e
  where
    go : (place : Found) → row_for t k ≡ place → record_where t place ≡ none → row_for t k ≡ None
    go None p e = p
    go (Some i) p e = not_some (sym e)

module _ (list : List ℕ) (delay : ℕ) (c : Call) (t : State) (sound : state_sound t ≡ true) where
  abbrev went : Reply × State
  went = single list delay c t

  at_row : (k i : ℕ) → name_of list c ≡ some k → row_for t k ≡ Some i → record_sound (visit list delay c (record_in t i)).next ≡ true
  at_row k i n e = visit_sound (record_in t i) (record_sound_lem t.table i (found_sound t k i sound e)) list delay c k n

  -- a sound state is left, with the same numbers in the same rows
  pub single_keeps : Kept t went.1
  single_keeps = named (name_of list c) refl
    where
      placed : (k : ℕ) → name_of list c ≡ some k → (place : Found) → row_for t k ≡ place → Kept t went.1
      placed k n None e = rw (single_misses list delay t sound c k n e) (kept_same t sound)
      placed k n (Some i) e = rw (single_visits list delay t sound c k i n e) (kept_stored t i _ sound (row_found t.table k i e).0 (at_row k i n e))

      named : (n : Option ℕ) → name_of list c ≡ n → Kept t went.1
      named none n = rw ((single_stops list delay c n).2 t sound) (kept_same t sound)
      named (some k) n = placed k n (row_for t k) refl

  -- the record of the number that the call names decides, and becomes the next one
  pub single_own : (k : ℕ) (r : Record) → name_of list c ≡ some k → record_for t k ≡ some r
      → (went.0 ≡ (visit list delay c r).reply) × (record_for went.1 k ≡ some (visit list delay c r).next)
  single_own k r n e =
      let (i, p, q) = record_place t k r e in
      let v = single_visits list delay t sound c k i n p in (
        ap (λ x. x.0) v ∙ ap (λ r. (visit list delay c r).reply) q,
        ap (λ x. record_for x.1 k) v ∙ own_record t.table i _ k p (at_row k i n p) ∙ ap (λ r. some (visit list delay c r).next) q,
      )

  -- it is not in the table, and nothing changes
  pub single_absent : (k : ℕ) → name_of list c ≡ some k → record_for t k ≡ none → went ≡ (missed list c, t)
  single_absent k n e = single_misses list delay t sound c k n (no_place t k e)

  -- the record of any other number stays
  pub single_other : (k : ℕ) → names_one list c k ≡ false → record_for went.1 k ≡ record_for t k
  single_other k m = named (name_of list c) refl
    where
      placed : (j : ℕ) → name_of list c ≡ some j → (place : Found) → row_for t j ≡ place → record_for went.1 k ≡ record_for t k
      placed j n None e = rw (single_misses list delay t sound c j n e)
      placed j n (Some i) e =
          ap (λ x. record_for x.1 k) (single_visits list delay t sound c j i n e)
          ∙ other_record t.table i _ j e k (λ q. eqb-false j k (ap (λ o. is_named o k) (sym n) ∙ m) (sym q))

      named : (n : Option ℕ) → name_of list c ≡ n → record_for went.1 k ≡ record_for t k
      named none n = rw ((single_stops list delay c n).2 t sound)
      named (some j) n = placed j n (row_for t j) refl

-- a list of calls leaves a sound state, with the same numbers in the same rows
pub end_keeps : (list : List ℕ) (delay : ℕ) (cs : List Call) (t : State) → state_sound t ≡ true → Kept t (end (single list delay) cs t)
end_keeps list delay [] t sound = kept_same t sound
end_keeps list delay (c ∷ cs) t sound =
    let k = single_keeps list delay c t sound in
    kept_twice t (single list delay c t).1 _ k (end_keeps list delay cs (single list delay c t).1 k.sound)
