-- M-110: every call but a registration answers of a closed number what it answers of an open one, and leaves the same record, closed. Assumes nothing.
use mathlib.Core.Path.{◌≡◌, refl, sym, ap, ◌∙◌}
use mathlib.Core.Bool.{Bool, true, false, not, cond, ◌&&◌}
use mathlib.Core.Option.{Option, none, some}
use mathlib.Core.List.{List, [], ◌∷◌}
use Prim.Native.Nat.{ℕ}
use lib.Dec.{eqb, leb, ltb}
use lib.ListN.{length}
use Rattle.answers.specs.Checks.{decide}
use Rattle.answers.proofs.Tests.{no_path}
use Rattle.answers.proofs.Decide.{chosen}
use Rattle.numbers.specs.Numbers.{nobody, is_nobody}
use Rattle.numbers.specs.declared.FunctionalNumber.{FunctionalNumber}
use Rattle.numbers.specs.declared.Msisdn.{Msisdn}
use Rattle.strings.specs.declared.Operation.{Operation}
use Rattle.strings.specs.declared.Operation.TheVariants.{Register, Erase, Interrogate}
use Rattle.strings.specs.declared.Erasing.{Erasing}
use Rattle.strings.specs.declared.Erasing.TheVariants.{Empty, Forced}
use Rattle.strings.specs.Text.{Request}
use Rattle.strings.specs.Outcomes.{request_of}
use Rattle.records.specs.declared.Record.{Record}
use Rattle.records.specs.Step.{Step}
use Rattle.records.specs.Step as step
use Rattle.records.specs.Holder as holds
use Rattle.records.specs.declared.Notice.TheVariants.{Waiting}
use Rattle.records.specs.Sending.{Sending}
use Rattle.records.specs.Sending as launches
use Rattle.records.specs.Resulted.{Resulted}
use Rattle.records.specs.Resulted.{Refused, Delivered, Dropped, Again}
use Rattle.records.specs.Steps as steps
use Rattle.records.specs.Steps.{closing}
use Rattle.tables.specs.Tables.{flags_of}
use Rattle.states.specs.States.{State, state_sound, record_for}
use Rattle.rules.specs.Answers.{buffer_room}
use Rattle.rules.specs.Requests.{has_follow_me, is_supervisor, is_forced}
use Rattle.rules.specs.Frames.{Inside, inside_of, own_reply}
use Rattle.rules.specs.Terminal.{terminal_request, both_numbers}
use Rattle.rules.specs.Calls.{Call, request, framed, sending, result, terminal, routes, call, name_of, codes_of, clock_reading}
use Rattle.rules.specs.Demand.{registers_as, registers}
use Rattle.rules.specs.Visits.{Visited, stepped, holder_answered, decides, decided, sent_step, result_step, visit_request, enveloped, visit_inside, visit}
use Rattle.rules.proofs.Single.{call_single}
use Rattle.rules.proofs.Sound.{single_own}

-- the same reply, and the record that is left, closed
abbrev closed_after : Visited → Visited
closed_after v = record { reply = v.reply; next = closing v.next }

module _ (r : Record) where
  erased_as_open : (number : FunctionalNumber) (requester : Msisdn) (reply : List ℕ)
      → stepped 2 reply (closing r) (steps.erased number requester (closing r)) ≡ closed_after (stepped 2 reply r (steps.erased number requester r))
  unfolding steps.erased
  erased_as_open number requester reply = go (is_nobody r.holder) (not (steps.may_erase number requester r.holder))
    where
      go : (a b : Bool) → stepped 2 reply (closing r) (decide ((a, step.Stays 62) ∷ (b, step.Stays 63) ∷ []) (step.Becomes (steps.held_by nobody (closing r))))
          ≡ closed_after (stepped 2 reply r (decide ((a, step.Stays 62) ∷ (b, step.Stays 63) ∷ []) (step.Becomes (steps.held_by nobody r))))
      go true b = refl
      go false true = refl
      go false false = refl

  forced_as_open : (supervisor named : Msisdn) (reply : List ℕ)
      → stepped 2 reply (closing r) (steps.forced supervisor named (closing r)) ≡ closed_after (stepped 2 reply r (steps.forced supervisor named r))
  unfolding steps.forced
  forced_as_open supervisor named reply =
      go (is_nobody r.holder) (not (steps.same r.holder named)) (not (steps.same r.holder supervisor) && not (steps.is_absent r.notice)) (steps.same r.holder supervisor)
    where
      next : Bool → Record → Step
      next d x = step.Becomes (cond d (steps.held_by nobody x) (steps.forced_off supervisor x))

      go : (a b c d : Bool) → stepped 2 reply (closing r) (decide ((a, step.Stays 62) ∷ (b, step.Stays 63) ∷ (c, step.Stays 68) ∷ []) (next d (closing r)))
          ≡ closed_after (stepped 2 reply r (decide ((a, step.Stays 62) ∷ (b, step.Stays 63) ∷ (c, step.Stays 68) ∷ []) (next d r)))
      go true b c d = refl
      go false true c d = refl
      go false false true d = refl
      go false false false true = refl
      go false false false false = refl

  asked_as_open : (reply : List ℕ) → holder_answered reply (closing r) (steps.interrogated (closing r)) ≡ closed_after (holder_answered reply r (steps.interrogated r))
  unfolding steps.interrogated
  asked_as_open reply = go (is_nobody r.holder)
    where
      go : (a : Bool) → holder_answered reply (closing r) (decide ((a, holds.Stays 62) ∷ []) (holds.Held r.holder)) ≡ closed_after (holder_answered reply r (decide ((a, holds.Stays 62) ∷ []) (holds.Held r.holder)))
      go true = refl
      go false = refl

  sent_as_open : (delay clock : ℕ) (number : FunctionalNumber) (buffer : List ℕ)
      → sent_step number buffer (closing r) (steps.sent delay clock (closing r)) ≡ closed_after (sent_step number buffer r (steps.sent delay clock r))
  unfolding steps.sent
  sent_as_open delay clock number buffer = go (not (steps.delay_allowed delay)) (not (steps.is_waiting r.notice)) (not (steps.is_due delay clock r.notice))
    where
      next : Record → Sending
      next x = launches.Launched (steps.with_notice (steps.launched r.notice) x)

      go : (a b c : Bool) → sent_step number buffer (closing r) (decide ((a, launches.Refused 6) ∷ (b, launches.Refused 4) ∷ (c, launches.Refused 5) ∷ []) (next (closing r)))
          ≡ closed_after (sent_step number buffer r (decide ((a, launches.Refused 6) ∷ (b, launches.Refused 4) ∷ (c, launches.Refused 5) ∷ []) (next r)))
      go true b c = refl
      go false true c = refl
      go false false true = refl
      go false false false = refl

  result_as_open : (kind clock : ℕ) → result_step (closing r) (steps.resulted kind clock (closing r)) ≡ closed_after (result_step r (steps.resulted kind clock r))
  unfolding steps.resulted
  result_as_open kind clock =
      go (ltb steps.last_kind kind) (not (steps.is_in_flight r.notice)) (eqb kind 0) (ltb kind steps.last_kind) (leb steps.most_sendings (steps.sendings_done r.notice))
    where
      checks : Bool → Bool → Bool → Bool → Bool → Record → List (Bool × Resulted)
      checks a b c d e x = (a, Refused 3) ∷ (b, Refused 4) ∷ (c, Delivered (steps.cleared x)) ∷ (d, Dropped (steps.cleared x)) ∷ (e, Dropped (steps.cleared x)) ∷ []

      next : Record → Resulted
      next x = Again (steps.with_notice (Waiting (steps.sendings_done r.notice) clock) x)

      go : (a b c d e : Bool) → result_step (closing r) (decide (checks a b c d e (closing r)) (next (closing r))) ≡ closed_after (result_step r (decide (checks a b c d e r) (next r)))
      go true b c d e = refl
      go false true c d e = refl
      go false false true d e = refl
      go false false false true e = refl
      go false false false false true = refl
      go false false false false false = refl

  -- ---- requests

  decides_as_open : (f : Request) → registers_as (some f) ≡ false → (requester : Msisdn) (reply : List ℕ)
      → decided f requester reply (closing r) ≡ closed_after (decided f requester reply r)
  unfolding decided
  decides_as_open f other requester reply = go f.operation refl f.erasing
    where
      go : (o : Operation) → f.operation ≡ o → (e : Erasing) → decides o e f.number requester reply (closing r) ≡ closed_after (decides o e f.number requester reply r)
      go Register p e = no_path (sym other ∙ rw p refl)
      go Erase p Empty = erased_as_open f.number requester reply
      go Erase p (Forced m) = forced_as_open requester m reply
      go Interrogate p e = asked_as_open reply

  request_as_open : (flags : ℕ) (requester : Msisdn) (reply : List ℕ) (read : Option Request) → registers_as read ≡ false
      → visit_request flags requester reply read (closing r) ≡ closed_after (visit_request flags requester reply read r)
  request_as_open flags requester reply none other = refl
  request_as_open flags requester reply (some f) other =
      chosen closed_after (not (has_follow_me flags)) refl (chosen closed_after (is_forced f.erasing && not (is_supervisor flags)) refl (decides_as_open f other requester reply))

  visit_as_open : (list : List ℕ) (delay : ℕ) (c : Call) → registers c ≡ false → visit list delay c (closing r) ≡ closed_after (visit list delay c r)
  visit_as_open list delay (request requester scheme string reply) other = request_as_open (flags_of list requester.0) requester reply (request_of string) other
  visit_as_open list delay (framed requester message frame) other = go (inside_of message) refl
    where
      go : (i : Option Inside) → inside_of message ≡ i
          → visit_inside (flags_of list requester.0) requester frame i (closing r) ≡ closed_after (visit_inside (flags_of list requester.0) requester frame i r)
      go none e = refl
      go (some i) e =
          let v = request_as_open (flags_of list requester.0) requester own_reply (request_of i.string) (rw e at other) in
          ap (λ (x : Visited). record { reply = enveloped i frame x.reply; next = x.next }) v
  visit_as_open list delay (sending now number buffer) other =
      chosen closed_after (ltb (length buffer) buffer_room) refl (sent_as_open delay (clock_reading now) number buffer)
  visit_as_open list delay (result now number kind) other = result_as_open kind (clock_reading now)
  visit_as_open list delay (terminal number holder reply) other =
      chosen closed_after (ltb (length reply) buffer_room) refl
      (chosen closed_after (not (both_numbers number holder)) refl (decides_as_open (terminal_request number holder) refl nobody reply))
  visit_as_open list delay (routes home coded asked) other = refl

-- of the calls: a closed number is answered as if it were open, and what is left is what would be left, closed
pub as_open : (list : List ℕ) (delay : ℕ) (c : Call) (s u : State) (k : ℕ) (r : Record) → state_sound s ≡ true → state_sound u ≡ true
    → name_of list c ≡ some k → record_for s k ≡ some r → record_for u k ≡ some (closing r) → registers c ≡ false → codes_of c ≡ none
    → let next = (visit list delay c r).next in
    ((call list delay c u).0 ≡ (call list delay c s).0)
    × (record_for (call list delay c s).1 k ≡ some next) × (record_for (call list delay c u).1 k ≡ some (closing next))
as_open list delay c s u k r so ss named known closed other alone =
    let a = single_own list delay c s so k r named known in
    let b = single_own list delay c u ss k (closing r) named closed in
    let v = visit_as_open r list delay c other in
    rw (call_single list delay c s alone, call_single list delay c u alone)
    (b.0 ∙ ap (λ (x : Visited). x.reply) v ∙ sym a.0, a.1, b.1 ∙ ap (λ (x : Visited). some x.next) v)
