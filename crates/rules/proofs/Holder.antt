-- Who holds a number: the last call that names it and was answered 01 or 02 says it. Assumes nothing.
use mathlib.Core.Path.{◌≡◌, refl, sym, ap, ◌∙◌}
use mathlib.Core.Bool.{Bool, true, false, cond, not, ◌&&◌, ◌||◌}
use mathlib.Core.Option.{Option, none, some}
use mathlib.Core.List.{List, [], ◌∷◌, map}
use Prim.Native.Nat.{ℕ}
use lib.ListN.{length}
use lib.Dec.{eqb, ltb, leb}
use Rattle.answers.proofs.Decide.{answering, decide_each}
use Rattle.numbers.specs.Numbers.{nobody}
use Rattle.numbers.specs.declared.FunctionalNumber.{FunctionalNumber}
use Rattle.numbers.specs.declared.Msisdn.{Msisdn}
use Rattle.strings.specs.declared.Operation.{Operation}
use Rattle.strings.specs.declared.Operation.TheVariants.{Register, Erase, Interrogate}
use Rattle.strings.specs.declared.Erasing.{Erasing}
use Rattle.strings.specs.declared.Erasing.TheVariants.{Empty, Forced}
use Rattle.strings.specs.Text.{Request}
use Rattle.strings.specs.Outcomes.{request_of}
use Rattle.records.specs.declared.Notice.TheVariants.{Waiting}
use Rattle.records.specs.declared.Record.{Record}
use Rattle.records.specs.Step.{Step}
use Rattle.records.specs.Step as step
use Rattle.records.specs.Holder as holds
use Rattle.records.specs.Sending as launches
use Rattle.records.specs.Resulted.{Refused, Delivered, Dropped, Again}
use Rattle.records.specs.Steps as steps
use Rattle.tables.specs.Tables.{flags_of}
use Rattle.states.specs.States.{State, state_sound, record_for}
use Rattle.rules.specs.Answers.{Answer, refusal, buffer_room, is_outcome}
use Rattle.rules.specs.Requests.{holder_in, after_erasure, right_checks}
use Rattle.rules.specs.Frames.{Inside, inside_of, own_reply}
use Rattle.rules.specs.Run.{only, last, end, log}
use Rattle.rules.specs.Terminal.{terminal_request, both_numbers}
use Rattle.rules.specs.Routing.{with_code_in}
use Rattle.rules.specs.Calls.{Call, request, framed, sending, result, terminal, routes, Reply, clock_reading, name_of, names_one}
use Rattle.rules.specs.Visits.{Visited, visited, visit_saying, stepped, holder_answered, decides, decided, sent_step, result_step, visit_request, enveloped, visit_inside, visit, reply_saying, missed_request, missed_inside, missed}
use Rattle.rules.specs.Demand.{requester_of, decides_holder, holder_after, holder_of}
use Rattle.rules.proofs.Runs.{last_more}
use Rattle.rules.proofs.Once.{single}
use Rattle.rules.proofs.Routes.{code_each}
use Rattle.rules.proofs.Inside.{outcome_kept}
use Rattle.rules.proofs.Visits.{record_checks, sent_checks}
use Rattle.rules.proofs.Sound.{single_keeps, single_own, single_absent, single_other}
use Rattle.rules.proofs.Local.{named_some}

-- ---- a visit

-- the holder that an answer says: the requester after 01, nobody after 02, and the one before after any other
abbrev pub said : Answer → ℕ → ℕ → ℕ
said a requester before = cond (is_outcome 1 a) requester (cond (is_outcome 2 a) 0 before)

-- an answer with the same outcomes, such as one in its frame, says the same
said_so : (a b : Answer) (requester before : ℕ) → ((n : ℕ) → is_outcome n b ≡ is_outcome n a) → said b requester before ≡ said a requester before
said_so a b requester before same = rw (same 1, same 2) refl

-- the record that a visit leaves has that holder
abbrev pub Says : ℕ → Record → Visited → Type 0
Says requester r v = v.next.holder.0 ≡ said v.reply.answer requester r.holder.0

module _ (r : Record) (reply : List ℕ) (requester : Msisdn) where
  abbrev Stepped : ℕ → Step → Type 0
  Stepped n s = Says requester.0 r (stepped n reply r s)

  freed : (b : Bool) → (cond b (steps.held_by nobody r) (steps.forced_off requester r)).holder.0 ≡ 0
  freed true = refl
  freed false = refl

  decides_says : (o : Operation) (e : Erasing) (number : FunctionalNumber) → Says requester.0 r (decides o e number requester reply r)
  unfolding steps.registered steps.erased steps.forced steps.interrogated
  decides_says Register e number =
      decide_each (Stepped 1) (map (answering step.Stays) (record_checks Register e number requester r)) (step.Becomes (steps.held_by requester r))
      (refl, (refl, (refl, tt))) refl
  decides_says Erase Empty number =
      decide_each (Stepped 2) (map (answering step.Stays) (record_checks Erase Empty number requester r)) (step.Becomes (steps.held_by nobody r))
      (refl, (refl, tt)) refl
  decides_says Erase (Forced m) number =
      decide_each (Stepped 2) (map (answering step.Stays) (record_checks Erase (Forced m) number requester r))
      (step.Becomes (after_erasure requester (Forced m) r)) (refl, (refl, (refl, tt))) (freed (steps.same r.holder requester))
  decides_says Interrogate e number =
      decide_each (λ h. Says requester.0 r (holder_answered reply r h)) (map (answering holds.Stays) (record_checks Interrogate e number requester r))
      (holds.Held r.holder) (refl, tt) refl

  request_says : (flags : ℕ) (read : Option Request) → Says requester.0 r (visit_request flags requester reply read r)
  unfolding decided
  request_says flags none = refl
  request_says flags (some f) =
      decide_each (Says requester.0 r) (map (answering (λ n. visit_saying n reply r)) (right_checks flags f.erasing)) (decided f requester reply r)
      (refl, (refl, tt)) (decides_says f.operation f.erasing f.number)

module _ (r : Record) where
  sent_says : (number : FunctionalNumber) (buffer : List ℕ) (delay clock : ℕ) → Says 0 r (sent_step number buffer r (steps.sent delay clock r))
  unfolding steps.sent
  sent_says number buffer delay clock =
      decide_each (λ s. Says 0 r (sent_step number buffer r s)) (map (answering launches.Refused) (sent_checks delay clock r))
      (launches.Launched (steps.with_notice (steps.launched r.notice) r)) (refl, (refl, (refl, tt))) refl

  result_says : (kind clock : ℕ) → Says 0 r (result_step r (steps.resulted kind clock r))
  unfolding steps.resulted
  result_says kind clock =
      decide_each (λ s. Says 0 r (result_step r s))
      ((ltb steps.last_kind kind, Refused 3)
      ∷ (not (steps.is_in_flight r.notice), Refused 4)
      ∷ (eqb kind 0, Delivered (steps.cleared r))
      ∷ (ltb kind steps.last_kind, Dropped (steps.cleared r))
      ∷ (leb steps.most_sendings (steps.sendings_done r.notice), Dropped (steps.cleared r))
      ∷ [])
      (Again (steps.with_notice (Waiting (steps.sendings_done r.notice) clock) r)) (refl, (refl, (refl, (refl, (refl, tt))))) refl

visit_says : (list : List ℕ) (delay : ℕ) (c : Call) (r : Record) → Says (requester_of c) r (visit list delay c r)
unfolding decided
visit_says list delay (request requester scheme string reply) r = request_says r reply requester (flags_of list requester.0) (request_of string)
visit_says list delay (framed requester message frame) r = go (inside_of message)
  where
    flags : ℕ
    flags = flags_of list requester.0

    go : (inside : Option Inside) → Says requester.0 r (visit_inside flags requester frame inside r)
    go none = refl
    go (some i) =
        let v = visit_request flags requester own_reply (request_of i.string) r in
        request_says r own_reply requester flags (request_of i.string)
        ∙ sym (said_so v.reply.answer (enveloped i frame v.reply).answer requester.0 r.holder.0 (outcome_kept i frame v.reply))
visit_says list delay (sending now number buffer) r =
    decide_each (Says 0 r) ((ltb (length buffer) buffer_room, visited (refusal 1) buffer r) ∷ []) (sent_step number buffer r (steps.sent delay (clock_reading now) r))
    (refl, tt) (sent_says r number buffer delay (clock_reading now))
visit_says list delay (result now number kind) r = result_says r kind (clock_reading now)
visit_says list delay (routes home coded asked) r =
    code_each (λ a. r.holder.0 ≡ said a 0 r.holder.0) refl refl (λ code. refl) (λ m s. refl) home (with_code_in home coded asked) (some r)
visit_says list delay (terminal number holder reply) r =
    decide_each (Says 0 r) ((ltb (length reply) buffer_room, visited (refusal 1) reply r) ∷ (not (both_numbers number holder), visited (refusal 7) reply r) ∷ [])
    (decided (terminal_request number holder) nobody reply r) (refl, (refl, tt)) (decides_says r reply nobody Erase (Forced holder) number)

-- ---- a call

missed_request_says : (flags : ℕ) (reply : List ℕ) (q : ℕ) (read : Option Request) → said (missed_request flags reply read).answer q 0 ≡ 0
missed_request_says flags reply q none = refl
missed_request_says flags reply q (some f) =
    decide_each (λ (r : Reply). said r.answer q 0 ≡ 0) (map (answering (λ n. reply_saying n reply)) (right_checks flags f.erasing))
    (reply_saying 41 reply) (refl, (refl, tt)) refl

-- a number that is not in the table is neither given nor freed
missed_says : (list : List ℕ) (c : Call) (requester : ℕ) → said (missed list c).answer requester 0 ≡ 0
missed_says list (request requester scheme string reply) q = missed_request_says (flags_of list requester.0) reply q (request_of string)
missed_says list (framed requester message frame) q = go (inside_of message)
  where
    go : (inside : Option Inside) → said (missed_inside (flags_of list requester.0) frame inside).answer q 0 ≡ 0
    go none = refl
    go (some i) =
        let r = missed_request (flags_of list requester.0) own_reply (request_of i.string) in
        said_so r.answer (enveloped i frame r).answer q 0 (outcome_kept i frame r)
        ∙ missed_request_says (flags_of list requester.0) own_reply q (request_of i.string)
missed_says list (sending now number buffer) q =
    decide_each (λ (r : Reply). said r.answer q 0 ≡ 0) ((ltb (length buffer) buffer_room, record { answer = refusal 1; buffer = buffer }) ∷ [])
    (record { answer = refusal 7; buffer = buffer }) (refl, tt) refl
missed_says list (result now number kind) q = refl
missed_says list (routes home coded asked) q =
    code_each (λ a. said a q 0 ≡ 0) refl refl (λ code. refl) (λ m s. refl) home (with_code_in home coded asked) none
missed_says list (terminal number holder reply) q =
    decide_each (λ (r : Reply). said r.answer q 0 ≡ 0)
    ((ltb (length reply) buffer_room, record { answer = refusal 1; buffer = reply }) ∷ (not (both_numbers number holder), record { answer = refusal 7; buffer = reply }) ∷ [])
    (reply_saying 41 reply) (refl, (refl, tt)) refl

module _ (list : List ℕ) (delay k : ℕ) where
  -- after a call that names k, its answer says who holds k
  single_says : (c : Call) (t : State) → state_sound t ≡ true → names_one list c k ≡ true
      → holder_of (single list delay c t).1 k ≡ said (single list delay c t).0.answer (requester_of c) (holder_of t k)
  single_says c t sound m = go (record_for t k) refl
    where
      n : name_of list c ≡ some k
      n = named_some (name_of list c) k m

      go : (o : Option Record) → record_for t k ≡ o
          → holder_of (single list delay c t).1 k ≡ said (single list delay c t).0.answer (requester_of c) (holder_of t k)
      go none e =
          let x = single_absent list delay c t sound k n e in
          let free : holder_of t k ≡ 0 = ap (λ o. (holder_in o).0) e in
          ap (λ w. holder_of w.1 k) x ∙ free ∙ sym (missed_says list c (requester_of c)) ∙ rw (x, free)
      go (some r) e =
          let x = single_own list delay c t sound k r n e in
          let before : holder_of t k ≡ r.holder.0 = ap (λ o. (holder_in o).0) e in
          ap (λ o. (holder_in o).0) x.1 ∙ visit_says list delay c r ∙ rw (x.0, before)

-- ---- a list of calls

-- one call more in front
one_more : (p : Call × Reply) (ps : List (Call × Reply)) (h : ℕ) → holder_after (last ps) (holder_after (some p) h) ≡ holder_after (last (p ∷ ps)) h
one_more = last_more holder_after (λ h. refl) (λ p h g. refl)

-- one call more in front, whatever it was answered
turn : (c : Call) (a : Reply) (ps : List (Call × Reply)) (h : ℕ)
    → holder_after (last ps) (said a.answer (requester_of c) h)
    ≡ holder_after (last (cond (is_outcome 1 a.answer || is_outcome 2 a.answer) ((c, a) ∷ ps) ps)) h
turn c a ps h = go (is_outcome 1 a.answer) refl (is_outcome 2 a.answer)
  where
    go : (one : Bool) → is_outcome 1 a.answer ≡ one → (two : Bool)
        → holder_after (last ps) (cond one (requester_of c) (cond two 0 h)) ≡ holder_after (last (cond (one || two) ((c, a) ∷ ps) ps)) h
    go true e two = let x : requester_of c ≡ holder_after (some (c, a)) h = rw e in ap (holder_after (last ps)) x ∙ one_more (c, a) ps h
    go false e true = let x : 0 ≡ holder_after (some (c, a)) h = rw e in ap (holder_after (last ps)) x ∙ one_more (c, a) ps h
    go false e false = refl

-- the holder at the end is said by the last call that names k and was answered 01 or 02
pub held : (list : List ℕ) (delay k : ℕ) (cs : List Call) (t : State) → state_sound t ≡ true
    → holder_of (end (single list delay) cs t) k ≡ holder_after (last (only (decides_holder list k) (log (single list delay) cs t))) (holder_of t k)
held list delay k [] t sound = refl
held list delay k (c ∷ cs) t sound =
    held list delay k cs (single list delay c t).1 (single_keeps list delay c t sound).sound ∙ pass (names_one list c k) refl
  where
    a : Reply
    a = (single list delay c t).0

    rest : List (Call × Reply)
    rest = only (decides_holder list k) (log (single list delay) cs (single list delay c t).1)

    pass : (b : Bool) → names_one list c k ≡ b
        → holder_after (last rest) (holder_of (single list delay c t).1 k)
        ≡ holder_after (last (cond (b && (is_outcome 1 a.answer || is_outcome 2 a.answer)) ((c, a) ∷ rest) rest)) (holder_of t k)
    pass true m = ap (holder_after (last rest)) (single_says list delay k c t sound m) ∙ turn c a rest (holder_of t k)
    pass false m = ap (λ o. holder_after (last rest) (holder_in o).0) (single_other list delay c t sound k m)
