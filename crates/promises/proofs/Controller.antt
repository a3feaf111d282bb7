-- The controller: a supervisor takes a number from the holder whom she names, in the one call, or is answered 68; and the number can be registered at once. Assumes nothing.
use mathlib.Core.Path.{◌≡◌, refl, sym, ap, ◌∙◌}
use mathlib.Core.Logic.{◌⊎◌, ⊎_elim}
use mathlib.Core.Bool.{Bool, true, false, cond, not, ◌&&◌}
use mathlib.Core.Option.{Option, none, some}
use mathlib.Core.List.{List, [], ◌∷◌, map}
use Prim.Native.Nat.{ℕ, ◌≤◌}
use native.Mathlib.Omega.{arith}
use lib.ListN.{length}
use borrow.Author.Tests.{eq-eqb, ne_eqb, le-ltb}
use Rattle.answers.proofs.Checks.{not_some}
use Rattle.answers.proofs.Tests.{no_path, and_no}
use Rattle.answers.proofs.Decide.{decide_each}
use Rattle.packing.specs.Packing.{packed}
use Rattle.numbers.specs.Numbers.{two_digits, nobody, is_nobody}
use Rattle.numbers.specs.declared.Msisdn.{Msisdn}
use Rattle.strings.specs.declared.Operation.{Operation}
use Rattle.strings.specs.declared.Operation.TheVariants.{Register, Erase, Interrogate}
use Rattle.strings.specs.declared.Erasing.TheVariants.{Empty, Forced}
use Rattle.crews.specs.Crews.{crew_of}
use Rattle.strings.specs.Text.{Request, coding_scheme}
use Rattle.strings.specs.Outcomes.{request_of}
use Rattle.frames.specs.Components as components
use Rattle.frames.specs.Messages.{frame_room, register_of}
use Rattle.frames.specs.Messages as messages
use Rattle.records.specs.declared.Record.{Record}
use Rattle.records.specs.Steps as steps
use Rattle.records.specs.Steps.{same, is_absent, held_by, forced_off}
use Rattle.tables.specs.Keys.{Found}
use Rattle.std.specs.Prelude.{Some, None}
use Rattle.tables.specs.Tables.{table_sound, flags_of}
use Rattle.tables.proofs.Stored.{record_found_lem, record_missing}
use Rattle.states.specs.States.{State, figures_right, state_sound, row_for, record_for, record_in, stored_in}
use Rattle.rules.specs.Answers.{outcome, Outcome, buffer_room, is_outcome, refusing}
use Rattle.rules.specs.Requests.{is_closed, has_follow_me, holder_in, most_string_octets, refusal_checks, right_checks, after_erasure}
use Rattle.rules.specs.Requests as requests
use Rattle.rules.specs.Crews.{crew_codes, crew_number, Walk, walked, set_out, crew_outcome, requesting}
use Rattle.rules.specs.Frames.{own_reply}
use Rattle.rules.specs.Calls.{Call, request, framed, Reply, replied, name_of, names_one, call, codes_of, sending, result, terminal, routes, codes_read}
use Rattle.rules.specs.Visits.{Visited, storing, visit_saying, reply_saying, decided, visit}
use Rattle.rules.specs.Demand.{holder_of}
use Rattle.rules.specs.Framed.{given_back, AsBare}
use Rattle.promises.specs.Users.{both_flags, WellFormed}
use Rattle.rules.proofs.Once.{single}
use Rattle.rules.proofs.Inside.{Opened, shut, carries, opened}
use Rattle.rules.proofs.Single.{call_single}
use Rattle.rules.proofs.Steps.{forced_alone}
use Rattle.rules.proofs.Calls.{calls_keep}
use Rattle.promises.proofs.Withdrawn.{withdrawn}
use Rattle.rules.proofs.Framed.{as_bare, framed_says}
use Rattle.rules.proofs.Visits.{found_back, single_visits}
use Rattle.rules.proofs.Sound.{single_keeps, single_own}
use Rattle.promises.proofs.Along.{Asked, negative, registration, erasure, herself, forced, Does, asks, unsent, sends, untaken, clears, goes_on, unmoved, removes, looks, delivers, drops, gives_up, along, answered_02, one_same, not_same}

-- a well-formed request names the number in its string
pub form_names : (list : List ℕ) (requester : Msisdn) (scheme : ℕ) (string reply : List ℕ) (f : Request) → WellFormed list requester scheme string reply f
    → name_of list (request requester scheme string reply) ≡ some f.number.0
form_names list requester scheme string reply f form =
    let some-octets = form.least in
    rw (
      le-ltb (length reply) buffer_room form.room,
      form.sound,
      form.requester_number,
      eq-eqb scheme coding_scheme form.coded,
      ne_eqb (length string) 0 (λ e. omega arith),
      le-ltb most_string_octets (length string) form.most,
      form.reads,
    ) refl

-- ---- a visit to the record r of the number k in a sound state, where it is known to come to v

module _ (list : List ℕ) (delay : ℕ) (c : Call) (t : State) (k : ℕ) (r : Record) (v : Visited) (sound : state_sound t ≡ true)
    (named : name_of list c ≡ some k) (known : record_for t k ≡ some r) (does : visit list delay c r ≡ v) where
  visit_gets : ((single list delay c t).0 ≡ v.reply) × (holder_of (single list delay c t).1 k ≡ v.next.holder.0)
  visit_gets =
      let d = single_own list delay c t sound k r named known in
      (d.0 ∙ ap (λ (x : Visited). x.reply) does, ap (λ o. (holder_in o).0) d.1 ∙ ap (λ (x : Visited). x.next.holder.0) does)

  -- it leaves the record, and so the state
  pub visit_leaves : v.next ≡ r → single list delay c t ≡ (v.reply, t)
  visit_leaves stays = go (row_for t k) refl
    where
      go : (place : Found) → row_for t k ≡ place → single list delay c t ≡ (v.reply, t)
      go None e = not_some (sym (record_missing t.table k e) ∙ known)
      go (Some i) e =
          let it : record_in t i ≡ r = cc (record_found_lem t.table k i e) in
          let same_state = ap (stored_in t i) (stays ∙ sym it) ∙ found_back t k i sound e in
          single_visits list delay t sound c k i named e
          ∙ ap (λ q. replied (storing t i (visit list delay c q))) it
          ∙ ap (λ (x : Visited). replied (storing t i x)) does
          ∙ ap (λ u. (v.reply, u)) same_state

-- ---- the controller

-- over a sound state in which r is the number's record, s with flags 3 asks for a forced erasure naming the number's holder
module _ (list : List ℕ) (delay : ℕ) (state : State) (s : Msisdn) (scheme : ℕ) (string reply : List ℕ) (f : Request) (r : Record)
    (sound : state_sound state ≡ true) (known : record_for state f.number.0 ≡ some r) (form : WellFormed list s scheme string reply f)
    (erases : f.operation ≡ Erase) (forces : f.erasing ≡ Forced r.holder) (held : is_nobody r.holder ≡ false)
    (flags : flags_of list s.0 ≡ both_flags) where
  abbrev asked : Call
  asked = request s scheme string reply

  abbrev number : ℕ
  number = f.number.0

  -- 68: "forced, holder differs from the supervisor, phase is not 0"
  abbrev waits : Bool
  waits = not (same r.holder s) && not (is_absent r.notice)

  visit_frees : waits ≡ false → visit list delay asked r ≡ visit_saying 2 reply (after_erasure s (Forced r.holder) r)
  unfolding decided steps.forced
  visit_frees e = rw (form.reads, flags, erases, forces, held, one_same r.holder r.holder refl, e) refl

  visit_waits : waits ≡ true → visit list delay asked r ≡ visit_saying 68 reply r
  unfolding decided steps.forced
  visit_waits e = rw (form.reads, flags, erases, forces, held, one_same r.holder r.holder refl, e) refl

  erased_nobody : (b : Bool) → (cond b (held_by nobody r) (forced_off s r)).holder.0 ≡ 0
  erased_nobody true = refl
  erased_nobody false = refl

  singly : call list delay asked state ≡ single list delay asked state
  singly = call_single list delay asked state (forced_alone asked f form.reads forces)

  -- at phase 0, or where s is the holder: 02 in that call, and nobody holds the number
  pub frees_at_once : (is_absent r.notice ≡ true) ⊎ (s ≡ r.holder)
      → ((call list delay asked state).0 ≡ reply_saying 2 reply) × (holder_of (call list delay asked state).1 number ≡ 0)
  frees_at_once may =
      let goes : waits ≡ false = ⊎_elim (λ a. and_no (not (same r.holder s)) _ (ap not a)) (λ e. rw (one_same r.holder s (sym e)) refl) may in
      let d = visit_gets list delay asked state number r _ sound (form_names list s scheme string reply f form) known (visit_frees goes) in
      (ap (λ x. x.0) singly ∙ d.0, ap (λ x. holder_of x.1 number) singly ∙ d.1 ∙ erased_nobody (same r.holder s))

  -- otherwise 68, and table and figures are as they were
  pub waits_for_the_notice : is_absent r.notice ≡ false → (s ≡ r.holder → ⊥) → call list delay asked state ≡ (reply_saying 68 reply, state)
  waits_for_the_notice pending other =
      let stops : waits ≡ true = rw (not_same r.holder s (λ e. other (sym e)), pending) refl in
      singly ∙ visit_leaves list delay asked state number r _ sound (form_names list s scheme string reply f form) known (visit_waits stops) refl

  -- the same in a frame: 02 and 68 come back in a Return Result
  module _ (message frame : List ℕ) (m : messages.Register) (register : register_of message ≡ some m) (inside : m.body ≡ components.asks scheme string)
      (room : frame_room ≤ length frame) where
    abbrev framed_asked : Call
    framed_asked = framed s message frame

    abbrev says : ℕ → Reply
    says n = given_back m frame (outcome n) (components.result m.number (packed (two_digits n)))

    as_framed : AsBare list delay s message frame m scheme string reply state
    as_framed = as_bare list delay s message frame state room m register form.sound sound scheme string inside reply form.room

    framed_gets : (n : ℕ) → (call list delay asked state).0 ≡ reply_saying n reply → (call list delay framed_asked state).0 ≡ says n
    framed_gets = framed_says list delay s message frame state room m register form.sound sound scheme string inside reply form.room

    pub frees_at_once_framed : (is_absent r.notice ≡ true) ⊎ (s ≡ r.holder)
        → ((call list delay framed_asked state).0 ≡ says 2) × (holder_of (call list delay framed_asked state).1 number ≡ 0)
    frees_at_once_framed may =
        let (got, freed) = frees_at_once may in
        (framed_gets 2 got, ap (λ t. holder_of t number) as_framed.state_after ∙ freed)

    pub waits_for_the_notice_framed : is_absent r.notice ≡ false → (s ≡ r.holder → ⊥) → call list delay framed_asked state ≡ (says 68, state)
    waits_for_the_notice_framed pending other =
        let e = waits_for_the_notice pending other in
        λ i. (framed_gets 68 (ap (λ x. x.0) e) i, (as_framed.state_after ∙ ap (λ x. x.1) e) i)

-- nobody holds the number after a 02
asked_frees : {list : List ℕ} {r next : Record} {q : Msisdn} {read : Option Request} {one two : Bool} → Asked list r q read one two next → two ≡ true
    → next.holder ≡ nobody
asked_frees negative u = no_path u
asked_frees (registration p q x w) u = no_path u
asked_frees (erasure p q w m right) u = refl
asked_frees (herself p q w m o) u = refl
asked_frees (forced p q w m d x y z v) u = refl

erasure_frees : {list : List ℕ} {r : Record} {c : Call} {v : Visited} → Does list r c v → is_outcome 2 v.reply.answer ≡ true → v.next.holder ≡ nobody
erasure_frees (asks i d) u = asked_frees d u
erasure_frees unsent u = no_path u
erasure_frees (sends w) u = no_path u
erasure_frees untaken u = no_path u
erasure_frees (clears w (delivers e)) u = no_path u
erasure_frees (clears w (drops e l)) u = no_path u
erasure_frees (clears w (gives_up e l m)) u = no_path u
erasure_frees (goes_on w p) u = no_path u
erasure_frees (unmoved p q) u = no_path (sym q ∙ u)
erasure_frees (removes m x z) u = refl
erasure_frees (looks p q) u = no_path (sym q ∙ u)

-- a crew's request is not answered 02
bare_not_02 : (list : List ℕ) (requester : Msisdn) (scheme : ℕ) (string reply : List ℕ) (state : State)
    → is_outcome 2 (requesting state list reply requester scheme string).answer ≡ true → codes_read (request_of string) ≡ none
unfolding requesting
bare_not_02 list requester scheme string reply state answered = by_read (request_of string) refl
  where
    by_operation : (o : Operation) (w : Walk) → is_outcome 2 (crew_outcome (crew_number o) reply w).answer ≡ false
    by_operation Register w = refl
    by_operation Erase w = refl
    by_operation Interrogate w = refl

    never_02 : (f : Request) (codes : List ℕ) → request_of string ≡ some f → crew_of f.additional ≡ some codes
        → is_outcome 2 (requesting state list reply requester scheme string).answer ≡ false
    never_02 f codes r e =
        decide_each (λ (o : Outcome). is_outcome 2 o.answer ≡ false)
        (refusing state reply (refusal_checks (table_sound state.table) (figures_right state) list reply requester scheme string)) _
        (refl, (refl, (refl, (refl, (refl, (refl, (refl, (refl, tt))))))))
        (rw (r, e)
        (decide_each (λ (o : Outcome). is_outcome 2 o.answer ≡ false) (map (requests.negative state reply) (right_checks (flags_of list requester.0) f.erasing)) _
        (refl, (refl, tt)) (by_operation f.operation (walked requester f (crew_codes codes) (set_out state)))))

    by_codes : (f : Request) → request_of string ≡ some f → (codes : Option (List ℕ)) → crew_of f.additional ≡ codes → codes ≡ none
    by_codes f r none e = refl
    by_codes f r (some codes) e = no_path (sym (never_02 f codes r e) ∙ answered)

    by_read : (read : Option Request) → request_of string ≡ read → codes_read read ≡ none
    by_read none r = refl
    by_read (some f) r = by_codes f r (crew_of f.additional) refl

crew_not_02 : (list : List ℕ) (delay : ℕ) (c : Call) (state : State) → state_sound state ≡ true → is_outcome 2 (call list delay c state).0.answer ≡ true
    → codes_of c ≡ none
crew_not_02 list delay (request requester scheme string reply) state sound answered = bare_not_02 list requester scheme string reply state answered
crew_not_02 list delay (framed requester message frame) state sound answered = go (opened list frame message requester delay)
  where
    go : Opened list frame message requester delay → codes_of (framed requester message frame) ≡ none
    go (shut r unsaid why nameless c s) = no_path (sym (ap (λ x. is_outcome 2 x.0.answer) (c state sound) ∙ rw unsaid refl) ∙ answered)
    go (carries i inside passes w) =
        ap codes_read w.read
        ∙ bare_not_02 list requester i.scheme i.string own_reply state
        (sym (w.outcomes (call list delay (request requester i.scheme i.string own_reply) state).0 2) ∙ sym (ap (λ x. is_outcome 2 x.0.answer) (w.calls state sound)) ∙ answered)
crew_not_02 list delay (sending now functional buffer) state sound answered = refl
crew_not_02 list delay (result now functional kind) state sound answered = refl
crew_not_02 list delay (terminal functional holder reply) state sound answered = refl
crew_not_02 list delay (routes home coded digits) state sound answered = refl

-- m with flag 1 asks for a registration of a number whose digits are not hers
module _ (list : List ℕ) (delay : ℕ) (m : Msisdn) (scheme : ℕ) (string reply : List ℕ) (f : Request) (form : WellFormed list m scheme string reply f)
    (registers : f.operation ≡ Register) (plain : f.erasing ≡ Empty) (no_crew : crew_of f.additional ≡ none)
    (flag : has_follow_me (flags_of list m.0) ≡ true) (other : f.number.0 ≡ m.0 → ⊥) where
  abbrev asks_for : Call
  asks_for = request m scheme string reply

  visit_registers : (r : Record) → r.closed ≡ false → r.holder ≡ nobody → visit list delay asks_for r ≡ visit_saying 1 reply (held_by m r)
  unfolding decided steps.registered
  visit_registers r unclosed free =
      rw (form.reads, flag, registers, plain, ne_eqb f.number.0 m.0 other, unclosed, free) refl

  -- right after any call that names the number and is answered 02, while the number is open: 01, and m holds it
  pub next_registers : (c : Call) (state : State) → state_sound state ≡ true → names_one list c f.number.0 ≡ true
      → is_outcome 2 (call list delay c state).0.answer ≡ true → is_closed (record_for (call list delay c state).1 f.number.0) ≡ false
      → let after = (call list delay c state).1 in
      ((call list delay asks_for after).0 ≡ reply_saying 1 reply) × (holder_of (call list delay asks_for after).1 f.number.0 ≡ m.0)
  next_registers c state sound named answered unclosed =
      let alone = crew_not_02 list delay c state sound answered in
      rw (call_single list delay c state alone)
      (let (r, v, d, known, u) = answered_02 (along list delay f.number.0 (c ∷ []) state) named (rw (call_single list delay c state alone) at answered) in
      let got = visit_gets list delay asks_for (single list delay c state).1 f.number.0 v.next _ (single_keeps list delay c state sound).sound
      (form_names list m scheme string reply f form) known (visit_registers v.next (sym (ap is_closed known) ∙ rw (call_single list delay c state alone) at unclosed) (erasure_frees d u)) in
      let same = call_single list delay asks_for (single list delay c state).1 (rw form.reads no_crew) in
      (ap (λ x. x.0) same ∙ got.0, ap (λ x. holder_of x.1 f.number.0) same ∙ got.1))

  -- while the number is closed: 64 whoever holds it, also m herself, and table and figures are as they were
  visit_closed : (r : Record) → r.closed ≡ true → visit list delay asks_for r ≡ visit_saying 64 reply r
  unfolding decided steps.registered
  visit_closed r closed = rw (form.reads, flag, registers, plain, ne_eqb f.number.0 m.0 other, closed) refl

  pub closed_64 : (state : State) → state_sound state ≡ true → is_closed (record_for state f.number.0) ≡ true
      → call list delay asks_for state ≡ (reply_saying 64 reply, state)
  closed_64 state sound closed = go (record_for state f.number.0) refl closed
    where
      go : (o : Option Record) → record_for state f.number.0 ≡ o → is_closed o ≡ true → call list delay asks_for state ≡ (reply_saying 64 reply, state)
      go none known c = no_path c
      go (some r) known c =
          call_single list delay asks_for state (rw form.reads no_crew)
          ∙ visit_leaves list delay asks_for state f.number.0 r _ sound (form_names list m scheme string reply f form) known (visit_closed r c) refl

  -- so too right after any call, a 02 among them: a call leaves a closed number closed
  pub next_64 : (c : Call) (state : State) → state_sound state ≡ true → is_closed (record_for state f.number.0) ≡ true
      → let after = (call list delay c state).1 in
      call list delay asks_for after ≡ (reply_saying 64 reply, after)
  next_64 c state sound closed =
      closed_64 (call list delay c state).1 (calls_keep list delay (c ∷ []) state sound).sound (withdrawn list delay f.number.0 (c ∷ []) state closed).closed

  -- the same in a frame
  pub closed_64_framed : (message frame : List ℕ) (n : messages.Register) → register_of message ≡ some n → n.body ≡ components.asks scheme string
      → frame_room ≤ length frame
      → (state : State) → state_sound state ≡ true → is_closed (record_for state f.number.0) ≡ true
      → call list delay (framed m message frame) state ≡ (given_back n frame (outcome 64) (components.result n.number (packed (two_digits 64))), state)
  closed_64_framed message frame n register inside room state sound closed =
      let e = closed_64 state sound closed in
      λ i. (
        framed_says list delay m message frame state room n register form.sound sound scheme string inside reply form.room 64 (ap (λ x. x.0) e) i,
        ((as_bare list delay m message frame state room n register form.sound sound scheme string inside reply form.room).state_after ∙ ap (λ x. x.1) e) i,
      )

  pub next_registers_framed : (message frame : List ℕ) (n : messages.Register) → register_of message ≡ some n → n.body ≡ components.asks scheme string
      → frame_room ≤ length frame
      → (c : Call) (state : State) → state_sound state ≡ true → names_one list c f.number.0 ≡ true → is_outcome 2 (call list delay c state).0.answer ≡ true
      → is_closed (record_for (call list delay c state).1 f.number.0) ≡ false
      → let after = (call list delay c state).1 in
      let got = call list delay (framed m message frame) after in
      (got.0 ≡ given_back n frame (outcome 1) (components.result n.number (packed (two_digits 1)))) × (holder_of got.1 f.number.0 ≡ m.0)
  next_registers_framed message frame n register inside room c state sound named answered unclosed =
      let after = (call list delay c state).1 in
      let kept = (calls_keep list delay (c ∷ []) state sound).sound in
      let (got, holds) = next_registers c state sound named answered unclosed in (
        framed_says list delay m message frame after room n register form.sound kept scheme string inside reply form.room 1 got,
        ap (λ t. holder_of t f.number.0) (as_bare list delay m message frame after room n register form.sound kept scheme string inside reply form.room).state_after
            ∙ holds,
      )
