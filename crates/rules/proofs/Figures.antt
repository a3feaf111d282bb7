-- M-103: every call keeps the figures equal to a recount, and with right figures 10 is never answered. Assumes nothing.
use mathlib.Core.Path.{◌≡◌, refl, sym, ap, ◌∙◌, subst}
use mathlib.Core.Logic.{⊎_elim}
use mathlib.Core.Bool.{Bool, true, false, not, ◌||◌}
use mathlib.Core.Option.{Option, none, some}
use mathlib.Core.List.{List, [], ◌∷◌}
use Prim.Native.Nat.{ℕ}
use lib.ListN.{length}
use lib.Dec.{eqb, ltb}
use Rattle.answers.specs.Checks.{is_none}
use Rattle.answers.proofs.Tests.{no_path}
use Rattle.answers.proofs.Decide.{decide_each}
use Rattle.numbers.specs.Numbers.{is_number, nobody}
use Rattle.numbers.specs.declared.FunctionalNumber.{FunctionalNumber}
use Rattle.numbers.specs.declared.Msisdn.{Msisdn}
use Rattle.crews.specs.Crews.{crew_of}
use Rattle.strings.specs.Text.{coding_scheme}
use Rattle.strings.specs.Outcomes.{request_of}
use Rattle.frames.specs.Components.{Body, wrong, asks}
use Rattle.frames.specs.Messages.{frame_room, unread_message, Register, register_of}
use Rattle.records.specs.Steps.{last_kind, is_waiting, is_in_flight, is_due, delay_allowed}
use Rattle.tables.specs.Keys.{Found}
use Rattle.std.specs.Prelude.{Some, None}
use Rattle.tables.specs.Tables.{table_sound, list_sound, flags_of}
use Rattle.states.specs.States.{State, figures_right, state_sound, row_for, record_for, record_in}
use Rattle.states.proofs.States.{right_figures_lem, sound_state_lem}
use Rattle.rules.specs.Answers.{Answer, refusal, error, outcome, holder_is, return_error, reject, sent_to, delivered, dropped, again, found, none_due, ask_network, routed_to, Outcome, buffer_room, outcome_class, is_of, is_error, is_refused_with, refusing}
use Rattle.rules.specs.Requests.{most_string_octets, asking_by}
use Rattle.rules.specs.Crews.{carried_out_for, requesting}
use Rattle.rules.specs.Frames.{answered_in, in_frame, own_reply, bodied, registered, framed_request}
use Rattle.rules.specs.Notices as notices
use Rattle.rules.specs.Terminal.{terminal_request, both_numbers, terminal_erasure}
use Rattle.rules.specs.Run.{end, log}
use Rattle.rules.specs.Calls.{Call, request, framed, sending, result, terminal, routes, Reply, call, clock_reading}
use Rattle.rules.specs.Figures.{is_early, is_routing, Right, KeepsCount}
use Rattle.rules.specs.Entries.{never}
use Rattle.rules.proofs.Routes.{routing_each}
use Rattle.rules.proofs.Each.{returned_each, step_each}
use Rattle.rules.proofs.Framed.{heard_read, no_refusal}
use Rattle.rules.proofs.Unsound.{unsound_call, unsound_stays}
use Rattle.rules.proofs.Calls.{calls_local}

-- ---- with right figures no call is refused 10

abbrev Not10 : Outcome → Type 0
Not10 o = is_refused_with 10 o.answer ≡ false

-- an outcome or an error is not refused 10
no_ten : (a : Answer) → (is_of outcome_class a || is_error a) ≡ true → is_refused_with 10 a ≡ false
no_ten a e = rw (no_refusal a e) refl

-- and so it is in its frame
ten_kept : (first number : ℕ) (frame : List ℕ) (o : Outcome) → Not10 o → Not10 (in_frame first number frame o)
ten_kept first number frame o e = go o.answer e
  where
    go : (a : Answer) → is_refused_with 10 a ≡ false → Not10 (answered_in first number frame o.state o.buffer a)
    go (refusal n) e = e
    go (error n) e = refl
    go (outcome n octets) e = refl
    go (holder_is msisdn octets) e = refl
    go (return_error n octets) e = refl
    go (reject n octets) e = refl
    go (sent_to addressee octets) e = refl
    go delivered e = refl
    go dropped e = refl
    go again e = refl
    go (found functional) e = refl
    go none_due e = refl
    go (ask_network code) e = refl
    go (routed_to msisdn subaddress) e = refl

module _ (t : State) (right : figures_right t ≡ true) where
  request_not_10 : (list reply : List ℕ) (requester : Msisdn) (scheme : ℕ) (string : List ℕ) → Not10 (requesting t list reply requester scheme string)
  unfolding requesting
  request_not_10 list reply requester scheme string = rw right
      (decide_each Not10 (refusing t reply
      ((ltb (length reply) buffer_room, refusal 1)
      ∷ (not (list_sound list), refusal 8)
      ∷ (not (table_sound t.table), refusal 2)
      ∷ (not (is_number requester.0), error 35)
      ∷ (not (eqb scheme coding_scheme), error 71)
      ∷ (eqb (length string) 0, error 35)
      ∷ (ltb most_string_octets (length string) || is_none (request_of string), error 36)
      ∷ [])) _ (refl, (refl, (refl, (refl, (refl, (refl, (refl, tt)))))))
      (no_ten asked.answer (heard_read t list requester scheme string reply (request_of string))))
    where
      asked : Outcome
      asked = asking_by (λ f. carried_out_for t reply requester f (crew_of f.additional)) t (flags_of list requester.0) reply (request_of string)

  framed_not_10 : (list frame : List ℕ) (requester : Msisdn) (message : List ℕ) → Not10 (framed_request t list frame requester message)
  unfolding framed_request
  framed_not_10 list frame requester message = rw right
      (decide_each Not10 (refusing t frame
      ((ltb (length frame) frame_room, refusal 1) ∷ (is_none (register_of message), refusal unread_message) ∷ (not (list_sound list), refusal 8) ∷ (not (table_sound t.table), refusal 2) ∷ [])) _
      (refl, (refl, (refl, (refl, tt)))) (by_register (register_of message)))
    where
      by_body : (first number : ℕ) (b : Body) → Not10 (bodied (requesting t list own_reply requester) t frame first number b)
      by_body first number (wrong problem) = refl
      by_body first number (asks scheme string) = ten_kept first number frame (requesting t list own_reply requester scheme string) (request_not_10 list own_reply requester scheme string)

      by_register : (r : Option Register) → Not10 (registered (requesting t list own_reply requester) t frame r)
      by_register none = refl
      by_register (some r) = by_body r.first r.number r.body

  sending_not_10 : (buffer : List ℕ) (number : FunctionalNumber) (delay clock : ℕ) → Not10 (notices.sending_notice t buffer number delay clock)
  unfolding notices.sending_notice
  sending_not_10 buffer number delay clock = rw right
      (decide_each Not10 (refusing t buffer
      ((ltb (length buffer) buffer_room, refusal 1)
      ∷ (not (table_sound t.table), refusal 2)
      ∷ (not (is_number number.0) || is_none (record_for t number.0), refusal 7)
      ∷ (not (delay_allowed delay), refusal 6)
      ∷ (not (is_waiting (notices.notice_in (record_for t number.0))), refusal 4)
      ∷ (not (is_due delay clock (notices.notice_in (record_for t number.0))), refusal 5)
      ∷ [])) _ (refl, (refl, (refl, (refl, (refl, (refl, tt)))))) (at_place (row_for t number.0)))
    where
      at_place : (place : Found) → Not10 (notices.sent_at number place t buffer)
      at_place None = refl
      at_place (Some i) = refl

  result_not_10 : (number : FunctionalNumber) (kind clock : ℕ) → Not10 (notices.taking_result t number kind clock)
  unfolding notices.taking_result
  result_not_10 number kind clock = rw right
      (decide_each Not10 (refusing t []
      ((not (table_sound t.table), refusal 2)
      ∷ (not (is_number number.0) || is_none (record_for t number.0), refusal 7)
      ∷ (ltb last_kind kind, refusal 3)
      ∷ (not (is_in_flight (notices.notice_in (record_for t number.0))), refusal 4)
      ∷ [])) _ (refl, (refl, (refl, (refl, tt)))) (at_place (row_for t number.0)))
    where
      at_place : (place : Found) → Not10 (notices.result_at kind clock place t)
      at_place None = refl
      at_place (Some i) = returned_each (λ a. is_refused_with 10 a ≡ false) refl refl refl kind (record_in t i).notice

  terminal_not_10 : (number : FunctionalNumber) (holder : Msisdn) (reply : List ℕ) → Not10 (terminal_erasure t reply number holder)
  unfolding terminal_erasure
  terminal_not_10 number holder reply = rw right
      (decide_each Not10 (refusing t reply
      ((ltb (length reply) buffer_room, refusal 1) ∷ (not (table_sound t.table), refusal 2) ∷ (not (both_numbers number holder), refusal 7) ∷ [])) _
      (refl, (refl, (refl, tt))) (step_each t reply Not10 (λ n l e. refl) (λ new. refl) (λ new. refl) (λ m. refl) nobody (terminal_request number holder)))

  call_not_10 : (list : List ℕ) (delay : ℕ) (c : Call) → is_refused_with 10 (call list delay c t).0.answer ≡ false
  call_not_10 list delay (request requester scheme string reply) = request_not_10 list reply requester scheme string
  call_not_10 list delay (framed requester message frame) = framed_not_10 list frame requester message
  call_not_10 list delay (sending now number buffer) = sending_not_10 buffer number delay (clock_reading now)
  call_not_10 list delay (result now number kind) = result_not_10 number kind (clock_reading now)
  call_not_10 list delay (terminal number holder reply) = terminal_not_10 number holder reply
  call_not_10 list delay (routes home coded asked) =
      routing_each (λ a. is_refused_with 10 a ≡ false) refl refl (λ code. refl) (λ m s. refl) refl refl t.table home coded asked

-- ---- the figures

module _ (list : List ℕ) (delay : ℕ) where
  -- over an unsound table nothing changes
  one_call : (c : Call) (state : State) → (is_routing c ≡ true → Right state) → (is_early (call list delay c state).0.answer ≡ true → Right state) → Right (call list delay c state).1
  one_call c state looks-right early-right = by_state (state_sound state) refl
    where
      by_state : (b : Bool) → state_sound state ≡ b → Right (call list delay c state).1
      by_state true sound = (sound_state_lem _ ((calls_local list delay).keep c state sound)).figures
      by_state false unsound =
          subst Right (sym (unsound_stays state unsound list delay c))
          (⊎_elim (λ (n, buffer, e, early). early-right (ap (λ r. is_early r.0.answer) e ∙ early)) (λ (a, e, looks, quiet). looks-right looks) (unsound_call state unsound list delay c))

  every_call : (cs : List Call) (state : State) → Right state → Right (end (call list delay) cs state)
  every_call [] state right = right
  every_call (c ∷ cs) state right = every_call cs (call list delay c state).1 (one_call c state (λ e. right) (λ e. right))

  never_ten : (cs : List Call) (state : State) → Right state → never (λ entry. is_refused_with 10 entry.1.answer) (log (call list delay) cs state) ≡ true
  never_ten [] state right = refl
  never_ten (c ∷ cs) state right =
      rw (call_not_10 state (right_figures_lem state right) list delay c) (never_ten cs (call list delay c state).1 (one_call c state (λ e. right) (λ e. right)))

  pub keeps_count : KeepsCount list delay
  keeps_count = record { one_call = λ c state other late. one_call c state (λ looks. no_path (sym other ∙ looks)) (λ early. no_path (sym late ∙ early)); every_call = every_call; never_ten = never_ten }
