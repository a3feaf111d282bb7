-- What each answer that a call can get says of the memory that it was lent: demand 1, answer by answer. Assumes nothing.
use mathlib.Core.Path.{◌≡◌, refl, sym, ◌∙◌}
use mathlib.Core.Bool.{Bool, true, false, ◌||◌}
use mathlib.Core.Option.{Option, none, some}
use mathlib.Core.List.{List, []}
use Prim.Native.Nat.{ℕ}
use lib.ListN.{take}
use Rattle.answers.proofs.Tests.{no_path, and_left, or_neither}
use Rattle.answers.proofs.Decide.{decide_each}
use Rattle.answers.specs.Writing.{over}
use Rattle.packing.specs.Packing.{packed}
use Rattle.numbers.specs.declared.FunctionalNumber.{FunctionalNumber}
use Rattle.numbers.specs.declared.Msisdn.{Msisdn}
use Rattle.numbers.specs.Numbers.{two_digits}
use Rattle.strings.specs.declared.Operation.{Operation}
use Rattle.strings.specs.declared.Operation.TheVariants.{Register, Erase, Interrogate}
use Rattle.frames.specs.Components.{Body, wrong, asks}
use Rattle.frames.specs.Components as components
use Rattle.frames.specs.Messages.{register_of, release, inverted}
use Rattle.frames.specs.Messages as messages
use Rattle.tables.specs.Keys.{Found}
use Rattle.std.specs.Prelude.{Some, None}
use Rattle.tables.specs.Tables.{table_sound}
use Rattle.states.specs.States.{State, figures_right, row_for, record_for, record_in, stored_in}
use Rattle.rules.specs.Answers.{Answer, refusal, error, outcome, holder_is, return_error, reject, Outcome, made, outcome_class, numbers_of, is_of, is_refusal, is_error, is_return_error, is_reject, is_negative_number, is_negative, crew_registered, crew_erased, packed_over, octet_count, refusing}
use Rattle.rules.specs.Crews.{crew_number, requesting}
use Rattle.rules.specs.Frames.{framed_checks, in_frame, own_reply, bodied, registered, framed_request}
use Rattle.rules.specs.Notices as notices
use Rattle.rules.specs.Terminal.{terminal_erasure}
use Rattle.rules.specs.Routing.{routing}
use Rattle.rules.specs.Calls.{Call, request, framed, sending, result, terminal, routes, buffer_of, clock_reading, call}
use Rattle.rules.specs.Demand.{may_change, release_over, reply_over}
use Rattle.rules.proofs.Inside.{string_written}
use Rattle.rules.proofs.Routes.{routing_each}
use Rattle.rules.proofs.Each.{returned_each, terminal_each, request_each}

module _ (c : Call) (state : State) where
  pub record Leaves (o : Outcome) : Type 0 where
    pub refused : (is_refusal o.answer || is_error o.answer) ≡ true → (o.state ≡ state) × (o.buffer ≡ buffer_of c)
    pub negative : is_negative o.answer ≡ true → (o.state ≡ state) × (o.buffer ≡ reply_over c (packed (two_digits (numbers_of o.answer).number)))
    pub returned_error :
        is_return_error o.answer ≡ true → (o.state ≡ state) × (o.buffer ≡ release_over c (λ number. components.error number (numbers_of o.answer).number))
    pub rejected : is_reject o.answer ≡ true → (o.state ≡ state) × (o.buffer ≡ release_over c (λ number. components.reject number (numbers_of o.answer).number))
    pub others : is_of outcome_class o.answer ≡ true → may_change o.answer ≡ false → o.state ≡ state

  -- a refusal, an error: nothing is written
  refuses : (n : ℕ) → Leaves (made (refusal n) state (buffer_of c))
  refuses n = record {
    refused = λ e. (refl, refl);
    negative = λ e. no_path e;
    returned_error = λ e. no_path e;
    rejected = λ e. no_path e;
    others = λ e f. refl;
  }

  errs : (n : ℕ) → Leaves (made (error n) state (buffer_of c))
  errs n = record {
    refused = λ e. (refl, refl);
    negative = λ e. no_path e;
    returned_error = λ e. no_path e;
    rejected = λ e. no_path e;
    others = λ e f. refl;
  }

  -- the same in a frame
  returns_error : (n octets : ℕ) (buffer : List ℕ) → buffer ≡ release_over c (λ number. components.error number n) → Leaves (made (return_error n octets) state buffer)
  returns_error n octets buffer b = record {
    refused = λ e. no_path e;
    negative = λ e. no_path e;
    returned_error = λ e. (refl, b);
    rejected = λ e. no_path e;
    others = λ e f. refl;
  }

  rejects : (n octets : ℕ) (buffer : List ℕ) → buffer ≡ release_over c (λ number. components.reject number n) → Leaves (made (reject n octets) state buffer)
  rejects n octets buffer b = record {
    refused = λ e. no_path e;
    negative = λ e. no_path e;
    returned_error = λ e. no_path e;
    rejected = λ e. (refl, b);
    others = λ e f. refl;
  }

  -- a negative outcome: its two characters
  denies : (n octets : ℕ) (buffer : List ℕ) → buffer ≡ reply_over c (packed (two_digits n)) → Leaves (made (outcome n octets) state buffer)
  denies n octets buffer b = record {
    refused = λ e. no_path e;
    negative = λ e. (refl, b);
    returned_error = λ e. no_path e;
    rejected = λ e. no_path e;
    others = λ e f. refl;
  }

  -- 01, 02, and a crew's
  changes : (n octets : ℕ) (new : State) (buffer : List ℕ) → may_change (outcome n octets) ≡ true → is_negative_number n ≡ false → Leaves (made (outcome n octets) new buffer)
  changes n octets new buffer d p = record {
    refused = λ e. no_path e;
    negative = λ e. no_path (sym p ∙ e);
    returned_error = λ e. no_path e;
    rejected = λ e. no_path e;
    others = λ e f. no_path (sym f ∙ d);
  }

  crew_changes : (o : Operation) (octets : ℕ) (new : State) (buffer : List ℕ) → Leaves (made (outcome (crew_number o) octets) new buffer)
  crew_changes Register octets new buffer = changes crew_registered octets new buffer refl refl
  crew_changes Erase octets new buffer = changes crew_erased octets new buffer refl refl
  crew_changes Interrogate octets new buffer = changes crew_erased octets new buffer refl refl

  tells_holder : (msisdn octets : ℕ) (buffer : List ℕ) → Leaves (made (holder_is msisdn octets) state buffer)
  tells_holder msisdn octets buffer = record {
    refused = λ e. no_path e;
    negative = λ e. no_path e;
    returned_error = λ e. no_path e;
    rejected = λ e. no_path e;
    others = λ e f. refl;
  }

  -- what a sending or a result is answered where it is not refused
  apart : (a : Answer) (new : State) (buffer : List ℕ) → (is_refusal a || is_error a) ≡ false → is_of outcome_class a ≡ false → (is_return_error a || is_reject a) ≡ false
      → Leaves (made a new buffer)
  apart a new buffer r unsaid unframed = let neither = or_neither (is_return_error a) (is_reject a) unframed in record {
    refused = λ e. no_path (sym r ∙ e);
    negative = λ e. no_path (sym unsaid ∙ and_left _ _ e);
    returned_error = λ e. no_path (sym neither.0 ∙ e);
    rejected = λ e. no_path (sym neither.1 ∙ e);
    others = λ e f. no_path (sym unsaid ∙ e);
  }

request_leaves : (list reply : List ℕ) (requester : Msisdn) (scheme : ℕ) (string : List ℕ) (state : State)
    → Leaves (request requester scheme string reply) state (requesting state list reply requester scheme string)
request_leaves list reply requester scheme string state =
    request_each state reply (Leaves c state) (refuses c state) (errs c state) (λ n l e. denies c state n _ _ refl) (λ new. changes c state 1 _ new _ refl refl)
    (λ new. changes c state 2 _ new _ refl refl) (λ m. tells_holder c state m _ _) (λ o w tallied. crew_changes c state o _ _ _) list requester scheme string
  where
    c : Call
    c = request requester scheme string reply

module _ (list frame : List ℕ) (requester : Msisdn) (message : List ℕ) (state : State) where
  abbrev framed_call : Call
  framed_call = framed requester message frame

  module _ (r : messages.Register) (reads : register_of message ≡ some r) where
    -- the packed text stands at the front of the reply, and so in the frame
    in_result : (text : List ℕ)
        → over (release (inverted r.first) (components.result r.number (take (octet_count text) (packed_over text own_reply)))) frame
        ≡ reply_over framed_call (packed text)
    in_result text = rw (reads, string_written text own_reply) refl

    body_leaves : (body : Body) → Leaves framed_call state (bodied (requesting state list own_reply requester) state frame r.first r.number body)
    body_leaves (wrong problem) = rejects framed_call state problem _ _ (rw reads refl)
    body_leaves (asks scheme string) =
        request_each state own_reply (λ o. Leaves framed_call state (in_frame r.first r.number frame o))
        (refuses framed_call state) (λ n. returns_error framed_call state n _ _ (rw reads refl)) (λ n l e. denies framed_call state n _ _ (in_result (two_digits n)))
        (λ new. changes framed_call state 1 _ new _ refl refl) (λ new. changes framed_call state 2 _ new _ refl refl) (λ m. tells_holder framed_call state m _ _)
        (λ o w tallied. crew_changes framed_call state o _ _ _) list requester scheme string

  framed_leaves : Leaves framed_call state (framed_request state list frame requester message)
  unfolding framed_request
  framed_leaves =
      decide_each (Leaves framed_call state) (refusing state frame (framed_checks (table_sound state.table) (figures_right state) list frame message)) _
      (refuses framed_call state 1, (refuses framed_call state 11, (refuses framed_call state 8, (refuses framed_call state 2, (refuses framed_call state 10, tt))))) (go (register_of message) refl)
    where
      go : (read : Option messages.Register) → register_of message ≡ read → Leaves framed_call state (registered (requesting state list own_reply requester) state frame read)
      go none e = refuses framed_call state 11
      go (some r) e = body_leaves r e r.body

module _ (now : ℕ) (number : FunctionalNumber) (buffer : List ℕ) (state : State) where
  abbrev sent_call : Call
  sent_call = sending now number buffer

  sent_leaves : (place : Found) → Leaves sent_call state (notices.sent_at number place state buffer)
  sent_leaves None = refuses sent_call state 7
  sent_leaves (Some i) = apart sent_call state _ _ _ refl refl refl

  sending_leaves : (delay clock : ℕ) → Leaves sent_call state (notices.sending_notice state buffer number delay clock)
  unfolding notices.sending_notice
  sending_leaves delay clock =
      decide_each (Leaves sent_call state) (refusing state buffer (notices.sending_checks (table_sound state.table) (figures_right state) buffer number.0 (record_for state number.0) delay clock)) _
      (refuses sent_call state 1, (refuses sent_call state 2, (refuses sent_call state 10, (refuses sent_call state 7, (refuses sent_call state 6, (refuses sent_call state 4, (refuses sent_call state 5, tt)))))))
      (sent_leaves (row_for state number.0))

module _ (now : ℕ) (number : FunctionalNumber) (kind : ℕ) (state : State) where
  abbrev taken_call : Call
  taken_call = result now number kind

  result_leaves : (clock : ℕ) → Leaves taken_call state (notices.taking_result state number kind clock)
  unfolding notices.taking_result
  result_leaves clock =
      decide_each (Leaves taken_call state) (refusing state [] (notices.result_checks (table_sound state.table) (figures_right state) number.0 (record_for state number.0) kind)) _
      (refuses taken_call state 2, (refuses taken_call state 10, (refuses taken_call state 7, (refuses taken_call state 3, (refuses taken_call state 4, tt))))) (at (row_for state number.0))
    where
      at : (place : Found) → Leaves taken_call state (notices.result_at kind clock place state)
      at None = refuses taken_call state 7
      at (Some i) =
          let new = stored_in state i (notices.after_result kind clock (record_in state i)) in
          returned_each (λ a. Leaves taken_call state (made a new [])) (apart taken_call state _ _ _ refl refl refl) (apart taken_call state _ _ _ refl refl refl)
          (apart taken_call state _ _ _ refl refl refl) kind (record_in state i).notice

terminal_leaves : (number : FunctionalNumber) (holder : Msisdn) (reply : List ℕ) (state : State)
    → Leaves (terminal number holder reply) state (terminal_erasure state reply number holder)
terminal_leaves number holder reply state =
    terminal_each state reply (Leaves c state) (refuses c state) (errs c state) (λ n l e. denies c state n _ _ refl) (λ new. changes c state 1 _ new _ refl refl)
    (λ new. changes c state 2 _ new _ refl refl) (λ m. tells_holder c state m _ _) number holder
  where
    c : Call
    c = terminal number holder reply

routing_leaves : (home : List ℕ) (coded : Bool) (asked : List ℕ) (state : State) → Leaves (routes home coded asked) state (made (routing state.table home coded asked) state [])
routing_leaves home coded asked state =
    routing_each (λ a. Leaves c state (made a state [])) (denies c state 41 0 [] refl) (denies c state 62 0 [] refl) (λ code. apart c state _ state [] refl refl refl)
    (λ m s. apart c state _ state [] refl refl refl) (refuses c state 2) (errs c state 36) state.table home coded asked
  where
    c : Call
    c = routes home coded asked

-- ---- every call

pub leaves : (list : List ℕ) (delay : ℕ) (c : Call) (state : State)
    → Leaves c state (made (call list delay c state).0.answer (call list delay c state).1 (call list delay c state).0.buffer)
leaves list delay (request requester scheme string reply) state = request_leaves list reply requester scheme string state
leaves list delay (framed requester message frame) state = framed_leaves list frame requester message state
leaves list delay (sending now number buffer) state = sending_leaves now number buffer state delay (clock_reading now)
leaves list delay (result now number kind) state = result_leaves now number kind state (clock_reading now)
leaves list delay (terminal number holder reply) state = terminal_leaves number holder reply state
leaves list delay (routes home coded asked) state = routing_leaves home coded asked state
