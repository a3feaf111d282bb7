-- Document 02, M-101: the framed request, its checks in their order, and the Release Complete that answers it. Assumes nothing.
use Rattle.std.specs.Prelude.{ℕ, Bool, not, List, [], ◌∷◌, length, take, replicate, ltb}
use Rattle.std.proofs.Math.Option.{Option, none, some}
use Rattle.answers.specs.Checks.{decide, is_none, ◌>>=◌}
use Rattle.answers.specs.Writing.{over}
use Rattle.numbers.specs.declared.Msisdn.{Msisdn}
use Rattle.frames.specs.Components.{Component, Body, wrong, asks}
use Rattle.frames.specs.Components as components
use Rattle.frames.specs.Messages.{frame_room, unread_message, Register, register_of, release, inverted}
use Rattle.tables.specs.Tables.{table_sound, list_sound}
use Rattle.states.specs.States.{State, figures_right}
use Rattle.rules.specs.Answers.{Answer, refusal, error, outcome, holder_is, return_error, reject, sent_to, delivered, dropped, again, found, none_due, ask_network, routed_to, Outcome, made, buffer_room, refusing}
use Rattle.rules.specs.Crews.{requesting}

-- "Refusals: 1 for a frame buffer under 120 octets; then 11 for a message wrong anywhere up to its invoke number, 8, 2, and only then a Reject"; M-103: 10 "directly after 2"
abbrev pub framed_checks : Bool → Bool → List ℕ → List ℕ → List ℕ → List (Bool × Answer)
framed_checks sound_table right_figures list frame message =
    (ltb (length frame) frame_room, refusal 1)
    ∷ (is_none (register_of message), refusal unread_message)
    ∷ (not (list_sound list), refusal 8)
    ∷ (not sound_table, refusal 2)
    ∷ (not right_figures, refusal 10)
    ∷ []

-- ---- the answer in its frame

-- a Release Complete, "the transaction flag inverted", and the frame buffer with it over its front
abbrev pub answer_to : ℕ → Component → List ℕ
answer_to first c = release (inverted first) c

abbrev pub released : ℕ → List ℕ → Component → List ℕ
released first frame c = over (answer_to first c) frame

-- the answer has its octet count
abbrev pub releasing : (ℕ → Answer) → State → ℕ → List ℕ → Component → Outcome
releasing answer state first frame c = made (answer (length (answer_to first c))) state (released first frame c)

-- what the request inside comes to, in the frame: an outcome with its string as Return Result, an error as Return Error, "The invoke number returns unchanged"
abbrev pub answered_in : ℕ → ℕ → List ℕ → State → List ℕ → Answer → Outcome
answered_in first number frame state reply (outcome n octets) = releasing (outcome n) state first frame (components.result number (take octets reply))
answered_in first number frame state reply (holder_is msisdn octets) = releasing (holder_is msisdn) state first frame (components.result number (take octets reply))
answered_in first number frame state reply (error n) = releasing (return_error n) state first frame (components.error number n)
-- no request has another answer, and none is refused behind the checks of its frame
answered_in first number frame state reply (refusal n) = made (refusal n) state frame
answered_in first number frame state reply (return_error n octets) = made (return_error n octets) state frame
answered_in first number frame state reply (reject n octets) = made (reject n octets) state frame
answered_in first number frame state reply (sent_to addressee octets) = made (sent_to addressee octets) state frame
answered_in first number frame state reply delivered = made delivered state frame
answered_in first number frame state reply dropped = made dropped state frame
answered_in first number frame state reply again = made again state frame
answered_in first number frame state reply (found functional) = made (found functional) state frame
answered_in first number frame state reply none_due = made none_due state frame
answered_in first number frame state reply (ask_network code) = made (ask_network code) state frame
answered_in first number frame state reply (routed_to msisdn subaddress) = made (routed_to msisdn subaddress) state frame

abbrev pub in_frame : ℕ → ℕ → List ℕ → Outcome → Outcome
in_frame first number frame o = answered_in first number frame o.state o.buffer o.answer

-- ---- the framed request

-- the request inside a message: its coding scheme and its string, and the first octet and invoke number that its answer returns
pub record Inside : Type 0 where
  pub first : ℕ
  pub number : ℕ
  pub scheme : ℕ
  pub string : List ℕ

abbrev pub in_body : ℕ → ℕ → Body → Option Inside
in_body first number (wrong problem) = none
in_body first number (asks scheme string) = some (record { first = first; number = number; scheme = scheme; string = string })

abbrev pub inside_of : List ℕ → Option Inside
inside_of message = register_of message >>= λ r. in_body r.first r.number r.body

-- the request inside is lent a reply buffer of its own
abbrev pub own_reply : List ℕ
own_reply = replicate buffer_room 0

-- a Reject by its problem, or the request inside, by what it comes to where it is asked
abbrev pub bodied : (ℕ → List ℕ → Outcome) → State → List ℕ → ℕ → ℕ → Body → Outcome
bodied asked state frame first number (wrong problem) = releasing (reject problem) state first frame (components.reject number problem)
bodied asked state frame first number (asks scheme string) = in_frame first number frame (asked scheme string)

abbrev pub registered : (ℕ → List ℕ → Outcome) → State → List ℕ → Option Register → Outcome
registered asked state frame none = made (refusal unread_message) state frame
registered asked state frame (some r) = bodied asked state frame r.first r.number r.body

abbrev pub framed_by : (ℕ → List ℕ → Outcome) → State → List ℕ → List ℕ → List ℕ → Outcome
framed_by asked state list frame message =
    decide (refusing state frame (framed_checks (table_sound state.table) (figures_right state) list frame message)) (registered asked state frame (register_of message))

unfoldable pub framed_request : State → List ℕ → List ℕ → Msisdn → List ℕ → Outcome
framed_request state list frame requester message = framed_by (requesting state list own_reply requester) state list frame message
