-- A helper: a second form of the rules, for the theorems and the code, proved equal to `Requests`, `Notices`, `Terminal` and `Routing` (proofs/Visits). Once a request's string or a routing's digits read, and for every sending, result and erasure at the terminal, a single call visits the record of one number, and a step of that record decides. Assumes nothing.
use Rattle.std.specs.Prelude.{ℕ, not, ◌&&◌, List, [], ◌∷◌, length, ltb}
use Rattle.std.proofs.Math.Option.{Option, none, some}
use Rattle.answers.specs.Checks.{decide}
use Rattle.numbers.specs.declared.FunctionalNumber.{FunctionalNumber}
use Rattle.numbers.specs.declared.Msisdn.{Msisdn}
use Rattle.numbers.specs.Numbers.{two_digits, nobody}
use Rattle.strings.specs.declared.Operation.{Operation}
use Rattle.strings.specs.declared.Operation.TheVariants.{Register, Erase, Interrogate}
use Rattle.strings.specs.declared.Erasing.{Erasing}
use Rattle.strings.specs.declared.Erasing.TheVariants.{Empty, Forced}
use Rattle.strings.specs.Text.{Request}
use Rattle.strings.specs.Notices.{notice_text, notice_fields}
use Rattle.strings.specs.Outcomes.{request_of}
use Rattle.frames.specs.Messages.{unread_message}
use Rattle.records.specs.declared.Record.{Record}
use Rattle.records.specs.Step.{Step}
use Rattle.records.specs.Step as step
use Rattle.records.specs.Holder.{Holder}
use Rattle.records.specs.Holder as holds
use Rattle.records.specs.Sending.{Sending}
use Rattle.records.specs.Sending as launches
use Rattle.records.specs.Resulted.{Resulted}
use Rattle.records.specs.Resulted.{Refused, Delivered, Dropped, Again}
use Rattle.records.specs.Steps as steps
use Rattle.tables.specs.Tables.{flags_of}
use Rattle.states.specs.States.{State, beside, record_in, stored_in}
use Rattle.rules.specs.Answers.{Answer, refusal, error, outcome, holder_is, sent_to, delivered, dropped, again, Outcome, made, buffer_room, holder_text, packed_over, octet_count}
use Rattle.rules.specs.Requests.{has_follow_me, is_supervisor, is_forced, Stepping, comes_to, says, tells}
use Rattle.rules.specs.Frames.{answered_in, Inside, inside_of, own_reply}
use Rattle.rules.specs.Terminal.{terminal_request, both_numbers}
use Rattle.rules.specs.Routing.{with_code_in, by_code}
use Rattle.rules.specs.Calls.{Call, request, framed, sending, result, terminal, routes, Reply, replied, clock_reading}

-- what a call gets, and the record that it leaves
pub record Visited : Type 0 where
  pub reply : Reply
  pub next : Record

abbrev pub visited : Answer → List ℕ → Record → Visited
visited a buffer r = record { reply = record { answer = a; buffer = buffer }; next = r }

-- what a visit to row i comes to: the record that it leaves is stored there
abbrev pub storing : State → ℕ → Visited → Outcome
storing state i v = made v.reply.answer (stored_in state i v.next) v.reply.buffer

-- a reply, with table and figures as they were
abbrev pub leaving : State → Reply → Outcome
leaving state r = made r.answer state r.buffer

-- ---- requests

-- an outcome with its text in the reply
abbrev pub visit_saying : ℕ → List ℕ → Record → Visited
visit_saying n reply r = visited (outcome n (octet_count (two_digits n))) (packed_over (two_digits n) reply) r

-- a step of the record r: the outcome that leaves it, or the outcome n with the next record
abbrev pub stepped : ℕ → List ℕ → Record → Step → Visited
stepped n reply r (step.Stays m) = visit_saying m reply r
stepped n reply r (step.Becomes next) = visit_saying n reply next

abbrev pub holder_answered : List ℕ → Record → Holder → Visited
holder_answered reply r (holds.Stays m) = visit_saying m reply r
holder_answered reply r (holds.Held msisdn) = visited (holder_is msisdn.0 (octet_count (holder_text msisdn.0))) (packed_over (holder_text msisdn.0) reply) r

abbrev pub erases : Erasing → FunctionalNumber → Msisdn → Record → Step
erases Empty number requester r = steps.erased number requester r
erases (Forced msisdn) number requester r = steps.forced requester msisdn r

-- what the record decides, by the operation
abbrev pub decides : Operation → Erasing → FunctionalNumber → Msisdn → List ℕ → Record → Visited
decides Register erasing number requester reply r = stepped 1 reply r (steps.registered number requester r)
decides Erase erasing number requester reply r = stepped 2 reply r (erases erasing number requester r)
decides Interrogate erasing number requester reply r = holder_answered reply r (steps.interrogated r)

unfoldable pub decided : Request → Msisdn → List ℕ → Record → Visited
decided f requester reply r = decides f.operation f.erasing f.number requester reply r

-- a step where the number is in row i: that row's record decides
abbrev pub step_at : State → ℕ → ℕ → Step → Stepping
step_at t i n (step.Stays m) = comes_to (says m) t
step_at t i n (step.Becomes next) = comes_to (says n) (stored_in t i next)

abbrev pub tell_at : State → Holder → Stepping
tell_at t (holds.Stays m) = comes_to (says m) t
tell_at t (holds.Held msisdn) = comes_to (tells msisdn.0) t

-- what the record of row i makes of a step, by the operation
abbrev pub decides_at : Operation → Erasing → FunctionalNumber → Msisdn → State → ℕ → Stepping
decides_at Register e number requester t i = step_at t i 1 (steps.registered number requester (record_in t i))
decides_at Erase e number requester t i = step_at t i 2 (erases e number requester (record_in t i))
decides_at Interrogate e number requester t i = tell_at t (steps.interrogated (record_in t i))

-- ---- sendings and results

-- the record, sent: the addressee and the notice's octets
abbrev pub sent_step : FunctionalNumber → List ℕ → Record → Sending → Visited
sent_step number buffer r (launches.Refused m) = visited (refusal m) buffer r
sent_step number buffer r (launches.Launched next) =
    let text = notice_text (notice_fields number r.supervisor) in
    visited (sent_to r.addressee.0 (octet_count text)) (packed_over text buffer) next

abbrev pub result_step : Record → Resulted → Visited
result_step r (Refused m) = visited (refusal m) [] r
result_step r (Delivered next) = visited delivered [] next
result_step r (Dropped next) = visited dropped [] next
result_step r (Again next) = visited again [] next

-- ---- a call

-- "1 (buffer under 80)" stands before what the record decides
abbrev pub visit_sending : ℕ → ℕ → FunctionalNumber → List ℕ → Record → Visited
visit_sending delay clock number buffer r =
    decide ((ltb (length buffer) buffer_room, visited (refusal 1) buffer r) ∷ []) (sent_step number buffer r (steps.sent delay clock r))

abbrev pub visit_result : ℕ → ℕ → Record → Visited
visit_result kind clock r = result_step r (steps.resulted kind clock r)

-- 1 and 7 stand before what the record decides
abbrev pub visit_terminal : FunctionalNumber → Msisdn → List ℕ → Record → Visited
visit_terminal number holder reply r =
    decide ((ltb (length reply) buffer_room, visited (refusal 1) reply r) ∷ (not (both_numbers number holder), visited (refusal 7) reply r) ∷ [])
    (decided (terminal_request number holder) nobody reply r)

abbrev pub visit_request : ℕ → Msisdn → List ℕ → Option Request → Record → Visited
visit_request flags requester reply none r = visited (error 36) reply r
visit_request flags requester reply (some f) r =
    decide ((not (has_follow_me flags), visit_saying 42 reply r) ∷ (is_forced f.erasing && not (is_supervisor flags), visit_saying 22 reply r) ∷ [])
    (decided f requester reply r)

-- what the request inside gets, in its frame; a message without one names no number
abbrev pub enveloped : Inside → List ℕ → Reply → Reply
enveloped i frame r = (replied (answered_in i.first i.number frame (beside [] []) r.buffer r.answer)).0

abbrev pub visit_inside : ℕ → Msisdn → List ℕ → Option Inside → Record → Visited
visit_inside flags requester frame none r = visited (refusal unread_message) frame r
visit_inside flags requester frame (some i) r =
    let v = visit_request flags requester own_reply (request_of i.string) r in record { reply = enveloped i frame v.reply; next = v.next }

-- what a call that names a number makes of that number's record
abbrev pub visit : List ℕ → ℕ → Call → Record → Visited
visit list delay (request requester scheme string reply) r = visit_request (flags_of list requester.0) requester reply (request_of string) r
visit list delay (framed requester message frame) r = visit_inside (flags_of list requester.0) requester frame (inside_of message) r
visit list delay (sending now number buffer) r = visit_sending delay (clock_reading now) number buffer r
visit list delay (result now number kind) r = visit_result kind (clock_reading now) r
visit list delay (terminal number holder reply) r = visit_terminal number holder reply r
visit list delay (routes home coded asked) r = visited (by_code home (with_code_in home coded asked) (some r)) [] r

-- ---- a number that is not in the table

abbrev pub reply_saying : ℕ → List ℕ → Reply
reply_saying n reply = record { answer = outcome n (octet_count (two_digits n)); buffer = packed_over (two_digits n) reply }

abbrev pub missed_request : ℕ → List ℕ → Option Request → Reply
missed_request flags reply none = record { answer = error 36; buffer = reply }
missed_request flags reply (some f) =
    decide ((not (has_follow_me flags), reply_saying 42 reply) ∷ (is_forced f.erasing && not (is_supervisor flags), reply_saying 22 reply) ∷ []) (reply_saying 41 reply)

abbrev pub missed_inside : ℕ → List ℕ → Option Inside → Reply
missed_inside flags frame none = record { answer = refusal unread_message; buffer = frame }
missed_inside flags frame (some i) = enveloped i frame (missed_request flags own_reply (request_of i.string))

abbrev pub missed_sending : List ℕ → Reply
missed_sending buffer =
    decide ((ltb (length buffer) buffer_room, record { answer = refusal 1; buffer = buffer }) ∷ []) (record { answer = refusal 7; buffer = buffer })

abbrev pub missed_result : Reply
missed_result = record { answer = refusal 7; buffer = [] }

abbrev pub missed_terminal : FunctionalNumber → Msisdn → List ℕ → Reply
missed_terminal number holder reply =
    decide
    ((ltb (length reply) buffer_room, record { answer = refusal 1; buffer = reply })
    ∷ (not (both_numbers number holder), record { answer = refusal 7; buffer = reply })
    ∷ [])
    (reply_saying 41 reply)

abbrev pub missed : List ℕ → Call → Reply
missed list (request requester scheme string reply) = missed_request (flags_of list requester.0) reply (request_of string)
missed list (framed requester message frame) = missed_inside (flags_of list requester.0) frame (inside_of message)
missed list (sending now number buffer) = missed_sending buffer
missed list (result now number kind) = missed_result
missed list (terminal number holder reply) = missed_terminal number holder reply
missed list (routes home coded asked) = record { answer = by_code home (with_code_in home coded asked) none; buffer = [] }
