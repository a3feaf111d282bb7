-- Calls in which every request is a single one. A crew's request is a list of these; every other call is one of them. Assumes nothing.
use mathlib.Core.List.{List, []}
use Prim.Native.Nat.{ℕ}
use Rattle.numbers.specs.declared.Msisdn.{Msisdn}
use Rattle.states.specs.States.{State}
use Rattle.rules.specs.Answers.{Outcome}
use Rattle.rules.specs.Requests.{once, requesting_by}
use Rattle.rules.specs.Frames.{own_reply, framed_by}
use Rattle.rules.specs.Notices.{sending_notice, taking_result}
use Rattle.rules.specs.Terminal.{terminal_erasure}
use Rattle.rules.specs.Routing.{routing}
use Rattle.rules.specs.Calls.{Call, request, framed, sending, result, terminal, routes, Reply, replied, clock_reading}

unfoldable pub requesting_once : State → List ℕ → List ℕ → Msisdn → ℕ → List ℕ → Outcome
requesting_once state list reply requester scheme string = requesting_by (once state reply requester) state list reply requester scheme string

unfoldable pub framed_once : State → List ℕ → List ℕ → Msisdn → List ℕ → Outcome
framed_once state list frame requester message = framed_by (requesting_once state list own_reply requester) state list frame message

abbrev pub single : List ℕ → ℕ → Call → State → Reply × State
single list delay (request requester scheme string reply) state = replied (requesting_once state list reply requester scheme string)
single list delay (framed requester message frame) state = replied (framed_once state list frame requester message)
single list delay (sending now number buffer) state = replied (sending_notice state buffer number delay (clock_reading now))
single list delay (result now number kind) state = replied (taking_result state number kind (clock_reading now))
single list delay (terminal number holder reply) state = replied (terminal_erasure state reply number holder)
single list delay (routes home coded asked) state = (record { answer = routing state.table home coded asked; buffer = [] }, state)
