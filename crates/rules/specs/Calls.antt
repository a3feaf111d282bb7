-- Requests, framed ones, sendings, results, erasures at the terminal and routings as calls over one table and its figures, with one subscriber list and one delay; the numbers that a call names; and its single steps. Assumes nothing.
use Rattle.std.specs.Prelude.{ℕ, ◌*◌, ◌%◌, ◌^◌, Bool, true, false, cond, not, ◌||◌, List, [], ◌∷◌, ◌++◌, map, take, drop, eqb}
use Rattle.std.proofs.Math.Option.{Option, none, some}
use Rattle.answers.specs.Checks.{any_holds, ◌>>=◌}
use Rattle.packing.specs.Packing.{packed}
use Rattle.numbers.specs.Numbers.{stored_form}
use Rattle.numbers.specs.declared.FunctionalNumber.{FunctionalNumber}
use Rattle.numbers.specs.declared.Msisdn.{Msisdn}
use Rattle.crews.specs.Crews.{is_in, crew_of}
use Rattle.strings.specs.Text.{Request, text_of}
use Rattle.strings.specs.Outcomes.{request_of}
use Rattle.rows.specs.Rows.{row_words}
use Rattle.tables.specs.Keys.{Found}
use Rattle.std.specs.Prelude.{Some, None}
use Rattle.tables.specs.Tables.{row_of, flags_of}
use Rattle.states.specs.States.{State, counted}
use Rattle.rules.specs.Answers.{Answer, Outcome}
use Rattle.rules.specs.Requests.{has_follow_me, refusal_checks}
use Rattle.rules.specs.Crews.{with_code, member_of, crew_codes, requesting}
use Rattle.rules.specs.Frames.{framed_checks, Inside, inside_of, own_reply, framed_request}
use Rattle.rules.specs.Notices as notices
use Rattle.rules.specs.Terminal.{terminal_erasure}
use Rattle.rules.specs.Routing.{with_code_in, routing_checks, routing}

-- a call, with its own clock and buffer
pub data Call : Type 0 where
  -- requester, data coding scheme, string, reply buffer
  request : Msisdn → ℕ → List ℕ → List ℕ → Call
  -- requester, message, frame buffer
  framed : Msisdn → List ℕ → List ℕ → Call
  -- now, functional number, buffer
  sending : ℕ → FunctionalNumber → List ℕ → Call
  -- now, functional number, kind
  result : ℕ → FunctionalNumber → ℕ → Call
  -- functional number, holder, reply buffer: at the node's terminal (M-111)
  terminal : FunctionalNumber → Msisdn → List ℕ → Call
  -- the node's own code, whether the digits have a code, and the digits: where a text message goes (M-112)
  routes : List ℕ → Bool → List ℕ → Call

-- the buffer that a call is lent; a result and a routing are lent none
abbrev pub buffer_of : Call → List ℕ
buffer_of (request requester scheme string reply) = reply
buffer_of (framed requester message frame) = frame
buffer_of (sending now number buffer) = buffer
buffer_of (result now number kind) = []
buffer_of (terminal number holder reply) = reply
buffer_of (routes home coded asked) = []

-- what a caller gets: the answer, and the buffer afterwards
pub record Reply : Type 0 where
  pub answer : Answer
  pub buffer : List ℕ

abbrev pub replied : Outcome → Reply × State
replied o = (record { answer = o.answer; buffer = o.buffer }, o.state)

-- "The second counter has 32 bits and wraps"
abbrev pub clock_reading : ℕ → ℕ
clock_reading now = now % 2 ^ 32

-- one call over table and figures
abbrev pub call : List ℕ → ℕ → Call → State → Reply × State
call list delay (request requester scheme string reply) state = replied (requesting state list reply requester scheme string)
call list delay (framed requester message frame) state = replied (framed_request state list frame requester message)
call list delay (sending now number buffer) state = replied (notices.sending_notice state buffer number delay (clock_reading now))
call list delay (result now number kind) state = replied (notices.taking_result state number kind (clock_reading now))
call list delay (terminal number holder reply) state = replied (terminal_erasure state reply number holder)
call list delay (routes home coded asked) state = (record { answer = routing state.table home coded asked; buffer = [] }, state)

-- what the string of a request reads as; a framed one's stands inside it, and at the terminal and in a routing there is none
abbrev pub read_of : Call → Option Request
read_of (request requester scheme string reply) = request_of string
read_of (framed requester message frame) = inside_of message >>= λ i. request_of i.string
read_of (sending now number buffer) = none
read_of (result now number kind) = none
read_of (terminal number holder reply) = none
read_of (routes home coded asked) = none

abbrev pub number_read : Option Request → Option ℕ
number_read none = none
number_read (some f) = some f.number.0

-- "A request names the number in its string if the string reads; one refused before that names none."
-- The table is sound here and the figures right, as they are before each call of demand 3's lists
abbrev pub request_name : List ℕ → Msisdn → ℕ → List ℕ → List ℕ → Option ℕ
request_name list requester scheme string reply =
    cond (any_holds (refusal_checks true true list reply requester scheme string)) none (number_read (request_of string))

-- a framed request names what the request inside names; one that is refused or rejected has none inside. A sending, a result or the terminal names the number that it is given. M-112: a routing names "the number with its code in front", a foreign one too
abbrev pub name_of : List ℕ → Call → Option ℕ
name_of list (request requester scheme string reply) = request_name list requester scheme string reply
name_of list (framed requester message frame) =
    cond (any_holds (framed_checks true true list frame message)) none (inside_of message >>= λ i. request_name list requester i.scheme i.string own_reply)
name_of list (sending now number buffer) = some number.0
name_of list (result now number kind) = some number.0
name_of list (terminal number holder reply) = some number.0
name_of list (routes home coded asked) = cond (any_holds (routing_checks true home coded asked)) none (some (stored_form (with_code_in home coded asked)))

abbrev pub is_named : Option ℕ → ℕ → Bool
is_named none k = false
is_named (some n) k = eqb n k

-- a single step names k
abbrev pub names_one : List ℕ → Call → ℕ → Bool
names_one list c k = is_named (name_of list c) k

-- ---- crews

-- the codes of a crew's request; no other call has any
abbrev pub codes_read : Option Request → Option (List ℕ)
codes_read none = none
codes_read (some f) = crew_of f.additional

abbrev pub codes_of : Call → Option (List ℕ)
codes_of c = codes_read (read_of c)

-- "In demand 3 such a call names all its numbers"; any other names one at most
abbrev pub all_named : Option ℕ → Option (List ℕ) → List ℕ
all_named none codes = []
all_named (some k) none = k ∷ []
all_named (some k) (some codes) = map (with_code k) (crew_codes codes)

abbrev pub names : List ℕ → Call → ℕ → Bool
names list c k = is_in k (all_named (name_of list c) (codes_of c))

-- a crew's single requests, each with the same requester, scheme and buffer, its string as the request writer makes it
abbrev pub single_calls : Msisdn → ℕ → List ℕ → Request → List ℕ → List Call
single_calls requester scheme reply f codes = map (λ code. request requester scheme (packed (text_of (member_of f code))) reply) (crew_codes codes)

-- a crew's request that is refused, in error or answered 42 has no step, one that goes on has its single requests; a call that is no crew's is its own step
abbrev pub steps_for : Call → Bool → Msisdn → ℕ → List ℕ → Request → Option (List ℕ) → List Call
steps_for c stops requester scheme reply f none = c ∷ []
steps_for c stops requester scheme reply f (some codes) = cond stops [] (single_calls requester scheme reply f codes)

abbrev pub steps_read : Call → Bool → Msisdn → ℕ → List ℕ → Option Request → List Call
steps_read c stops requester scheme reply none = c ∷ []
steps_read c stops requester scheme reply (some f) = steps_for c stops requester scheme reply f (crew_of f.additional)

-- a crew's request has no step
abbrev pub stops_crew : List ℕ → Msisdn → ℕ → List ℕ → List ℕ → Bool
stops_crew list requester scheme string reply =
    any_holds (refusal_checks true true list reply requester scheme string) || not (has_follow_me (flags_of list requester.0))

-- a framed crew's request has the steps of the request inside
abbrev pub steps_inside : List ℕ → Call → Bool → Msisdn → Option Inside → List Call
steps_inside list c refused requester none = c ∷ []
steps_inside list c refused requester (some i) =
    steps_read c (refused || stops_crew list requester i.scheme i.string own_reply) requester i.scheme own_reply (request_of i.string)

abbrev pub steps_of : List ℕ → Call → List Call
steps_of list (request requester scheme string reply) =
    steps_read (request requester scheme string reply) (stops_crew list requester scheme string reply) requester scheme reply (request_of string)
steps_of list (framed requester message frame) =
    steps_inside list (framed requester message frame) (any_holds (framed_checks true true list frame message)) requester (inside_of message)
steps_of list (sending now number buffer) = sending now number buffer ∷ []
steps_of list (result now number kind) = result now number kind ∷ []
steps_of list (terminal number holder reply) = terminal number holder reply ∷ []
steps_of list (routes home coded asked) = routes home coded asked ∷ []

-- the single steps of a list of calls, in their order
abbrev pub steps : List ℕ → List Call → List Call
steps list [] = []
steps list (c ∷ cs) = steps_of list c ++ steps list cs

-- ---- a number alone

-- the row of a number alone; the empty table where it has none
abbrev pub row_alone : List ℕ → Found → List ℕ
row_alone table None = []
row_alone table (Some i) = take row_words (drop (row_words * i) table)

-- M-103: "a number run alone from its own row's" figures
abbrev pub alone : State → ℕ → State
alone state k = counted (row_alone state.table (row_of state.table k))
