-- Document 02, M-100: "the table afterwards equals theirs": what is proved of a crew's request beside its single requests. Assumes nothing.
use Rattle.std.specs.Prelude.{◌≡◌, Bool, true, cond, not, ◌||◌, List, [], ◌∷◌, ◌++◌, map, ℕ, ◌-◌, ◌≤◌, length, take}
use Rattle.packing.specs.Packing.{packed}
use Rattle.numbers.specs.Numbers.{stored_form, digits_of, two_digits}
use Rattle.numbers.specs.declared.FunctionalNumber.{FunctionalNumber}
use Rattle.numbers.specs.declared.Msisdn.{Msisdn}
use Rattle.crews.specs.Crews.{lead_code}
use Rattle.strings.specs.declared.Operation.{Operation}
use Rattle.strings.specs.declared.Erasing.TheVariants.{Empty}
use Rattle.strings.specs.Text.{Request, request_from, text_of}
use Rattle.tables.specs.Tables.{flags_of}
use Rattle.states.specs.States.{State}
use Rattle.rules.specs.Answers.{Answer, is_outcome, buffer_room}
use Rattle.rules.specs.Requests.{has_follow_me}
use Rattle.rules.specs.Crews.{crew_codes, crew_number, crew_outcome}
use Rattle.rules.specs.Run.{end, log}
use Rattle.rules.specs.Calls.{Call, request, Reply, replied, call, steps_of}

-- "Success is 01 or 02"
abbrev pub succeeds : Answer → Bool
succeeds a = is_outcome 1 a || is_outcome 2 a

-- the codes whose single requests passed the test, by what these got
abbrev pub codes_where : (Answer → Bool) → List ℕ → List (Call × Reply) → List ℕ
codes_where test [] got = []
codes_where test (code ∷ codes) [] = []
codes_where test (code ∷ codes) (p ∷ got) = cond (test p.1.answer) (code ∷ codes_where test codes got) (codes_where test codes got)

-- ---- the single requests, once more: by the digits of their numbers

-- a number "with its last two digits replaced"
abbrev pub replaced : FunctionalNumber → ℕ → FunctionalNumber
replaced number code = record { 0 = stored_form (take (length (digits_of number.0) - 2) (digits_of number.0) ++ two_digits code) }

-- a single request: the operation, plain, and nothing in the additional field
abbrev pub plainly : Operation → FunctionalNumber → Request
plainly o number = request_from o number Empty []

module _ (list : List ℕ) (delay : ℕ) (requester : Msisdn) (scheme : ℕ) (string reply : List ℕ) (f : Request) (codes : List ℕ) (state : State) where
  abbrev pub single_asked : List ℕ → Request → Call
  single_asked buffer g = request requester scheme (packed (text_of g)) buffer

  -- "The lead number and then each number with its last two digits replaced are treated as single requests, in that order":
  -- their strings made by the request writer, the same requester and scheme, and a buffer for each
  abbrev pub single_requests : (ℕ → List ℕ) → List Call
  single_requests buffers =
      single_asked (buffers lead_code) (plainly f.operation f.number)
      ∷ map (λ code. single_asked (buffers code) (plainly f.operation (replaced f.number code))) codes

  -- what the single requests got, asked one after the other
  abbrev pub got_singly : (ℕ → List ℕ) → List (Call × Reply)
  got_singly buffers = log (call list delay) (single_requests buffers) state

  abbrev pub whole : Reply × State
  whole = call list delay (request requester scheme string reply) state

  -- of a crew's request that is neither refused nor in error; its steps in demand 3 are these single requests, with its own buffer
  pub record AsSingles (buffers : ℕ → List ℕ) : Type 0 where
    -- "the table afterwards equals theirs", and so do the figures
    pub state_after : whole.1 ≡ end (call list delay) (single_requests buffers) state
    pub steps_are : has_follow_me (flags_of list requester.0) ≡ true → steps_of list (request requester scheme string reply) ≡ single_requests (λ code. reply)
    -- where it is not answered 42: a code stands among the successes exactly if its single request was answered 01 or 02, and so the reply is
    pub reply_after :
        has_follow_me (flags_of list requester.0) ≡ true
        → whole ≡ replied (crew_outcome (crew_number f.operation) reply (record {
          successes = codes_where succeeds (crew_codes codes) (got_singly buffers);
          failures = codes_where (λ a. not (succeeds a)) (crew_codes codes) (got_singly buffers);
          state = end (call list delay) (single_requests buffers) state;
        }))

-- room in every buffer
abbrev pub Roomy : (ℕ → List ℕ) → Type 0
Roomy buffers = (code : ℕ) → buffer_room ≤ length (buffers code)
