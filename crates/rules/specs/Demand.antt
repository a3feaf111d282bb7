-- Demands 1 and 3, of the rules, over the words and octets that were lent, the figures' among them. Assumes nothing.
use Rattle.std.specs.Prelude.{◌≡◌, Bool, true, false, cond, ◌&&◌, ◌||◌, List, [], ◌∷◌, ◌++◌, ℕ, ◌<◌, length}
use Rattle.std.proofs.Math.Option.{Option, none, some}
use Rattle.std.proofs.Math.ListN.{get_elem?}
use Rattle.answers.specs.Writing.{over}
use Rattle.packing.specs.Packing.{packed}
use Rattle.numbers.specs.Numbers.{two_digits}
use Rattle.strings.specs.Text.{Request}
use Rattle.frames.specs.Components.{Component}
use Rattle.frames.specs.Components as components
use Rattle.frames.specs.Messages.{Register, register_of}
use Rattle.states.specs.States.{State, state_sound, record_for}
use Rattle.rules.specs.Answers.{Answer, numbers_of, outcome_class, crew_registered, crew_erased, is_of, is_refusal, is_error, is_return_error, is_reject, is_outcome, is_negative}
use Rattle.rules.specs.Requests.{is_register, holder_in}
use Rattle.rules.specs.Frames.{released}
use Rattle.rules.specs.Run.{only, last, end, log, Rearranged}
use Rattle.rules.specs.Calls.{Call, request, framed, sending, result, terminal, routes, buffer_of, Reply, call, read_of, name_of, names_one, codes_of, names, steps_of, steps, alone}

-- ---- who holds a number

-- the requester of a call; nobody requests a sending or a result, and nobody listed an erasure at the terminal or a routing
abbrev pub requester_of : Call → ℕ
requester_of (request requester scheme string reply) = requester.0
requester_of (framed requester message frame) = requester.0
requester_of (sending now number buffer) = 0
requester_of (result now number kind) = 0
requester_of (terminal number holder reply) = 0
requester_of (routes home coded asked) = 0

-- a step that names k and was answered 01 or 02
abbrev pub decides_holder : List ℕ → ℕ → Call × Reply → Bool
decides_holder list k p = names_one list p.0 k && (is_outcome 1 p.1.answer || is_outcome 2 p.1.answer)

-- the holder after the last such step: its requester if it was answered 01, nobody if it was 02, the starting holder if there is none
abbrev pub holder_after : Option (Call × Reply) → ℕ → ℕ
holder_after none start = start
holder_after (some p) start = cond (is_outcome 1 p.1.answer) (requester_of p.0) 0

-- the holder of a number in a table; nobody holds a number that is not there
abbrev pub holder_of : State → ℕ → ℕ
holder_of state k = (holder_in (record_for state k)).0

-- the call is a request, framed or not, whose string reads as a registration
abbrev pub registers_as : Option Request → Bool
registers_as none = false
registers_as (some f) = is_register f.operation

abbrev pub registers : Call → Bool
registers c = registers_as (read_of c)

-- ---- demand 1

-- 11 or 12
abbrev pub is_crew_outcome : Answer → Bool
is_crew_outcome a = is_outcome crew_registered a || is_outcome crew_erased a

-- 01 or 02, or a crew's: an answer after which table and figures may be others
abbrev pub may_change : Answer → Bool
may_change a = is_outcome 1 a || is_outcome 2 a || is_crew_outcome a

-- a Release Complete over the front of a framed call's buffer, by its component; any other call's buffer stays
abbrev pub released_to : List ℕ → (ℕ → Component) → Option Register → List ℕ
released_to frame answer none = frame
released_to frame answer (some r) = released r.first frame (answer r.number)

abbrev pub release_over : Call → (ℕ → Component) → List ℕ
release_over (request requester scheme string reply) answer = reply
release_over (framed requester message frame) answer = released_to frame answer (register_of message)
release_over (sending now number buffer) answer = buffer
release_over (result now number kind) answer = []
release_over (terminal number holder reply) answer = reply
release_over (routes home coded asked) answer = []

-- a packed string over the front of the buffer; of a framed call, in a Return Result
abbrev pub reply_over : Call → List ℕ → List ℕ
reply_over (request requester scheme string reply) octets = over octets reply
reply_over (framed requester message frame) octets = release_over (framed requester message frame) (λ number. components.result number octets)
reply_over (sending now number buffer) octets = over octets buffer
reply_over (result now number kind) octets = []
reply_over (terminal number holder reply) octets = over octets reply
reply_over (routes home coded asked) octets = []

module _ (list : List ℕ) (delay : ℕ) (c : Call) (state : State) where
  abbrev got : Reply
  got = (call list delay c state).0

  abbrev after : State
  after = (call list delay c state).1

  -- of any request, framed or not, sending, result, erasure at the terminal or routing, on any words and octets. A finding has an answer and nothing else: it is lent nothing that it may change
  pub record Demand1 : Type 0 where
    -- each refusal and each error changes no table, no figures and no buffer
    pub refused : (is_refusal got.answer || is_error got.answer) ≡ true → (after ≡ state) × (got.buffer ≡ buffer_of c)
    -- a negative outcome writes its two characters, where a buffer is lent, and changes no table and no figures
    pub negative :
        is_negative got.answer ≡ true → (after ≡ state) × (got.buffer ≡ reply_over c (packed (two_digits (numbers_of got.answer).number)))
    -- "Return Error and Reject fill the frame buffer, demand 1's one exception, and change no table", and no figures
    pub returned_error :
        is_return_error got.answer ≡ true
        → (after ≡ state) × (got.buffer ≡ release_over c (λ number. components.error number (numbers_of got.answer).number))
    pub rejected :
        is_reject got.answer ≡ true
        → (after ≡ state) × (got.buffer ≡ release_over c (λ number. components.reject number (numbers_of got.answer).number))
    -- "outcomes other than a changing 01 or 02 leave the table", and so the figures
    pub others : codes_of c ≡ none → is_of outcome_class got.answer ≡ true → (is_outcome 1 got.answer || is_outcome 2 got.answer) ≡ false → after ≡ state
    -- of a crew's request each step is read as a call: it is answered 11 or 12, and its steps leave table and figures; or it has no step, and both stay
    pub crew_goes : is_crew_outcome got.answer ≡ true → (codes_of c ≡ none → ⊥) × (after ≡ end (call list delay) (steps_of list c) state)
    pub crew_stops : (codes_of c ≡ none → ⊥) → is_crew_outcome got.answer ≡ false → (after ≡ state) × (state_sound state ≡ true → steps_of list c ≡ [])
    -- 01 is "no change if already so": a holder who registers again changes nothing
    pub registered_again : (k : ℕ) → name_of list c ≡ some k → codes_of c ≡ none → registers c ≡ true → holder_of state k ≡ requester_of c → after ≡ state

-- ---- demand 3: for one sound table with right figures, list and permitted delay, any list of requests, framed or not, sendings, results, erasures at the terminal and routings, each with its own clock and buffer

-- the steps that name k, and what steps that name k got, in their order
abbrev pub calls_of : List ℕ → ℕ → List Call → List Call
calls_of list k cs = only (λ c. names_one list c k) cs

abbrev pub got_by : List ℕ → ℕ → List (Call × Reply) → List (Call × Reply)
got_by list k ps = only (λ p. names_one list p.0 k) ps

module _ (list : List ℕ) (delay : ℕ) (state : State) where
  abbrev run : Call → State → Reply × State
  run = call list delay

  pub record Demand3 : Type 0 where
    -- rearranged in any way that keeps the order of calls naming the same number, every call still gets its answer and octets
    pub answers :
        (cs ds : List Call) (r : Rearranged (names list) cs ds) (i : ℕ) → i < length cs
        → get_elem? (log run ds state) (r.to i) ≡ get_elem? (log run cs state) i
    -- and the end table and figures are the same, word for word
    pub end_state : (cs ds : List Call) → Rearranged (names list) cs ds → end run ds state ≡ end run cs state
    -- the last two sentences "read each single step as a call": the single steps leave the same table and figures
    pub steps_state : (cs : List Call) → end run cs state ≡ end run (steps list cs) state
    -- and each call's steps get what they get where the calls before it were made: a call that is no crew's gets as a step what it gets as a call
    pub steps_got_lem :
        (c : Call) (cs : List Call)
        → log run (steps list (c ∷ cs)) state ≡ log run (steps_of list c) state ++ log run (steps list cs) (run c state).1
    -- each number's answers and octets are those of the steps naming it, in their order, run on its row alone with that row's figures, on the empty table if it has none
    pub alone_answers : (k : ℕ) (cs : List Call) → got_by list k (log run (steps list cs) state) ≡ log run (calls_of list k (steps list cs)) (alone state k)
    -- and so is its record at the end; if it is not in the table, there is none on either side
    pub alone_record : (k : ℕ) (cs : List Call) → record_for (end run cs state) k ≡ record_for (end run (calls_of list k (steps list cs)) (alone state k)) k
    -- "its end state includes them": its row at the end with the row's own figures is what the steps naming it leave, run alone
    pub alone_state : (k : ℕ) (cs : List Call) → alone (end run cs state) k ≡ end run (calls_of list k (steps list cs)) (alone state k)
    -- its holder at the end is the requester of its last step answered 01 or 02 if that was 01, nobody if it was 02, else the starting holder
    pub held :
        (k : ℕ) (cs : List Call)
        → holder_of (end run cs state) k ≡ holder_after (last (only (decides_holder list k) (log run (steps list cs) state))) (holder_of state k)
