-- Document 02, M-100: the single requests of a crew, the walk over them, and its reply. Assumes nothing.
use Rattle.std.specs.Prelude.{ℕ, suc, ◌+◌, ◌*◌, ◌/◌, Bool, false, cond, ◌||◌, List, [], ◌∷◌, ◌++◌, length, eqb}
use Rattle.std.proofs.Math.Option.{Option, none, some}
use Rattle.numbers.specs.Numbers.{two_digits, numeral}
use Rattle.numbers.specs.declared.Msisdn.{Msisdn}
use Rattle.crews.specs.Crews.{lead_code, most_codes, codes_text, spaced_codes, crew_of}
use Rattle.strings.specs.declared.Operation.{Operation}
use Rattle.strings.specs.declared.Operation.TheVariants.{Register, Erase, Interrogate}
use Rattle.strings.specs.Text.{Request}
use Rattle.states.specs.States.{State}
use Rattle.rules.specs.Answers.{outcome, crew_registered, crew_erased, Outcome, made, packed_over, octet_count}
use Rattle.rules.specs.Requests.{Verdict, says, tells, Stepping, step, once, requesting_by}

-- ---- the single requests

-- a number "with its last two digits replaced", as stored
unfoldable pub with_code : ℕ → ℕ → ℕ
with_code number code = 100 * (number / 100) + code

-- the single request of one code: the same operation, and no crew
abbrev pub member_of : Request → ℕ → Request
member_of f code = record { operation = f.operation; number = record { 0 = with_code f.number.0 code }; erasing = f.erasing; additional = [] }

-- "The lead number and then each number with its last two digits replaced": the lead number is the one with code 01
abbrev pub crew_codes : List ℕ → List ℕ
crew_codes codes = lead_code ∷ codes

-- "up to ten functions at once": the lead and "one digit n"
abbrev pub most_steps : ℕ
most_steps = suc most_codes

-- ---- the walk

-- the codes of the steps that succeeded and of those that failed, each in their order, and table and figures
pub record Walk : Type 0 where
  pub successes : List ℕ
  pub failures : List ℕ
  pub state : State

-- "Success is 01 or 02"
abbrev pub is_success : Verdict → Bool
is_success (says n) = eqb n 1 || eqb n 2
is_success (tells msisdn) = false

-- one step more: its code behind the successes or behind the failures
abbrev pub walked_on : ℕ → Stepping → Walk → Walk
walked_on code s w = record {
  successes = cond (is_success s.verdict) (w.successes ++ (code ∷ [])) w.successes;
  failures = cond (is_success s.verdict) w.failures (w.failures ++ (code ∷ []));
  state = s.state;
}

-- each number is "treated as single requests, in that order"
unfoldable pub walked : Msisdn → Request → List ℕ → Walk → Walk
walked requester f [] w = w
walked requester f (code ∷ codes) w = walked requester f codes (walked_on code (step w.state requester (member_of f code)) w)

-- before the first step
abbrev pub set_out : State → Walk
set_out state = record { successes = []; failures = []; state = state }

-- ---- the reply

-- "11 or 12": of a registration, of an erasure; no other operation carries a crew
abbrev pub crew_number : Operation → ℕ
crew_number Register = crew_registered
crew_number Erase = crew_erased
crew_number Interrogate = crew_erased

-- "their codes and a space if there are any"
abbrev pub codes_and_space : List ℕ → List ℕ
codes_and_space [] = []
codes_and_space (c ∷ cs) = codes_text (c ∷ cs) ++ (32 ∷ [])

-- "11 or 12, a space, the count of successes, a space, their codes and a space if there are any, the count of failures, and a space and their codes if there are any"
abbrev pub crew_reply : ℕ → Walk → List ℕ
crew_reply n w =
    two_digits n
    ++ (32 ∷ numeral (length w.successes))
    ++ (32 ∷ codes_and_space w.successes)
    ++ numeral (length w.failures)
    ++ spaced_codes w.failures

-- ---- a request

abbrev pub crew_outcome : ℕ → List ℕ → Walk → Outcome
crew_outcome n reply w = made (outcome n (octet_count (crew_reply n w))) w.state (packed_over (crew_reply n w) reply)

-- a single request, or a crew's
abbrev pub carried_out_for : State → List ℕ → Msisdn → Request → Option (List ℕ) → Outcome
carried_out_for state reply requester f none = once state reply requester f
carried_out_for state reply requester f (some codes) = crew_outcome (crew_number f.operation) reply (walked requester f (crew_codes codes) (set_out state))

-- the crew's codes stand in the additional field; "42 comes before any single step"
unfoldable pub requesting : State → List ℕ → List ℕ → Msisdn → ℕ → List ℕ → Outcome
requesting state list reply requester scheme string =
    requesting_by (λ f. carried_out_for state reply requester f (crew_of f.additional)) state list reply requester scheme string
