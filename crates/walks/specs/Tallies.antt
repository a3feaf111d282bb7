-- A helper: the codes and counts of the code beside the walk of `Crews`. Assumes nothing.
use Rattle.std.specs.Prelude.{◌≡◌, true, cond, List, [], ◌∷◌, ◌++◌, ℕ, ◌+◌, ◌*◌, ◌≤◌, length, take, eqb}
use Rattle.numbers.specs.Numbers.{are_digits, numeral}
use Rattle.numbers.specs.declared.FunctionalNumber.{FunctionalNumber}
use Rattle.numbers.specs.declared.Msisdn.{Msisdn}
use Rattle.crews.specs.Crews.{codes_text}
use Rattle.strings.specs.declared.Operation.{Operation}
use Rattle.states.specs.States.{State}
use Rattle.rules.specs.Requests.{step}
use Rattle.rules.specs.Crews.{most_steps, member_of, Walk, walked_on}
use Rattle.rules.specs.Singles.{plainly}
use Rattle.walks.specs.declared.Codes.{Codes}
use Rattle.walks.specs.declared.Tally.{Tally}

-- two digits for each step's code
abbrev pub codes_room : ℕ
codes_room = 20

-- the digits are those of these codes
pub record Holds (c : Codes) (l : List ℕ) : Type 0 where
  pub room : length c.digits ≡ codes_room
  pub count : c.count ≡ length l
  pub text : take (2 * c.count) c.digits ≡ codes_text l
  pub digits : are_digits (codes_text l) ≡ true

-- the walk has these codes, and this state
pub record Tallies (tally : Tally) (state : State) (w : Walk) : Type 0 where
  pub successes : Holds tally.successes w.successes
  pub failures : Holds tally.failures w.failures
  pub left : state ≡ w.state

-- how many steps were counted
abbrev pub steps_counted : Tally → ℕ
steps_counted tally = tally.successes.count + tally.failures.count

-- no more codes than there is room for
pub record FitsReply (tally : Tally) : Type 0 where
  pub few : steps_counted tally ≤ most_steps
  pub successes : length tally.successes.digits ≡ codes_room
  pub failures : length tally.failures.digits ≡ codes_room

-- one step more of a walk
abbrev pub gone_on : Msisdn → Operation → FunctionalNumber → ℕ → Walk → Walk
gone_on requester o lead code w = walked_on code (step w.state requester (member_of (plainly o lead) code)) w

-- a space and the count, and a space and the codes if there are any
abbrev pub part_of : Codes → List ℕ
part_of c = 32 ∷ (numeral c.count ++ cond (eqb c.count 0) [] (32 ∷ take (2 * c.count) c.digits))

-- two digits, and twice a space, two digits, a space and codes: ten codes in all
abbrev pub reply_room : ℕ
reply_room = 30

-- the reply's text
abbrev pub tally_text : ℕ → Tally → List ℕ
tally_text n tally = (numeral n ++ part_of tally.successes) ++ part_of tally.failures
