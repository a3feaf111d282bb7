-- How a C function says what it leaves of a radio that it was lent. Assumes nothing.
use Rattle.std.specs.Prelude.{◌≡◌, ℕ, List}
use Rattle.stores.specs.declared.Radio.{Radio}
use Rattle.radio.specs.declared.Doing.{Doing}
use Rattle.radio.specs.declared.Next.{Next}
use Rattle.radio.specs.Radio.{Outcome}

-- the lent radio is left at the next state, and what is to be done is returned
abbrev pub Leaves : Radio → Doing → Next → Type 0
Leaves after doing next = (after ≡ next.radio) × (doing ≡ next.doing)

-- and the buffer for the question is left as the outcome says
abbrev pub LeavesBoth : Radio → Doing → List ℕ → Outcome → Type 0
LeavesBoth after doing question outcome = Leaves after doing outcome.next × (question ≡ outcome.question)
