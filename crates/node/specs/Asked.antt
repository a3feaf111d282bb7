-- A helper: what a request comes to once its string was read; proved a part of `requesting` (proofs/Asked). Assumes nothing.
use Rattle.std.specs.Prelude.{ℕ, List}
use Rattle.std.proofs.Math.Option.{some}
use Rattle.numbers.specs.declared.Msisdn.{Msisdn}
use Rattle.crews.specs.Crews.{crew_of}
use Rattle.strings.specs.declared.Fields.{Fields}
use Rattle.strings.specs.Text.{Request, request_from}
use Rattle.states.specs.States.{State}
use Rattle.rules.specs.Answers.{Outcome}
use Rattle.rules.specs.Requests.{asking_by}
use Rattle.rules.specs.Crews.{carried_out_for}

-- the fields of the code's answer, beside the additional field's characters
abbrev pub with_additional : Fields → List ℕ → Request
with_additional f additional = request_from f.operation f.number f.erasing additional

-- a request whose string was read
abbrev pub asked_by : State → ℕ → List ℕ → Msisdn → Request → Outcome
asked_by state flags reply requester f = asking_by (λ g. carried_out_for state reply requester g (crew_of g.additional)) state flags reply (some f)
