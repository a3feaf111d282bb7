use Rattle.std.proofs.Common.{sym, ◌∙◌}
use Rattle.tables.proofs.Stored.{row_found}
use Rattle.states.specs.Lent.{state_in}
use Rattle.rules.proofs.Visits.{step_misses}
use Rattle.rules.specs.Singles.{plainly}
use Rattle.answers.specs.Numbers.{outcome_number}
use Rattle.visits.proofs.Settled.{by_number}
use Rattle.walks.proofs.Stepping.{erases_only, step_registers, step_erases}
use Rattle.walks.proofs.step.Goals as goal

pub returns-in_default-clause-answer : goal.returns-in_default-clause-answer
returns-in_default-clause-answer c =
    let a = c.args in
    sym (step_misses (state_in a.lent.now) a.requester (plainly a.operation a.number) (sym c.row_of.ensures ∙ c.in_default.is))

pub load-record-requires : goal.load-record-requires
load-record-requires c = (c.requires.0, (row_found _ _ _ (sym c.row_of.ensures ∙ c.in-Some.is)).0)

pub settle-requires : goal.settle-requires
settle-requires c = (c.requires.0, (row_found _ _ _ (sym c.row_of.ensures ∙ c.in-Some.is)).0)

pub settle-requires-in_default-operation : goal.settle-requires-in_default-operation
settle-requires-in_default-operation c = (c.requires.0, (row_found _ _ _ (sym c.row_of.ensures ∙ c.in-Some.is)).0)

pub returns-in-Register-clause-answer : goal.returns-in-Register-clause-answer
returns-in-Register-clause-answer c =
    let a = c.args in
    step_registers (state_in a.lent.now) a.requester a.number _ (sym c.row_of.ensures ∙ c.in-Some.is) c.load-record.result c.load-record.ensures.record a.operation _
    c.in-Register.is (c.settle.ensures.answer outcome_number ∙ rw (by_number c.register-step.result, c.register-step.ensures))

pub returns-in_default-operation-clause-answer : goal.returns-in_default-operation-clause-answer
returns-in_default-operation-clause-answer c =
    let a = c.args in
    step_erases (state_in a.lent.now) a.requester a.number _ (sym c.row_of.ensures ∙ c.in-Some.is) c.load-record.result c.load-record.ensures.record a.operation _
    (erases_only a.operation c.in_default-operation.not-Register c.requires.1) (c.settle-in_default-operation.ensures.answer outcome_number ∙ rw (by_number c.erase-step.result, c.erase-step.ensures))
