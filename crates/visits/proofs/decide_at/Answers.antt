use Rattle.std.proofs.Common.{ap, ◌∙◌}
use Rattle.answers.specs.Numbers.{outcome_number}
use Rattle.records.specs.declared.Record.{Record}
use Rattle.records.specs.Steps.{registered}
use Rattle.states.specs.Lent.{state_in}
use Rattle.rules.specs.Visits.{erases}
use Rattle.visits.proofs.Settled.{said_placed}
use Rattle.visits.proofs.decide_at.Goals as goal

pub answer_holder-requires : goal.answer_holder-requires
answer_holder-requires c = (c.load-record.ensures.sound, c.requires.2)

pub returns-in-Register-clause-answer : goal.returns-in-Register-clause-answer
returns-in-Register-clause-answer c =
    let a = c.args in
    rw c.in-Register.is
    (said_placed (state_in a.lent.now) _ a.reply.now _ a.row 1 _ _ c.register-step.result _ (c.settle-outcome.ensures.answer outcome_number)
    (c.register-step.ensures ∙ ap (registered a.fields.number a.requester) c.load-record.ensures.record) c.answer.ensures.0 c.answer.ensures.1)

pub returns-in-Erase-clause-answer : goal.returns-in-Erase-clause-answer
returns-in-Erase-clause-answer c =
    let a = c.args in
    rw c.in-Erase.is
    (said_placed (state_in a.lent.now) _ a.reply.now _ a.row 2 _ _ c.erasure-step.result _ (c.settle-outcome-in-Erase.ensures.answer outcome_number)
    (c.erasure-step.ensures ∙ ap (erases a.fields.erasing a.fields.number a.requester) c.load-record.ensures.record) c.answer-in-Erase.ensures.0 c.answer-in-Erase.ensures.1)
