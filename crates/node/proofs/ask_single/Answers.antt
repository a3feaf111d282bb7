use Rattle.std.proofs.Common.{sym, ◌∙◌}
use Rattle.tables.proofs.Stored.{row_found}
use Rattle.states.specs.Lent.{state_in}
use Rattle.node.proofs.Asked.{single_misses, single_visits}
use Rattle.node.proofs.ask_single.Goals as goal

pub decide_at-requires : goal.decide_at-requires
decide_at-requires c = (c.requires.0, (row_found _ _ _ (sym c.row_of.ensures ∙ c.in-Some.is)).0, c.requires.1)

pub returns-in-Some-clause-answer : goal.returns-in-Some-clause-answer
returns-in-Some-clause-answer c =
    let a = c.args in
    single_visits (state_in a.lent.now) a.reply.now a.requester a.fields _ _ (sym c.row_of.ensures ∙ c.in-Some.is) c.requires.2 c.decide_at.ensures.answer

pub returns-in-None-clause-answer : goal.returns-in-None-clause-answer
returns-in-None-clause-answer c =
    let a = c.args in
    single_misses (state_in a.lent.now) a.reply.now a.requester a.fields _ _ (sym c.row_of.ensures ∙ c.in-None.is) c.answer.ensures.0 c.answer.ensures.1
