-- Assumes nothing.
use Rattle.std.proofs.Common.{sym, ◌∙◌}
use Rattle.tables.proofs.Counts.{said_counted}
use Rattle.states.proofs.States.{refuses_figures, refuses_none}
use Rattle.states.proofs.check.Goals as goal

pub returns-then-not-same_figures : goal.returns-then-not-same_figures
returns-then-not-same_figures c =
    let a = c.args in
    refuses_figures a.table.now a.figures.now _ (said_counted _ _ c.recount.ensures.figures _ c.in_ok-counted.was) (sym c.same_figures.ensures ∙ c.if-not-same_figures.true)

pub returns : goal.returns
returns c =
    let a = c.args in
    refuses_none a.table.now a.figures.now _ (said_counted _ _ c.recount.ensures.figures _ c.in_ok-counted.was) (sym c.same_figures.ensures ∙ c.if-not-same_figures.false)
