use Rattle.std.proofs.Common.{sym, ap, ◌∙◌}
use Rattle.std.proofs.lemmas.Result.{err_from_is_err_and}
use Rattle.records.specs.Steps.{resulted}
use Rattle.states.specs.Lent.{state_in}
use Rattle.visits.proofs.Placed.{result_refused}
use Rattle.visits.proofs.result_at.Goals as goal

pub returns-in_err-fate-clause-answer : goal.returns-in_err-fate-clause-answer
returns-in_err-fate-clause-answer c =
    let a = c.args in
    let (y, e, q) = err_from_is_err_and c.from_residual.result c.from_residual.ensures.1 in
    rw (e, q)
    (result_refused (state_in a.lent.now) a.row _ _ c.requires.0 c.requires.1 (ap (resulted a.kind a.clock) (sym c.load-held.ensures.record) ∙ sym c.in_err-fate.ensures))
