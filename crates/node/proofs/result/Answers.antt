use Rattle.std.proofs.Common.{rules, ◌≡◌, [], sym, ◌∙◌}
use Rattle.rules.specs.Answers.{made}
use Rattle.rules.specs.Notices.{taking_result}
use Rattle.states.specs.Lent.{state_in}
use Rattle.visits.specs.Said.{said_result}
use Rattle.std.proofs.lemmas.Result.{err_from_is_err_and}
use Rattle.tables.proofs.Stored.{row_found}
use Rattle.states.specs.States.{beside}
use Rattle.states.proofs.States.{check_passes}
use Rattle.rules.proofs.Visits.{result_visits, result_misses}
use Rattle.node.proofs.Checks.{result_state, result_7}
use Rattle.node.proofs.result.Goals as goal

pub returns-in_err-check : goal.returns-in_err-check
returns-in_err-check c =
    let a = c.args in
    let (y, e, q) = err_from_is_err_and c.from_residual.result c.from_residual.ensures.1 in
    rw (e, q) (result_state (beside a.table.now a.figures.now) a.number a.kind a.clock c.check.result _ c.check.ensures c.in_err-check.was)

pub returns-then-not-is_number : goal.returns-then-not-is_number
returns-then-not-is_number c =
    let a = c.args in
    sym (result_7 (beside a.table.now a.figures.now) a.number _ _ (check_passes (beside a.table.now a.figures.now) c.check.result c.check.ensures c.in_ok-check.was) (sym c.is_number.ensures ∙ c.if-not-is_number.true))

pub returns-in_default : goal.returns-in_default
returns-in_default c =
    let a = c.args in
    sym (result_misses (beside a.table.now a.figures.now) a.number _ _ (check_passes (beside a.table.now a.figures.now) c.check.result c.check.ensures c.in_ok-check.was) (sym c.row_of.ensures ∙ c.in_default.is))

pub result_at-requires : goal.result_at-requires
result_at-requires c =
    let a = c.args in
    ((check_passes (beside a.table.now a.figures.now) c.check.result c.check.ensures c.in_ok-check.was), (row_found _ _ _ (sym c.row_of.ensures ∙ c.in-Some.is)).0)

pub returns : goal.returns
returns c =
    let a = c.args in
    let e : made (said_result c.result_at.result) (state_in c.result_at.new.lent) [] ≡ taking_result (beside a.table.now a.figures.now) a.number a.kind a.clock =
    c.result_at.ensures.answer ∙ sym (result_visits (beside a.table.now a.figures.now) a.number _ _ (check_passes (beside a.table.now a.figures.now) c.check.result c.check.ensures c.in_ok-check.was) _ (sym c.row_of.ensures ∙ c.in-Some.is)) in
    search (rules, e)
