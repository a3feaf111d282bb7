-- Assumes nothing.
use Rattle.std.proofs.Common.{sym, ap, ◌∙◌}
use Rattle.records.specs.Steps.{closing}
use Rattle.rows.specs.Rows.{stored}
use Rattle.tables.proofs.Stored.{row_found}
use Rattle.states.specs.States.{beside}
use Rattle.states.proofs.States.{check_passes, state_row, refusal_some}
use Rattle.timetable.specs.Timetable.{shut, leaving}
use Rattle.timetable.proofs.Calls.{closing_state, closing_malformed, closing_missing, closing_done}
use Rattle.timetable.proofs.Using.{handed_on}
use Rattle.timetable.proofs.close.Goals as goal

pub returns-in_err-check : goal.returns-in_err-check
returns-in_err-check c =
    let a = c.args in
    let r = c.in_err-check.field-0.0 in
    rw (handed_on c.from_residual.result r c.from_residual.ensures.1)
    (closing_state (beside a.table.now a.figures.now) a.number.0 _ (c.in_err-check.ensures) (refusal_some r))

pub returns-then-not-is_number : goal.returns-then-not-is_number
returns-then-not-is_number c =
    let a = c.args in
    closing_malformed (beside a.table.now a.figures.now) a.number.0 (check_passes _ _ c.check.ensures c.in_ok-check.was) (sym c.is_number.ensures ∙ c.if-not-is_number.true)

pub returns-in_default : goal.returns-in_default
returns-in_default c =
    let a = c.args in
    closing_missing (beside a.table.now a.figures.now) a.number.0 (check_passes _ _ c.check.ensures c.in_ok-check.was) (sym c.is_number.ensures ∙ c.if-not-is_number.false)
    (sym c.row_of.ensures ∙ c.in_default.is)

pub load-requires-clause-row_in_bounds : goal.load-requires-clause-row_in_bounds
load-requires-clause-row_in_bounds c = (row_found c.args.table.now c.args.number.0 _ (sym c.row_of.ensures ∙ c.in-Some.is)).0

pub load-requires-clause-row_value : goal.load-requires-clause-row_value
load-requires-clause-row_value c =
    let a = c.args in
    state_row (beside a.table.now a.figures.now) _ (check_passes _ _ c.check.ensures c.in_ok-check.was) (row_found a.table.now a.number.0 _ (sym c.row_of.ensures ∙ c.in-Some.is)).0

pub store-requires : goal.store-requires
store-requires c = (row_found c.args.table.now c.args.number.0 _ (sym c.row_of.ensures ∙ c.in-Some.is)).0

pub returns : goal.returns
returns c =
    let a = c.args in
    ap (leaving shut) (c.store.ensures ∙ ap (stored a.table.now _) (c.close-next.ensures ∙ ap closing c.load.ensures))
    ∙ sym (closing_done (beside a.table.now a.figures.now) a.number.0 (check_passes _ _ c.check.ensures c.in_ok-check.was) (sym c.is_number.ensures ∙ c.if-not-is_number.false) _
    (sym c.row_of.ensures ∙ c.in-Some.is))
