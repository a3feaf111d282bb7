-- Assumes nothing.
use Rattle.std.proofs.Common.{arith}
use Rattle.states.proofs.States.{state_table, refusal_some}
use Rattle.timetable.proofs.Packing.{stay_few}
use Rattle.timetable.proofs.Using.{in_use_passes, handed_on}
use Rattle.timetable.proofs.Calls.{compacting_refused, compacting_as}
use Rattle.timetable.proofs.compact.Goals as goal

pub returns-in_err-check : goal.returns-in_err-check
returns-in_err-check c =
    let a = c.args in
    let r = c.in_err-check.field-0.0 in
    rw (handed_on c.from_residual.result r c.from_residual.ensures.1)
    (compacting_refused a.words.now a.used a.figures.now _ c.in_err-check.ensures (refusal_some r))

pub remove-left-requires : goal.remove-left-requires
remove-left-requires c =
    let a = c.args in
    let p = in_use_passes a.words.now a.used a.figures.now _ c.check.ensures c.in_ok-check.was in
    (p.0, state_table _ p.1)

pub overflow_sub-result : goal.overflow_sub-result
overflow_sub-result c = omega (arith, c.remove-left.ensures.0, stay_few c.args.used c.args.words.now)

pub returns : goal.returns
returns c =
    let a = c.args in
    let p = in_use_passes a.words.now a.used a.figures.now _ c.check.ensures c.in_ok-check.was in
    compacting_as a.words.now a.used a.figures.now p.0 p.1 _ _ c.remove-left.ensures.0 c.remove-left.ensures.1
