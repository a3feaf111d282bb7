-- `frames::read_result` meets its contract: its tests are the definition's, in the same order. Assumes nothing.
use Rattle.frames.proofs.Places.{start_none, start_some, octet_none, octet_some}
use Rattle.frames.proofs.Components.{result_unnumbered, result_unsequenced, result_wrong, result_unfit, result_read}
use Rattle.frames.proofs.read_result.Goals as goal

pub returns-in_err-number : goal.returns-in_err-number
returns-in_err-number c =
    rw c.from_residual-in_err-number.ensures
    (result_unnumbered _ _ (start_some _ _ c.contents_start.ensures c.in_ok-at.was) (octet_none _ _ c.read_octet.ensures c.in_err-number.was))

pub slice_bounds-outer-count : goal.slice_bounds-outer-count
slice_bounds-outer-count c = (octet_some _ _ c.read_octet.ensures c.in_ok-number.was).within

pub slice_bounds-outer-start : goal.slice_bounds-outer-start
slice_bounds-outer-start c = (octet_some _ _ c.read_octet.ensures c.in_ok-number.was).within

pub returns-in_err-first : goal.returns-in_err-first
returns-in_err-first c =
    rw c.from_residual-in_err-first.ensures
    (result_unsequenced _ _ (start_some _ _ c.contents_start.ensures c.in_ok-at.was) _ (octet_some _ _ c.read_octet.ensures c.in_ok-number.was)
    (start_none _ _ c.contents_start-2.ensures c.in_err-first.was))

pub returns-in_default : goal.returns-in_default
returns-in_default c =
    result_wrong _ _ (start_some _ _ c.contents_start.ensures c.in_ok-at.was) _ (octet_some _ _ c.read_octet.ensures c.in_ok-number.was)
    _ (start_some _ _ c.contents_start-2.ensures c.in_ok-first.was) _ c.in_default.ensures

pub returns-then-asked : goal.returns-then-asked
returns-then-asked c =
    result_unfit _ _ (start_some _ _ c.contents_start.ensures c.in_ok-at.was) _ (octet_some _ _ c.read_octet.ensures c.in_ok-number.was)
    _ (start_some _ _ c.contents_start-2.ensures c.in_ok-first.was) _ c.in-Ok.ensures c.if-asked.true

pub returns : goal.returns
returns c =
    result_read _ _ (start_some _ _ c.contents_start.ensures c.in_ok-at.was) _ (octet_some _ _ c.read_octet.ensures c.in_ok-number.was)
    _ (start_some _ _ c.contents_start-2.ensures c.in_ok-first.was) _ c.in-Ok.ensures c.if-asked.false
