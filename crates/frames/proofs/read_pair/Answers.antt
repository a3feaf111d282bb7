-- `frames::read_pair` meets its contract: its tests are the definition's, in the same order. Assumes nothing.
use Rattle.frames.proofs.Places.{start_some, octet_none, octet_some}
use Rattle.frames.proofs.Components.{pair_unnumbered, pair_codeless, pair_more, pair_read}
use Rattle.frames.proofs.read_pair.Goals as goal

pub returns-in_err-number : goal.returns-in_err-number
returns-in_err-number c =
    rw c.from_residual-in_err-number.ensures
    (pair_unnumbered _ _ _ _ (start_some _ _ c.contents_start.ensures c.in_ok-at.was) (octet_none _ _ c.read_octet.ensures c.in_err-number.was))

pub slice_bounds-last-count : goal.slice_bounds-last-count
slice_bounds-last-count c = (octet_some _ _ c.read_octet.ensures c.in_ok-number.was).within

pub slice_bounds-last-start : goal.slice_bounds-last-start
slice_bounds-last-start c = (octet_some _ _ c.read_octet.ensures c.in_ok-number.was).within

pub returns-in_err-code : goal.returns-in_err-code
returns-in_err-code c =
    rw c.from_residual-in_err-code.ensures
    (pair_codeless _ _ _ _ (start_some _ _ c.contents_start.ensures c.in_ok-at.was) _ (octet_some _ _ c.read_octet.ensures c.in_ok-number.was)
    (octet_none _ _ c.read_octet-2.ensures c.in_err-code.was))

pub returns-then-last-ne-OCTET_PART : goal.returns-then-last-ne-OCTET_PART
returns-then-last-ne-OCTET_PART c =
    pair_more _ _ _ _ (start_some _ _ c.contents_start.ensures c.in_ok-at.was) _ (octet_some _ _ c.read_octet.ensures c.in_ok-number.was)
    _ (octet_some _ _ c.read_octet-2.ensures c.in_ok-code.was) c.if-last-ne-OCTET_PART.true

pub returns : goal.returns
returns c =
    pair_read _ _ _ _ (start_some _ _ c.contents_start.ensures c.in_ok-at.was) _ (octet_some _ _ c.read_octet.ensures c.in_ok-number.was)
    _ (octet_some _ _ c.read_octet-2.ensures c.in_ok-code.was) c.if-last-ne-OCTET_PART.false
