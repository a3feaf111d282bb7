-- `frames::read_invoke` meets its contract: its tests are the definition's, in the same order. Assumes nothing.
use Rattle.frames.proofs.Places.{start_none, start_some, octet_none, octet_some}
use Rattle.frames.proofs.Components.{invoke_empty, invoke_unnumbered, invoke_numbered}
use Rattle.frames.proofs.read_invoke.Goals as goal

pub returns-in_err-at : goal.returns-in_err-at
returns-in_err-at c = rw c.from_residual.ensures (invoke_empty _ (start_none _ _ c.contents_start.ensures c.in_err-at.was))

pub returns-in_err-number : goal.returns-in_err-number
returns-in_err-number c =
    rw c.from_residual-in_err-number.ensures
    (invoke_unnumbered _ _ (start_some _ _ c.contents_start.ensures c.in_ok-at.was) (octet_none _ _ c.read_octet.ensures c.in_err-number.was))

pub slice_bounds-read_body-count : goal.slice_bounds-read_body-count
slice_bounds-read_body-count c = (octet_some _ _ c.read_octet.ensures c.in_ok-number.was).within

pub slice_bounds-read_body-start : goal.slice_bounds-read_body-start
slice_bounds-read_body-start c = (octet_some _ _ c.read_octet.ensures c.in_ok-number.was).within

pub returns : goal.returns
returns c =
    invoke_numbered _ _ (start_some _ _ c.contents_start.ensures c.in_ok-at.was) _ (octet_some _ _ c.read_octet.ensures c.in_ok-number.was) _ c.read_body-body.ensures
