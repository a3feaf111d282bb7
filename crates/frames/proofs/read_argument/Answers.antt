-- `frames::read_argument` meets its contract: its tests are the definition's, in the same order. Assumes nothing.
use Rattle.frames.proofs.Places.{start_none, start_some, octet_none, octet_some}
use Rattle.frames.proofs.Bodies.{argument_schemeless, argument_stringless, argument_read}
use Rattle.frames.proofs.read_argument.Goals as goal

pub returns-in_err-scheme : goal.returns-in_err-scheme
returns-in_err-scheme c =
    rw c.from_residual-in_err-scheme.ensures
    (argument_schemeless _ _ (start_some _ _ c.contents_start.ensures c.in_ok-at.was) (octet_none _ _ c.read_octet.ensures c.in_err-scheme.was))

pub slice_bounds-last-count : goal.slice_bounds-last-count
slice_bounds-last-count c = (octet_some _ _ c.read_octet.ensures c.in_ok-scheme.was).within

pub slice_bounds-last-start : goal.slice_bounds-last-start
slice_bounds-last-start c = (octet_some _ _ c.read_octet.ensures c.in_ok-scheme.was).within

pub returns-in_err-start : goal.returns-in_err-start
returns-in_err-start c =
    rw c.from_residual-in_err-start.ensures
    (argument_stringless _ _ (start_some _ _ c.contents_start.ensures c.in_ok-at.was) _ (octet_some _ _ c.read_octet.ensures c.in_ok-scheme.was)
    (start_none _ _ c.contents_start-2.ensures c.in_err-start.was))

pub returns : goal.returns
returns c =
    argument_read _ _ (start_some _ _ c.contents_start.ensures c.in_ok-at.was) _ (octet_some _ _ c.read_octet.ensures c.in_ok-scheme.was)
    _ (start_some _ _ c.contents_start-2.ensures c.in_ok-start.was)
