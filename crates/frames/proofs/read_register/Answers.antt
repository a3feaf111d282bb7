-- `frames::read_register` meets its contract: the element is read as a component, what stands behind it as its end. Assumes nothing.
use Rattle.std.proofs.Common.{arith}
use mathlib.Core.Path.{sym}
use Rattle.frames.proofs.Messages.{end_none, end_some, register_none, register_unnumbered, register_numbered}
use Rattle.frames.proofs.read_register.Goals as goal

pub returns-in_default : goal.returns-in_default
returns-in_default c = register_none _ (end_none _ _ c.element_end.ensures c.in_default.is)

pub slice_bounds-read_invoke-end : goal.slice_bounds-read_invoke-end
slice_bounds-read_invoke-end c = (end_some _ _ c.element_end.ensures c.in-Some.is).within

pub returns-in_default-read_invoke : goal.returns-in_default-read_invoke
returns-in_default-read_invoke c =
    register_unnumbered _ _ (end_some _ _ c.element_end.ensures c.in-Some.is) (sym c.in_default-read_invoke.ensures)

pub slice_bounds-end_body-count : goal.slice_bounds-end_body-count
slice_bounds-end_body-count c = (end_some _ _ c.element_end.ensures c.in-Some.is).within

pub slice_bounds-end_body-start : goal.slice_bounds-end_body-start
slice_bounds-end_body-start c = (end_some _ _ c.element_end.ensures c.in-Some.is).within

pub bounds-message-0 : goal.bounds-message-0
bounds-message-0 c =
    let e = end_some _ _ c.element_end.ensures c.in-Some.is in
    omega (arith, e.four, e.within)

pub returns : goal.returns
returns c =
    rw c.end_body-body.ensures
    (register_numbered _ _ (end_some _ _ c.element_end.ensures c.in-Some.is) _ c.in-Some-read_invoke.ensures)
