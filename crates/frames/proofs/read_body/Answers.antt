-- `frames::read_body` meets its contract: its tests are the definition's, in the same order. Assumes nothing.
use mathlib.Core.Path.{sym}
use Rattle.std.proofs.Common.{Some, None}
use Rattle.answers.proofs.Begins.{begins_within}
use Rattle.frames.specs.Components.{operation}
use Rattle.frames.proofs.Bodies.{body_other, body_told}
use Rattle.frames.proofs.read_body.Goals as goal

pub returns-then-not-begins_with : goal.returns-then-not-begins_with
returns-then-not-begins_with c = body_other _ (sym c.if-not-begins_with.ensures)

pub slice_bounds-read_argument-count : goal.slice_bounds-read_argument-count
slice_bounds-read_argument-count c = begins_within operation _ (sym c.if-not-begins_with.ensures)

pub slice_bounds-read_argument-start : goal.slice_bounds-read_argument-start
slice_bounds-read_argument-start c = begins_within operation _ (sym c.if-not-begins_with.ensures)

pub returns-in_default : goal.returns-in_default
returns-in_default c = body_told _ (sym c.if-not-begins_with.ensures) None c.in_default.ensures

pub returns : goal.returns
returns c = body_told _ (sym c.if-not-begins_with.ensures) (Some _) c.in-Some.ensures
