use Rattle.std.proofs.Common.{sym, ◌∙◌}
use Rattle.std.proofs.Math.Seq.{length-take-le}
use Rattle.packing.proofs.Outcomes.{pack_count}
use Rattle.states.specs.States.{beside}
use Rattle.lines.proofs.Printing.{asked_replies}
use Rattle.lines.proofs.Calls.{printable_by, answered_by, pack_fails, asked_unfit, asked_fit}
use Rattle.lines.proofs.ask.Goals as goal

pub returns-in_default : goal.returns-in_default
returns-in_default c =
    let a = c.args in
    answered_by _ _ _ _ (asked_unfit a.requester a.string.now (beside a.table.now a.figures.now) a.list.now (pack_fails _ _ _ c.pack.result _ c.pack.ensures c.requires.0 c.in_default.is)) (asked_replies _ _ _ _).0 (rw c.from.ensures at c.put_numbered.ensures)

pub slice_bounds-request-end-2 : goal.slice_bounds-request-end-2
slice_bounds-request-end-2 c = (pack_count _ _ _ _ c.pack.ensures _ c.in-Ok.is).within

pub slice_bounds-request-end-3 : goal.slice_bounds-request-end-3
slice_bounds-request-end-3 c = sym (length-take-le _ _ (pack_count _ _ _ _ c.pack.ensures _ c.in-Ok.is).within)

pub put_request_answer-requires-clause-printable : goal.put_request_answer-requires-clause-printable
put_request_answer-requires-clause-printable c =
    let a = c.args in
    let k = pack_count _ _ _ _ c.pack.ensures _ c.in-Ok.is in
    let answers = rw k.start at c.request-answer.ensures ∙ asked_fit a.requester a.string.now (beside a.table.now a.figures.now) a.list.now k.sound in
    printable_by _ _ _ _ answers (asked_replies _ _ _ _).0

pub returns : goal.returns
returns c =
    let a = c.args in
    let k = pack_count _ _ _ _ c.pack.ensures _ c.in-Ok.is in
    let answers = rw k.start at c.request-answer.ensures ∙ asked_fit a.requester a.string.now (beside a.table.now a.figures.now) a.list.now k.sound in
    answered_by _ _ _ _ answers (asked_replies _ _ _ _).0 c.put_request_answer.ensures
