-- `lines::send` meets its contract. Assumes nothing.
use native.Mathlib.Omega.{arith}
use Rattle.states.specs.States.{beside}
use Rattle.lines.specs.Program.{lent_buffer}
use Rattle.lines.proofs.Printing.{sending_sends}
use Rattle.lines.proofs.Calls.{printable_by, answered_by}
use borrow.Author.Rules.{rules}
use Rattle.lines.proofs.send.Statement.{statement}
use Rattle.lines.proofs.send.Tie as tie

slice_bounds-sending-end : tie.Need-slice_bounds-sending-end
slice_bounds-sending-end c = search rules

sending-answer-requires : tie.Need-sending-answer-requires
sending-answer-requires c κs = search rules

slice_bounds-put_sending_answer-end : tie.Need-slice_bounds-put_sending_answer-end
slice_bounds-put_sending_answer-end c = search rules

put_sending_answer-requires : tie.Need-put_sending_answer-requires
put_sending_answer-requires c κs =
    let a = c.args in
    (printable_by _ _ _ _ c.sending-answer.ensures (sending_sends (beside a.table.now a.figures.now) lent_buffer a.number a.delay a.clock).0, omega arith)

shape_of-table : tie.Need-shape_of-table
shape_of-table c = search rules

shape_of-figures : tie.Need-shape_of-figures
shape_of-figures c = search rules

shape_of-out : tie.Need-shape_of-out
shape_of-out c = search rules

returns : tie.Need-returns
returns c =
    let a = c.args in
    answered_by _ _ _ _ c.sending-answer.ensures (sending_sends (beside a.table.now a.figures.now) lent_buffer a.number a.delay a.clock).0 c.put_sending_answer.ensures

pub send_spec : {M : Type 1} → statement M
send_spec =
    tie.close
    (tie.spec
    slice_bounds-sending-end
    sending-answer-requires
    slice_bounds-put_sending_answer-end
    put_sending_answer-requires
    shape_of-table
    shape_of-figures
    shape_of-out
    returns)
