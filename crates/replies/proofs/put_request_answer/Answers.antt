-- Assumes nothing.
use Rattle.std.proofs.Common.{arith}
use Rattle.packing.specs.Packing.{chars_in}
use Rattle.replies.proofs.Writing.{text_room}
use Rattle.replies.proofs.put_request_answer.Goals as goal

pub put_text-requires : goal.put_text-requires
unfolding chars_in
put_text-requires c =
    let a = c.in-Ok-Outcome in
    let t = rw (rw a.is at a.field-0-is) at (rw a.is at c.requires.printable) in
    (t.reads, text_room _ t (omega arith))

pub put_text-requires-in-Ok-Held : goal.put_text-requires-in-Ok-Held
unfolding chars_in
put_text-requires-in-Ok-Held c =
    let a = c.in-Ok-Held in
    let t = rw (rw a.is at a.field-0-is) at (rw a.is at c.requires.printable) in
    (t.reads, text_room _ t (omega arith))
