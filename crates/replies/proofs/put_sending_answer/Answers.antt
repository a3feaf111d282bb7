-- Assumes nothing.
use Rattle.std.proofs.Common.{arith, length-append, length-take, length-drop}
use Rattle.answers.specs.Ascii.{ascii}
use Rattle.numbers.specs.Numbers.{digits_of}
use Rattle.numbers.proofs.Digits.{digits_most}
use Rattle.packing.specs.Packing.{chars_in}
use Rattle.replies.proofs.Writing.{text_room}
use Rattle.replies.proofs.put_sending_answer.Goals as goal

pub put_text-requires : goal.put_text-requires
unfolding chars_in
put_text-requires c =
    let sendable = rw c.in-Ok.is at c.requires.printable in
    let m = c.in-Ok.sent.addressee.0 in
    let few = digits_most m sendable.0 in
    (sendable.1.reads, text_room _ sendable.1 (simp (length-take, length-drop) (omega (arith, c.put_number-at.ensures.count, length-append (digits_of m) (ascii " "), few))))
