-- `ffn_sending` meets its contract: the numbers of what the node ensures. Assumes nothing.
use mathlib.Core.Path.{ap}
use borrow.Author.Rules.{rules}
use Rattle.ffn_c.specs.Calls.{of_call}
use Rattle.ffn_c.proofs.ffn_sending.Statement.{statement}
use Rattle.ffn_c.proofs.ffn_sending.Tie as tie

sending-requires : tie.Need-sending-requires
sending-requires c κs = search rules

of_sending-requires : tie.Need-of_sending-requires
of_sending-requires c κs = search rules

shape_of-table : tie.Need-shape_of-table
shape_of-table c = search rules

shape_of-figures : tie.Need-shape_of-figures
shape_of-figures c = search rules

shape_of-buffer : tie.Need-shape_of-buffer
shape_of-buffer c = search rules

returns : tie.Need-returns
returns c = rw c.of_sending.ensures (ap of_call c.sending.ensures)

pub ffn_sending_spec : {M : Type 1} → statement M
ffn_sending_spec =
    tie.close (tie.spec sending-requires of_sending-requires shape_of-table shape_of-figures shape_of-buffer returns)
