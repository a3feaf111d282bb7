-- `ffn_unpack` meets its contract: the numbers of what the unpacker ensures. Assumes nothing.
use mathlib.Core.Path.{ap}
use borrow.Author.Rules.{rules}
use Rattle.ffn_c.specs.Calls.{of_writer}
use Rattle.ffn_c.proofs.ffn_unpack.Statement.{statement}
use Rattle.ffn_c.proofs.ffn_unpack.Tie as tie

unpack-requires : tie.Need-unpack-requires
unpack-requires c κs = search rules

of_written-requires : tie.Need-of_written-requires
of_written-requires c κs = search rules

shape_of-out : tie.Need-shape_of-out
shape_of-out c = search rules

returns : tie.Need-returns
returns c = rw c.of_written.ensures (ap of_writer c.unpack.ensures)

pub ffn_unpack_spec : {M : Type 1} → statement M
ffn_unpack_spec = tie.close (tie.spec unpack-requires of_written-requires shape_of-out returns)
