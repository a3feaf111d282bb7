-- `ffn_pack` meets its contract: the numbers of what the packer ensures. Assumes nothing.
use mathlib.Core.Path.{ap}
use borrow.Author.Rules.{rules}
use Rattle.ffn_c.specs.Calls.{of_writer}
use Rattle.ffn_c.proofs.ffn_pack.Statement.{statement}
use Rattle.ffn_c.proofs.ffn_pack.Tie as tie

pack-requires : tie.Need-pack-requires
pack-requires c κs = search rules

of_written-requires : tie.Need-of_written-requires
of_written-requires c κs = search rules

shape_of-out : tie.Need-shape_of-out
shape_of-out c = search rules

returns : tie.Need-returns
returns c = rw c.of_written.ensures (ap of_writer c.pack.ensures)

pub ffn_pack_spec : {M : Type 1} → statement M
ffn_pack_spec = tie.close (tie.spec pack-requires of_written-requires shape_of-out returns)
