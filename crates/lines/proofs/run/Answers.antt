use Rattle.std.proofs.Common.{arith}
use Rattle.packing.specs.Packing.{octets_for}
use Rattle.lines.proofs.run.Goals as goal

pub run_lines-requires : goal.run_lines-requires
unfolding octets_for
run_lines-requires c = (c.requires, omega (arith, c.requires.short, c.filled-packed.ensures))
