use Rattle.std.proofs.Common.{◌*◌}
use Rattle.bases.proofs.Groups.{Grouped}
use Rattle.packing.proofs.write_chars.Given as goal

abbrev pub invariant-loop-k : goal.invariant-loop-k
invariant-loop-k l = Grouped 8 7 l.octets l.initial.out l.out (7 * l.k) (8 * l.k)
