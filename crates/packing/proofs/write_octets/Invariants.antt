use Rattle.std.proofs.Common.{◌*◌}
use Rattle.bases.proofs.Groups.{Grouped}
use Rattle.packing.specs.Packing.{padded}
use Rattle.packing.proofs.write_octets.Given as goal

abbrev pub invariant-loop-k : goal.invariant-loop-k
invariant-loop-k l = Grouped 7 8 (padded l.chars) l.initial.out l.out (8 * l.k) (7 * l.k)
