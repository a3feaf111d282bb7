use Rattle.std.proofs.Common.{◌≡◌, ◌&&◌, drop}
use Rattle.packing.specs.Packing.{takes}
use Rattle.packing.proofs.takes_all.Given as goal

abbrev pub invariant-loop-c : goal.invariant-loop-c
invariant-loop-c l = takes l.chars ≡ (l.ok && takes (drop l.c-index l.chars))
