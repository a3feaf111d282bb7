-- The codes that are left decide. Assumes nothing.
use Rattle.std.proofs.Common.{◌≡◌, ◌*◌, drop}
use Rattle.crews.specs.Crews.{codes_allowed, codes_in}
use Rattle.crews.proofs.are_allowed.Given as goal

abbrev pub invariant-loop-i : goal.invariant-loop-i
invariant-loop-i l = codes_allowed (codes_in l.digits) ≡ codes_allowed (codes_in (drop (2 * l.i) l.digits))
