-- The codes that are left decide. Assumes nothing.
use Rattle.std.proofs.Common.{◌≡◌, ◌*◌, drop}
use Rattle.crews.specs.Crews.{is_in, codes_in}
use Rattle.crews.proofs.is_among.Given as goal

abbrev pub invariant-loop-i : goal.invariant-loop-i
invariant-loop-i l = is_in l.code (codes_in l.digits) ≡ is_in l.code (codes_in (drop (2 * l.i) l.digits))
