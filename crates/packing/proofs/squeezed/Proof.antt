-- `squeezed` meets its contract: three steps nearer. Assumes nothing.
use native.Mathlib.Omega.{arith}
use mathlib.Core.Path.{sym}
use Prim.Native.Nat.{◌/◌, ◌^◌}
use lib.Bits.{and_le_l, and_le_r}
use Rattle.packing.specs.Packing.{digits}
use Rattle.bases.proofs.Digits.{length_digits, number_digits}
use Rattle.packing.proofs.Laws.{takes_below}
use Rattle.packing.proofs.Squeezing.{twos_squeezed, fours_squeezed, narrow}
use Rattle.packing.proofs.squeezed.Statement.{statement}
use Rattle.packing.proofs.squeezed.Tie as tie

overflow_mul-twos : tie.Need-overflow_mul-twos
overflow_mul-twos c = omega (arith, and_le_r (c.args.wide / 256) 0x00ff00ff00ff00ff)

overflow_sub-twos : tie.Need-overflow_sub-twos
overflow_sub-twos c = omega (arith, and_le_l (c.args.wide / 256) 0x00ff00ff00ff00ff)

overflow_mul-fours : tie.Need-overflow_mul-fours
overflow_mul-fours c = omega (arith, and_le_r (twos_squeezed c.args.wide / 2 ^ 16) 0x0000ffff0000ffff)

overflow_sub-fours : tie.Need-overflow_sub-fours
overflow_sub-fours c = omega (arith, and_le_l (twos_squeezed c.args.wide / 2 ^ 16) 0x0000ffff0000ffff)

overflow_mul-result : tie.Need-overflow_mul-result
overflow_mul-result c = omega (arith, and_le_r (fours_squeezed c.args.wide / 2 ^ 32) 0xffffffff)

overflow_sub-result : tie.Need-overflow_sub-result
overflow_sub-result c = omega (arith, and_le_l (fours_squeezed c.args.wide / 2 ^ 32) 0xffffffff)

returns : tie.Need-returns
returns c =
    let x = c.args.wide in
    let ds = digits 256 8 x in
    narrow ds (length_digits 256 8 x) (takes_below ds c.requires) x (sym (number_digits 256 (omega arith) 8 x (omega arith)))

pub squeezed_spec : {M : Type 1} → statement M
squeezed_spec =
    tie.close (tie.spec
    overflow_mul-twos
    overflow_sub-twos
    overflow_mul-fours
    overflow_sub-fours
    overflow_mul-result
    overflow_sub-result
    returns)
