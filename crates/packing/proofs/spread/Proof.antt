-- `spread` meets its contract: three steps apart. Assumes nothing.
use mathlib.Core.Path.{sym}
use Prim.Native.Nat.{◌/◌, ◌^◌}
use native.Mathlib.Omega.{arith}
use lib.Bits.{and_le_r}
use Rattle.packing.specs.Packing.{digits}
use Rattle.bases.proofs.Digits.{length_digits, number_digits, Below-digits}
use Rattle.packing.proofs.Squeezing.{fours_spread, twos_spread, widen}
use Rattle.packing.proofs.spread.Statement.{statement}
use Rattle.packing.proofs.spread.Tie as tie

overflow_mul-fours : tie.Need-overflow_mul-fours
overflow_mul-fours c = omega (arith, and_le_r (c.args.held / 2 ^ 28) 0x0fffffff)

overflow_add-fours : tie.Need-overflow_add-fours
overflow_add-fours c = omega (arith, and_le_r (c.args.held / 2 ^ 28) 0x0fffffff)

overflow_mul-twos : tie.Need-overflow_mul-twos
overflow_mul-twos c = omega (arith, and_le_r (fours_spread c.args.held / 2 ^ 14) 0x00003fff00003fff)

overflow_add-twos : tie.Need-overflow_add-twos
overflow_add-twos c = omega (arith, and_le_r (c.args.held / 2 ^ 28) 0x0fffffff, and_le_r (fours_spread c.args.held / 2 ^ 14) 0x00003fff00003fff)

overflow_mul-result : tie.Need-overflow_mul-result
overflow_mul-result c = omega (arith, and_le_r (twos_spread c.args.held / 128) 0x007f007f007f007f)

overflow_add-result : tie.Need-overflow_add-result
overflow_add-result c = omega (arith, and_le_r (c.args.held / 2 ^ 28) 0x0fffffff, and_le_r (fours_spread c.args.held / 2 ^ 14) 0x00003fff00003fff, and_le_r (twos_spread c.args.held / 128) 0x007f007f007f007f)

returns : tie.Need-returns
returns c =
    let x = c.args.held in
    widen (digits 128 8 x) (length_digits 128 8 x) (Below-digits 128 (omega arith) 8 x) x (sym (number_digits 128 (omega arith) 8 x c.requires))

pub spread_spec : {M : Type 1} → statement M
spread_spec =
    tie.close (tie.spec
    overflow_mul-fours
    overflow_add-fours
    overflow_mul-twos
    overflow_add-twos
    overflow_mul-result
    overflow_add-result
    returns)
