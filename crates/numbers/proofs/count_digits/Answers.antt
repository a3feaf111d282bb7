-- Assumes nothing.
use Rattle.std.proofs.Common.{arith}
use Rattle.numbers.proofs.Lengths.{number_least}
use Rattle.numbers.proofs.Writing.{count_is}
use Rattle.numbers.proofs.count_digits.Goals as goal

pub ilog10-requires : goal.ilog10-requires
ilog10-requires c = omega (arith, number_least c.args.word c.requires)

pub returns : goal.returns
returns c = count_is c.args.word _ c.requires c.ilog10.ensures.power_le c.ilog10.ensures.next_power_gt
