-- It is the definition's test. Assumes nothing.
use Rattle.std.proofs.Common.{rules}
use Rattle.numbers.specs.Numbers.{is_digit}
use Rattle.strings.specs.Text.{is_additional}
use Rattle.strings.proofs.is_additional.Goals as goal

pub returns : goal.returns
unfolding is_additional is_digit
returns c = search rules
