-- Each return is the least number of its length. Assumes nothing.
use Rattle.std.proofs.Common.{sym, arith}
use Rattle.numbers.proofs.Least.{least_is, least_longest}
use Rattle.numbers.proofs.least_long.Statement.{statement}
use Rattle.numbers.proofs.least_long.Tie as tie

returns-then-word-lt100000000000 : tie.Need-returns-then-word-lt100000000000
returns-then-word-lt100000000000 c = sym (least_is 10 _ (omega arith) (omega arith) (omega arith) (omega arith))

returns-then-word-lt1000000000000 : tie.Need-returns-then-word-lt1000000000000
returns-then-word-lt1000000000000 c = sym (least_is 11 _ (omega arith) (omega arith) (omega arith) (omega arith))

returns-then-word-lt10000000000000 : tie.Need-returns-then-word-lt10000000000000
returns-then-word-lt10000000000000 c = sym (least_is 12 _ (omega arith) (omega arith) (omega arith) (omega arith))

returns-then-word-lt100000000000000 : tie.Need-returns-then-word-lt100000000000000
returns-then-word-lt100000000000000 c = sym (least_is 13 _ (omega arith) (omega arith) (omega arith) (omega arith))

returns-then-word-lt1000000000000000 : tie.Need-returns-then-word-lt1000000000000000
returns-then-word-lt1000000000000000 c = sym (least_is 14 _ (omega arith) (omega arith) (omega arith) (omega arith))

returns : tie.Need-returns
returns c = sym (least_longest _ (omega arith))

pub least_long_spec : {M : Type 1} → statement M
least_long_spec = tie.close (tie.spec
    returns-then-word-lt100000000000
    returns-then-word-lt1000000000000
    returns-then-word-lt10000000000000
    returns-then-word-lt100000000000000
    returns-then-word-lt1000000000000000
    returns)
