-- Each return is the least number of its length. Assumes nothing.
use Rattle.std.proofs.Common.{sym, arith}
use Rattle.numbers.proofs.Least.{least_none, least_is}
use Rattle.numbers.proofs.least_short.Statement.{statement}
use Rattle.numbers.proofs.least_short.Tie as tie

returns-then-word-lt100000 : tie.Need-returns-then-word-lt100000
returns-then-word-lt100000 c = sym (least_none _ (omega arith))

returns-then-word-lt1000000 : tie.Need-returns-then-word-lt1000000
returns-then-word-lt1000000 c = sym (least_is 5 _ (omega arith) (omega arith) (omega arith) (omega arith))

returns-then-word-lt10000000 : tie.Need-returns-then-word-lt10000000
returns-then-word-lt10000000 c = sym (least_is 6 _ (omega arith) (omega arith) (omega arith) (omega arith))

returns-then-word-lt100000000 : tie.Need-returns-then-word-lt100000000
returns-then-word-lt100000000 c = sym (least_is 7 _ (omega arith) (omega arith) (omega arith) (omega arith))

returns-then-word-lt1000000000 : tie.Need-returns-then-word-lt1000000000
returns-then-word-lt1000000000 c = sym (least_is 8 _ (omega arith) (omega arith) (omega arith) (omega arith))

returns : tie.Need-returns
returns c = sym (least_is 9 _ (omega arith) (omega arith) (omega arith) (omega arith))

pub least_short_spec : {M : Type 1} → statement M
least_short_spec = tie.close (tie.spec
    returns-then-word-lt100000
    returns-then-word-lt1000000
    returns-then-word-lt10000000
    returns-then-word-lt100000000
    returns-then-word-lt1000000000
    returns)
