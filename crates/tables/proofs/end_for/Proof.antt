use borrow.Author.Tests.{lt-ltb, le-ltb}
use Rattle.numbers.proofs.Least.{starts_for}
use Rattle.tables.specs.Ends.{end_for}
use borrow.Author.Rules.{rules}
use native.Mathlib.Omega.{arith}
use Rattle.tables.proofs.end_for.Statement.{statement}
use Rattle.tables.proofs.end_for.Tie as tie

returns-then-word-end : tie.Need-returns-then-word-end
unfolding end_for
returns-then-word-end c = let a = c.args in rw (lt-ltb a.word a.end c.if-word-end.true)

least_for-requires : tie.Need-least_for-requires
least_for-requires c κs = search rules

overflow_mul-result : tie.Need-overflow_mul-result
overflow_mul-result c = omega (arith, c.least_for.ensures, (starts_for c.args.word).small)

returns : tie.Need-returns
unfolding end_for
returns c = let a = c.args in rw (le-ltb a.word a.end (omega arith), c.least_for.ensures)

pub end_for_spec : {M : Type 1} → statement M
end_for_spec = tie.close (tie.spec returns-then-word-end least_for-requires overflow_mul-result returns)
