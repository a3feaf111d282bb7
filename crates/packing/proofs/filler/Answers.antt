-- Assumes nothing.
use Rattle.std.proofs.Common.{arith}
use borrow.Author.Tests.{eq-eqb, ne_eqb}
use Rattle.packing.specs.Packing.{value_of}
use Rattle.packing.proofs.filler.Goals as goal

pub returns-then-count-eq7 : goal.returns-then-count-eq7
unfolding value_of
returns-then-count-eq7 c = (rw (eq-eqb c.args.count 7 c.if-count-eq7.true, c.from.ensures), omega (arith, c.from.ensures))

pub returns : goal.returns
unfolding value_of
returns c = (rw (ne_eqb c.args.count 7 c.if-count-eq7.false), omega arith)
