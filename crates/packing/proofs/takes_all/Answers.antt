use Rattle.std.proofs.Common.{refl}
use Rattle.packing.proofs.Laws.{takes_next, takes_end}
use Rattle.packing.proofs.takes_all.Goals as goal

pub loop-c-init : goal.loop-c-init
loop-c-init c = refl

pub loop-c-preserved : goal.loop-c-preserved
loop-c-preserved c = takes_next _ c.loop-c.c-index c.loop-c.ok c.loop-c-test.true c.loop-c.invariant

pub returns : goal.returns
returns c = takes_end _ c.loop-c.c-index c.loop-c.ok c.loop-c-test.false c.loop-c.invariant
