use Rattle.std.proofs.Common.{arith}
use Rattle.bases.proofs.Groups.{none_stored, one_stored}
use Rattle.bases.proofs.store_few.Goals as goal

pub loop-digit-init : goal.loop-digit-init
loop-digit-init c = none_stored _ _ _

pub loop-digit-preserved : goal.loop-digit-preserved
loop-digit-preserved c = one_stored c.loop-digit.invariant (omega arith)
