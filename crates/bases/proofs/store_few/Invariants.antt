use Rattle.bases.proofs.Groups.{Stored}
use Rattle.bases.proofs.store_few.Given as goal

abbrev pub invariant-loop-digit : goal.invariant-loop-digit
invariant-loop-digit l = Stored l.base l.whole l.initial.digit-items l.digit-items l.digit-index l.held
