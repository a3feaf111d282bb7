use Rattle.bases.proofs.Groups.{Reading}
use Rattle.bases.proofs.few.Given as goal

abbrev pub invariant-loop-octet : goal.invariant-loop-octet
invariant-loop-octet l = Reading l.base l.above l.octets l.octet-iterator.iter.rest.now l.held
