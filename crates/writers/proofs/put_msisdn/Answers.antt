-- Nobody has no digits. Assumes nothing.
use Rattle.numbers.proofs.Lengths.{no_digits}
use Rattle.writers.proofs.put_msisdn.Goals as goal

pub returns-then-msisdn-eq0 : goal.returns-then-msisdn-eq0
returns-then-msisdn-eq0 c = rw (c.if-msisdn-eq0.true, no_digits) c.put.ensures
