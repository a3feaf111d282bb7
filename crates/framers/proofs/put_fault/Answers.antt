-- `framers::put_fault` meets its contract, in each case of the fault. Assumes nothing.
use Rattle.framers.proofs.Heads.{error_is, reject_is}
use Rattle.framers.proofs.put_fault.Goals as goal

pub returns-in-Error : goal.returns-in-Error
returns-in-Error c = rw (c.in-Error.is, error_is _ _) c.put.ensures

pub returns-in-Reject : goal.returns-in-Reject
returns-in-Reject c = rw (c.in-Reject.is, reject_is _ _) c.put-in-Reject.ensures
