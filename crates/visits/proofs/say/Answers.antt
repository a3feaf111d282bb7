use Rattle.std.proofs.Common.{arith}
use Rattle.packing.specs.Packing.{octets_for}
use Rattle.rules.proofs.Taken.{takes_two}
use Rattle.visits.proofs.say.Goals as goal

pub put-requires : goal.put-requires
unfolding octets_for
put-requires c =
    rw c.two_digits-text.ensures (takes_two c.args.n (omega arith), omega arith)
