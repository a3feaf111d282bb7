use Rattle.std.proofs.Common.{arith}
use Rattle.answers.specs.Numbers.{outcome_number}
use Rattle.answers.proofs.Parts.{stands_front}
use Rattle.packing.specs.Packing.{octets_for}
use Rattle.walks.proofs.Replies.{tally_short}
use Rattle.walks.proofs.answer.Goals as goal

pub put-octets-requires : goal.put-octets-requires
unfolding octets_for
put-octets-requires c =
    let a = c.args in
    rw (stands_front c.write_reply-count.ensures, c.from.ensures)
    (c.requires.1, omega (arith, tally_short (outcome_number a.outcome) a.tally c.requires.0, c.requires.2))
