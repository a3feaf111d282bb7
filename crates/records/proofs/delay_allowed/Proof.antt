use Rattle.std.proofs.Common.{rules}
use Rattle.records.specs.Steps.{delay_allowed}
use Rattle.records.proofs.delay_allowed.Statement.{statement}
use Rattle.records.proofs.delay_allowed.Tie as tie

delay_of-seconds-requires : tie.Need-delay_of-seconds-requires
delay_of-seconds-requires c κs = search rules

returns : tie.Need-returns
unfolding delay_allowed
returns c = rw c.delay_of-seconds.ensures

pub delay_allowed_spec : {M : Type 1} → statement M
delay_allowed_spec = tie.close (tie.spec delay_of-seconds-requires returns)
