use Rattle.std.proofs.Common.{eq-eqb, ne_eqb}
use Rattle.records.specs.Steps.{delay_of}
use Rattle.records.proofs.delay_of.Statement.{statement}
use Rattle.records.proofs.delay_of.Tie as tie

returns-then-delay-eq0 : tie.Need-returns-then-delay-eq0
unfolding delay_of
returns-then-delay-eq0 c = rw (eq-eqb _ _ c.if-delay-eq0.true)

returns-else-delay-eq0 : tie.Need-returns-else-delay-eq0
unfolding delay_of
returns-else-delay-eq0 c = rw (ne_eqb _ _ c.if-delay-eq0.false)

pub delay_of_spec : {M : Type 1} → statement M
delay_of_spec = tie.close (tie.spec returns-then-delay-eq0 returns-else-delay-eq0)
