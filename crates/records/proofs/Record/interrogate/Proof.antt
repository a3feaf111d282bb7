use Rattle.std.proofs.Common.{eq-eqb, ne_eqb}
use Rattle.records.specs.Steps.{interrogated}
use Rattle.records.proofs.Record.interrogate.Statement.{statement}
use Rattle.records.proofs.Record.interrogate.Tie as tie

returns-then-holder_word-eq0 : tie.Need-returns-then-holder_word-eq0
unfolding interrogated
returns-then-holder_word-eq0 c = simp (eq-eqb _ _ c.if-holder_word-eq0.true)

returns : tie.Need-returns
unfolding interrogated
returns c = simp (ne_eqb _ _ c.if-holder_word-eq0.false)

pub interrogate_spec : {M : Type 1} → statement M
interrogate_spec = tie.close (tie.spec returns-then-holder_word-eq0 returns)
