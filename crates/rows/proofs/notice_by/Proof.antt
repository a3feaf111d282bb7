use borrow.Author.Tests.{eq-eqb, ne_eqb}
use Rattle.rows.specs.Rows.{notice_up_to}
use Rattle.rows.proofs.notice_by.Statement.{statement}
use Rattle.rows.proofs.notice_by.Tie as tie

returns-then-phase-eq0 : tie.Need-returns-then-phase-eq0
unfolding notice_up_to
returns-then-phase-eq0 c = rw (eq-eqb _ _ c.if-phase-eq0.true)

returns : tie.Need-returns
unfolding notice_up_to
returns c = rw (ne_eqb _ _ c.if-phase-eq0.false)

pub notice_by_spec : {M : Type 1} → statement M
notice_by_spec = tie.close (tie.spec returns-then-phase-eq0 returns)
