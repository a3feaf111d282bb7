use borrow.Author.Tests.{eq-eqb, ne_eqb}
use borrow.Author.Rules.{rules}
use Rattle.rows.specs.Rows.{notice_of}
use Rattle.rows.proofs.notice_of.Statement.{statement}
use Rattle.rows.proofs.notice_of.Tie as tie

returns-then-phase-eq0 : tie.Need-returns-then-phase-eq0
unfolding notice_of
returns-then-phase-eq0 c = rw (eq-eqb _ _ c.if-phase-eq0.true)

overflow_cast-result : tie.Need-overflow_cast-result
overflow_cast-result c = search rules

overflow_cast-result-then-phase-eq1 : tie.Need-overflow_cast-result-then-phase-eq1
overflow_cast-result-then-phase-eq1 c = search rules

returns-then-phase-eq1 : tie.Need-returns-then-phase-eq1
unfolding notice_of
returns-then-phase-eq1 c = rw (ne_eqb _ _ c.if-phase-eq0.false, eq-eqb _ _ c.if-phase-eq1.true)

overflow_cast-result-2 : tie.Need-overflow_cast-result-2
overflow_cast-result-2 c = search rules

returns : tie.Need-returns
unfolding notice_of
returns c = rw (ne_eqb _ _ c.if-phase-eq0.false, ne_eqb _ _ c.if-phase-eq1.false)

pub notice_of_spec : {M : Type 1} → statement M
notice_of_spec = tie.close (tie.spec
    returns-then-phase-eq0
    overflow_cast-result
    overflow_cast-result-then-phase-eq1
    returns-then-phase-eq1
    overflow_cast-result-2
    returns)
