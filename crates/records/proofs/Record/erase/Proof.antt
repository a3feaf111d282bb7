use Rattle.std.proofs.Common.{rules, eq-eqb, ne_eqb}
use Rattle.records.specs.Steps.{erased}
use Rattle.records.proofs.Record.erase.Statement.{statement}
use Rattle.records.proofs.Record.erase.Tie as tie

returns-then-holder_word-eq0 : tie.Need-returns-then-holder_word-eq0
unfolding erased
returns-then-holder_word-eq0 c = simp (eq-eqb _ _ c.if-holder_word-eq0.true)

returns-then-not-holder_word-requester_word : tie.Need-returns-then-not-holder_word-requester_word
unfolding erased
returns-then-not-holder_word-requester_word c = simp (ne_eqb _ _ c.if-holder_word-eq0.false, c.if-not-holder_word-requester_word.true-raw)

held_by-requires : tie.Need-held_by-requires
held_by-requires c κs = search rules

returns : tie.Need-returns
unfolding erased
returns c = simp (ne_eqb _ _ c.if-holder_word-eq0.false, c.if-not-holder_word-requester_word.false-raw, c.held_by.ensures)

pub erase_spec : {M : Type 1} → statement M
erase_spec = tie.close (tie.spec returns-then-holder_word-eq0 returns-then-not-holder_word-requester_word held_by-requires returns)
