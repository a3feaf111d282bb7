-- Assumes nothing.
use Rattle.std.proofs.Common.{sym, ◌∙◌, arith}
use Rattle.crews.proofs.Reading.{among_end, among_found, among_step}
use Rattle.crews.proofs.is_among.Goals as goal

pub returns-then-code_at-code : goal.returns-then-code_at-code
returns-then-code_at-code c = among_found _ _ _ c.loop-i.invariant (omega arith) (sym c.code_at.ensures ∙ c.if-code_at-code.true)

pub loop-i-preserved : goal.loop-i-preserved
loop-i-preserved c = among_step _ _ _ c.loop-i.invariant (omega arith) (λ e. c.if-code_at-code.false (c.code_at.ensures ∙ e))

pub returns : goal.returns
returns c = among_end _ _ _ c.loop-i.invariant (omega arith)
