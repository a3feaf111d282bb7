-- Its test is the definition's. Assumes nothing.
use Rattle.std.proofs.Common.{sym, ◌∙◌}
use Rattle.strings.proofs.Steps.{supervisor_blank, supervisor_named}
use Rattle.strings.proofs.read_supervisor.Goals as goal

pub returns-then-stands_at : goal.returns-then-stands_at
returns-then-stands_at c = supervisor_blank _ (sym c.stands_at.ensures ∙ c.if-stands_at.true)

pub returns : goal.returns
returns c = supervisor_named _ c.read_number_field.result (sym c.stands_at.ensures ∙ c.if-stands_at.false) c.read_number_field.ensures
