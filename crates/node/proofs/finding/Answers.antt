use Rattle.std.proofs.Common.{sym, ◌∙◌}
use Rattle.node.proofs.Checks.{finding_2, finding_6, finding_first}
use Rattle.node.proofs.finding.Goals as goal

pub returns-then-not-table_sound : goal.returns-then-not-table_sound
returns-then-not-table_sound c = sym (finding_2 _ _ _ (sym c.table_sound.ensures ∙ c.if-not-table_sound.true))

pub returns-then-not-delay_allowed : goal.returns-then-not-delay_allowed
returns-then-not-delay_allowed c = sym (finding_6 _ _ _ (sym c.table_sound.ensures ∙ c.if-not-table_sound.false) (sym c.delay_allowed.ensures ∙ c.if-not-delay_allowed.true))

pub returns : goal.returns
returns c = c.first_due.ensures ∙ sym (finding_first _ _ _ (sym c.table_sound.ensures ∙ c.if-not-table_sound.false) (sym c.delay_allowed.ensures ∙ c.if-not-delay_allowed.false))
