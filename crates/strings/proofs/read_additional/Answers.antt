-- Its tests are the definition's, in the same order. Assumes nothing.
use Rattle.std.proofs.Common.{sym, ◌∙◌, arith}
use Rattle.strings.proofs.Additional.{additional_many, additional_open, additional_more, additional_read}
use Rattle.strings.proofs.read_additional.Goals as goal

pub returns-then-n-gt-MOST_ADDITIONAL : goal.returns-then-n-gt-MOST_ADDITIONAL
returns-then-n-gt-MOST_ADDITIONAL c = additional_many _ _ c.leading_additional-n.ensures (omega arith)

pub returns-then-not-stands_at : goal.returns-then-not-stands_at
returns-then-not-stands_at c = additional_open _ _ c.leading_additional-n.ensures (omega arith) (sym c.stands_at.ensures ∙ c.if-not-stands_at.true)

pub returns-then-part-n : goal.returns-then-part-n
returns-then-part-n c = additional_more _ _ c.leading_additional-n.ensures (omega arith) (sym c.stands_at.ensures ∙ c.if-not-stands_at.false) (omega arith)

pub returns : goal.returns
returns c = (
  omega arith,
  additional_read _ _ c.leading_additional-n.ensures (omega arith) (sym c.stands_at.ensures ∙ c.if-not-stands_at.false) (omega arith),
  c.read_crew.ensures,
)
