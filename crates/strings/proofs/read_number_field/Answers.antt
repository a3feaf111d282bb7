-- Its tests are the definition's, in the same order. Assumes nothing.
use Rattle.std.proofs.Common.{sym, ◌∙◌, arith}
use Rattle.numbers.proofs.Reading.{read_from}
use Rattle.strings.proofs.Steps.{number_none, number_open, number_found}
use Rattle.strings.proofs.read_number_field.Goals as goal

pub returns-in_default : goal.returns-in_default
returns-in_default c = number_none _ (sym c.read_number.ensures ∙ c.in_default.is)

pub returns-then-not-stands_at : goal.returns-then-not-stands_at
returns-then-not-stands_at c = number_open _ _ _ (sym c.read_number.ensures ∙ c.in-Some.is) (sym c.stands_at.ensures ∙ c.if-not-stands_at.true)

pub overflow_add-result : goal.overflow_add-result
overflow_add-result c = omega (arith, (read_from _ _ _ (sym c.read_number.ensures ∙ c.in-Some.is)).within)

pub returns : goal.returns
returns c = number_found _ _ _ (sym c.read_number.ensures ∙ c.in-Some.is) (sym c.stands_at.ensures ∙ c.if-not-stands_at.false)
