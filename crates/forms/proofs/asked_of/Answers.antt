-- Assumes nothing.
use Rattle.std.proofs.Common.{sym, ap, ◌∙◌}
use Rattle.std.proofs.Math.Option.{some}
use Rattle.forms.proofs.Digits.{number_unread, asked_or_none}
use Rattle.forms.proofs.asked_of.Goals as goal

pub returns-then-not-is_digits : goal.returns-then-not-is_digits
returns-then-not-is_digits c = sym (number_unread _ (sym c.is_digits.ensures ∙ c.if-not-is_digits.true)).1

pub returns : goal.returns
returns c = ap some c.unwrap_or.ensures ∙ asked_or_none _ c.number_of.result (sym c.is_digits.ensures ∙ c.if-not-is_digits.false) c.number_of.ensures
