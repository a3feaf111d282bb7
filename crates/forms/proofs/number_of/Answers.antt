-- Assumes nothing.
use Rattle.std.proofs.Common.{◌≡◌, None, sym, ◌∙◌, rules}
use Rattle.forms.proofs.Digits.{number_unread, number_read_lem, number_malformed}
use Rattle.forms.proofs.number_of.Goals as goal

pub returns-then-not-is_digits : goal.returns-then-not-is_digits
returns-then-not-is_digits c = sym (number_unread _ (sym c.is_digits.ensures ∙ c.if-not-is_digits.true)).0

pub returns-in_err-word : goal.returns-in_err-word
returns-in_err-word c =
    let none : c.from_residual.result ≡ None = search rules in
    rw none (sym (number_malformed _ (sym c.is_digits.ensures ∙ c.if-not-is_digits.false) (sym c.read_number.ensures ∙ c.in_err-word.was)).0)

pub returns : goal.returns
returns c = sym (number_read_lem _ _ _ (sym c.is_digits.ensures ∙ c.if-not-is_digits.false) (sym c.read_number.ensures ∙ c.in_ok-word.was)).0
