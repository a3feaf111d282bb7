-- Assumes nothing.
use Rattle.forms.proofs.Digits.{digits_test}
use Rattle.forms.proofs.is_digits.Goals as goal

pub returns : goal.returns
returns c = rw (c.is_empty.ensures, c.are_digits.ensures) (digits_test c.args.field.now)
