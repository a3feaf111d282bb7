-- Assumes nothing.
use Rattle.std.proofs.Common.{◌≡◌, None, zero-le, rules}
use Rattle.forms.specs.Lines.{number_form}
use Rattle.forms.proofs.Reading.{is_value, is_none_lem}
use Rattle.forms.proofs.read_number.Goals as goal

pub returns-in_err-word : goal.returns-in_err-word
unfolding number_form
returns-in_err-word c =
    let none : c.from_residual.result ≡ None = search rules in
    rw none (record { form = rw (is_none_lem _ c.number_of.ensures c.in_err-word.was); within = zero-le })

pub returns : goal.returns
unfolding number_form
returns c = record { form = rw (is_value _ _ c.number_of.ensures c.in_ok-word.was); within = zero-le }
