-- Assumes nothing.
use Rattle.std.proofs.Common.{◌≡◌, None, zero-le, arith, rules}
use Rattle.forms.specs.Lines.{delay_form}
use Rattle.forms.proofs.Reading.{is_value, is_none_lem, value_fits}
use Rattle.forms.proofs.read_delay.Goals as goal

pub returns-in_err-seconds : goal.returns-in_err-seconds
unfolding delay_form
returns-in_err-seconds c =
    let none : c.from_residual.result ≡ None = search rules in
    rw none (record { form = rw (is_none_lem _ c.value_below.ensures c.in_err-seconds.was); within = zero-le })

pub overflow_cast-result : goal.overflow_cast-result
overflow_cast-result c = omega (arith, value_fits _ _ _ (is_value _ _ c.value_below.ensures c.in_ok-seconds.was))

pub returns : goal.returns
unfolding delay_form
returns c = record { form = rw (is_value _ _ c.value_below.ensures c.in_ok-seconds.was); within = zero-le }
