-- Assumes nothing.
use Rattle.std.proofs.Common.{◌≡◌, None, zero-le, arith, rules}
use Rattle.forms.specs.Lines.{result_form}
use Rattle.forms.proofs.Reading.{is_value, is_none_lem, value_fits}
use Rattle.forms.proofs.read_result.Goals as goal

pub returns-in_err-field : goal.returns-in_err-field
unfolding result_form
returns-in_err-field c =
    let none : c.from_residual.result ≡ None = search rules in
    rw none (record { form = rw (rw c.in_err-field.was at c.split_at_space.ensures); within = zero-le })

pub returns-in_err-clock : goal.returns-in_err-clock
unfolding result_form
returns-in_err-clock c =
    let none : c.from_residual-in_err-clock.result ≡ None = search rules in
    rw none (record { form = rw (c.in_ok-field.ensures.second, c.in_ok-field.ensures.first, is_none_lem _ c.value_below.ensures c.in_err-clock.was); within = zero-le })

pub overflow_cast-clock : goal.overflow_cast-clock
overflow_cast-clock c = omega (arith, value_fits _ _ _ (is_value _ _ c.value_below.ensures c.in_ok-clock.was))

pub returns : goal.returns
unfolding result_form
returns c = rw (c.in_ok-field.ensures.second, c.in_ok-field.ensures.first, is_value _ _ c.value_below.ensures c.in_ok-clock.was) (c.read_result_at.ensures c.args.rest.now)
