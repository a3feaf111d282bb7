-- Assumes nothing.
use Rattle.std.proofs.Common.{◌≡◌, None, zero-le, arith, rules}
use Rattle.forms.specs.Lines.{subscriber_form}
use Rattle.forms.proofs.Reading.{is_value, is_none_lem, value_fits}
use Rattle.forms.proofs.read_subscriber.Goals as goal

pub returns-in_err-field : goal.returns-in_err-field
unfolding subscriber_form
returns-in_err-field c =
    let none : c.from_residual.result ≡ None = search rules in
    rw none (record { form = rw (rw c.in_err-field.was at c.split_at_space.ensures); within = zero-le })

pub returns-in_err-word : goal.returns-in_err-word
unfolding subscriber_form
returns-in_err-word c =
    let none : c.from_residual-in_err-word.result ≡ None = search rules in
    rw none (record { form = rw (c.in_ok-field.ensures.second, c.in_ok-field.ensures.first, is_none_lem _ c.number_of.ensures c.in_err-word.was); within = zero-le })

pub returns-in_err-flags : goal.returns-in_err-flags
unfolding subscriber_form
returns-in_err-flags c =
    let none : c.from_residual-in_err-flags.result ≡ None = search rules in
    rw none (record { form = rw (c.in_ok-field.ensures.second, c.in_ok-field.ensures.first, is_value _ _ c.number_of.ensures c.in_ok-word.was, is_none_lem _ c.value_below.ensures c.in_err-flags.was); within = zero-le })

pub overflow_cast-result : goal.overflow_cast-result
overflow_cast-result c = omega (arith, value_fits _ _ _ (is_value _ _ c.value_below.ensures c.in_ok-flags.was))

pub returns : goal.returns
unfolding subscriber_form
returns c = record { form = rw (c.in_ok-field.ensures.second, c.in_ok-field.ensures.first, is_value _ _ c.number_of.ensures c.in_ok-word.was, is_value _ _ c.value_below.ensures c.in_ok-flags.was); within = zero-le }
