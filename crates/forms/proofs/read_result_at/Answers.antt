-- Assumes nothing.
use Rattle.std.proofs.Common.{◌≡◌, None, zero-le, arith, rules}
use Rattle.forms.specs.Lines.{result_fields}
use Rattle.forms.proofs.Reading.{is_value, is_none_lem, value_fits}
use Rattle.forms.proofs.read_result_at.Goals as goal

pub returns-in_err-field : goal.returns-in_err-field
unfolding result_fields
returns-in_err-field c =
    let none : c.from_residual.result ≡ None = search rules in
    λ line. rw none (record { form = rw (rw c.in_err-field.was at c.split_at_space.ensures); within = zero-le })

pub returns-in_err-word : goal.returns-in_err-word
unfolding result_fields
returns-in_err-word c =
    let none : c.from_residual-in_err-word.result ≡ None = search rules in
    λ line. rw none (record { form = rw (c.in_ok-field.ensures.second, c.in_ok-field.ensures.first, is_none_lem _ c.asked_of.ensures c.in_err-word.was); within = zero-le })

pub returns-in_err-kind : goal.returns-in_err-kind
unfolding result_fields
returns-in_err-kind c =
    let none : c.from_residual-in_err-kind.result ≡ None = search rules in
    λ line. rw none (record { form = rw (c.in_ok-field.ensures.second, c.in_ok-field.ensures.first, is_value _ _ c.asked_of.ensures c.in_ok-word.was, is_none_lem _ c.value_below.ensures c.in_err-kind.was); within = zero-le })

pub overflow_cast-result : goal.overflow_cast-result
overflow_cast-result c = omega (arith, value_fits _ _ _ (is_value _ _ c.value_below.ensures c.in_ok-kind.was))

pub returns : goal.returns
unfolding result_fields
returns c = λ line. record { form = rw (c.in_ok-field.ensures.second, c.in_ok-field.ensures.first, is_value _ _ c.asked_of.ensures c.in_ok-word.was, is_value _ _ c.value_below.ensures c.in_ok-kind.was); within = zero-le }
