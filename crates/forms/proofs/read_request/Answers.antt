-- Assumes nothing.
use Rattle.std.proofs.Common.{◌≡◌, None, zero-le, arith, rules}
use Rattle.forms.specs.Lines.{request_form}
use Rattle.forms.proofs.Places.{parted}
use Rattle.forms.proofs.Reading.{is_value, is_none_lem}
use Rattle.forms.proofs.read_request.Goals as goal

pub returns-in_err-field : goal.returns-in_err-field
unfolding request_form
returns-in_err-field c =
    let none : c.from_residual.result ≡ None = search rules in
    rw none (record { form = rw (rw c.in_err-field.was at c.split_at_space.ensures); within = zero-le })

pub returns-in_err-word : goal.returns-in_err-word
unfolding request_form
returns-in_err-word c =
    let none : c.from_residual-in_err-word.result ≡ None = search rules in
    rw none (record { form = rw (c.in_ok-field.ensures.second, c.in_ok-field.ensures.first, is_none_lem _ c.asked_of.ensures c.in_err-word.was); within = zero-le })

pub overflow_sub-result : goal.overflow_sub-result
overflow_sub-result c = (parted c.in_ok-field.ensures).0

pub returns : goal.returns
unfolding request_form
returns c =
    let p = parted c.in_ok-field.ensures in
    record { form = rw (c.in_ok-field.ensures.second, c.in_ok-field.ensures.first, is_value _ _ c.asked_of.ensures c.in_ok-word.was, p.1); within = omega arith }
