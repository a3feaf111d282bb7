-- Assumes nothing.
use Rattle.std.proofs.Common.{◌+◌, ◌*◌, drop, refl, sym, ◌∙◌, arith}
use Rattle.numbers.specs.Numbers.{pushed}
use Rattle.numbers.proofs.Reading.{turn}
use Rattle.forms.proofs.Digits.{digits_all, value_end, value_unread, value_over, value_read}
use Rattle.forms.proofs.value_below.Goals as goal

pub returns-then-not-is_digits : goal.returns-then-not-is_digits
returns-then-not-is_digits c = sym (value_unread _ _ (sym c.is_digits.ensures ∙ c.if-not-is_digits.true))

pub loop-digit-init : goal.loop-digit-init
loop-digit-init c = record { below = omega arith; digits = digits_all _ (sym c.is_digits.ensures ∙ c.if-not-is_digits.false); same = refl }

pub overflow_sub-digit : goal.overflow_sub-digit
overflow_sub-digit c =
    let t = turn c.args.field.now c.loop-digit.digit-index c.loop-digit.value (pushed 0 c.args.field.now) c.loop-digit-test.true c.loop-digit.invariant.digits c.loop-digit.invariant.same in
    t.low

pub returns-then-limit-value : goal.returns-then-limit-value
returns-then-limit-value c =
    let t = turn c.args.field.now c.loop-digit.digit-index c.loop-digit.value (pushed 0 c.args.field.now) c.loop-digit-test.true c.loop-digit.invariant.digits c.loop-digit.invariant.same in
    sym (value_over _ (10 * c.loop-digit.value + c.from.result) _ (drop (c.loop-digit.digit-index + 1) c.args.field.now) c.if-limit-value.true (rw c.from.ensures t.same))

pub loop-digit-preserved : goal.loop-digit-preserved
loop-digit-preserved c =
    let t = turn c.args.field.now c.loop-digit.digit-index c.loop-digit.value (pushed 0 c.args.field.now) c.loop-digit-test.true c.loop-digit.invariant.digits c.loop-digit.invariant.same in
    record { below = c.if-limit-value.false; digits = t.digits; same = rw c.from.ensures t.same }

pub returns : goal.returns
returns c =
    let i = c.loop-digit.invariant in
    sym (value_read _ _ _ (sym c.is_digits.ensures ∙ c.if-not-is_digits.false) i.below (value_end _ c.loop-digit.digit-index _ (omega arith) i.same))
