-- Assumes nothing.
use Rattle.std.proofs.Common.{◌≡◌, ℕ, ◌+◌, ◌-◌, ◌*◌, ◌^◌, ◌<◌, ◌≤◌, true, List, length, get_or, drop, refl, arith, drop_of_length-le}
use Rattle.numbers.specs.Numbers.{most_digits, are_digits, pushed, stored_form}
use Rattle.numbers.proofs.Reading.{Turn, turn, stored_fits}
use Rattle.numbers.proofs.stored_of.Goals as goal

-- one digit more
record Step (cs : List ℕ) (i w : ℕ) : Type 0 where
  turned : Turn cs i w (stored_form cs)
  fits : 10 * w + (get_or cs i 0 - 48) < 2 * 10 ^ most_digits

step :
    (cs : List ℕ) (i w : ℕ) → are_digits cs ≡ true → length cs ≤ most_digits → i < length cs → are_digits (drop i cs) ≡ true
    → pushed w (drop i cs) ≡ stored_form cs → Step cs i w
step cs i w h m l d e =
    let t = turn cs i w (stored_form cs) l d e in
    record { turned = t; fits = stored_fits cs (drop (i + 1) cs) _ h m t.same }

pub loop-digit-init : goal.loop-digit-init
unfolding stored_form
loop-digit-init c = record { digits = c.requires.digits_value; same = refl }

pub overflow_mul-word : goal.overflow_mul-word
overflow_mul-word c =
    let s = step c.args.digits.now c.loop-digit.digit-index c.loop-digit.word c.requires.digits_value c.requires.digits_len_bound c.loop-digit-test.true c.loop-digit.invariant.digits c.loop-digit.invariant.same in
    omega (arith, s.fits)

pub overflow_sub-digit : goal.overflow_sub-digit
overflow_sub-digit c =
    let s = step c.args.digits.now c.loop-digit.digit-index c.loop-digit.word c.requires.digits_value c.requires.digits_len_bound c.loop-digit-test.true c.loop-digit.invariant.digits c.loop-digit.invariant.same in
    s.turned.low

pub overflow_add-word : goal.overflow_add-word
overflow_add-word c =
    let s = step c.args.digits.now c.loop-digit.digit-index c.loop-digit.word c.requires.digits_value c.requires.digits_len_bound c.loop-digit-test.true c.loop-digit.invariant.digits c.loop-digit.invariant.same in
    omega (arith, s.fits, c.from.ensures)

pub loop-digit-preserved : goal.loop-digit-preserved
loop-digit-preserved c =
    let s = step c.args.digits.now c.loop-digit.digit-index c.loop-digit.word c.requires.digits_value c.requires.digits_len_bound c.loop-digit-test.true c.loop-digit.invariant.digits c.loop-digit.invariant.same in
    record { digits = s.turned.digits; same = rw c.from.ensures s.turned.same }

pub returns : goal.returns
unfolding pushed
returns c = rw (drop_of_length-le c.args.digits.now {i = c.loop-digit.digit-index} (omega arith)) at c.loop-digit.invariant.same
