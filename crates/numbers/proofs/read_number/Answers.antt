-- Assumes nothing.
use Rattle.std.proofs.Common.{◌≡◌, ℕ, List, sym, arith, length-take-le}
use Rattle.answers.proofs.Leading.{Front, leading_front}
use Rattle.numbers.specs.Numbers.{is_digit, leading_digits}
use Rattle.numbers.proofs.Reading.{too_few, too_many, reads}
use Rattle.numbers.proofs.read_number.Goals as goal

pub returns-then-n-lt-FEWEST_DIGITS : goal.returns-then-n-lt-FEWEST_DIGITS
returns-then-n-lt-FEWEST_DIGITS c = sym (too_few _ c.leading_digits-n.result c.leading_digits-n.ensures (omega arith))

pub returns-then-n-gt-MOST_DIGITS : goal.returns-then-n-gt-MOST_DIGITS
returns-then-n-gt-MOST_DIGITS c = let d = c.leading_digits-n in sym (too_many _ d.result d.ensures (omega arith))

-- what was counted stands at the front
counted : (part : List ℕ) (n : ℕ) → n ≡ leading_digits part → Front is_digit n part
counted part n e = rw e (leading_front is_digit part)

pub slice_bounds-stored_of-end : goal.slice_bounds-stored_of-end
slice_bounds-stored_of-end c = sym (length-take-le c.leading_digits-n.result c.args.part.now (counted _ _ c.leading_digits-n.ensures).within)

pub stored_of-requires-clause-digits_value : goal.stored_of-requires-clause-digits_value
stored_of-requires-clause-digits_value c = (counted _ _ c.leading_digits-n.ensures).passes

pub returns : goal.returns
returns c =
    let n = c.leading_digits-n in
    sym (reads c.args.part.now c.stored_of.result n.result n.ensures (omega arith) (omega arith) c.stored_of.ensures)
