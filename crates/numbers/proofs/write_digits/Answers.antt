-- Assumes nothing.
use Rattle.std.proofs.Common.{sym, ◌∙◌, arith}
use Rattle.numbers.proofs.Digits.{digits_most, digits_least}
use Rattle.numbers.proofs.Writing.{digits_short, digits_unfit, digits_good}
use Rattle.numbers.proofs.write_digits.Goals as goal

pub returns-then-out-lt-MOST_DIGITS : goal.returns-then-out-lt-MOST_DIGITS
returns-then-out-lt-MOST_DIGITS c = let a = c.args in digits_short a.word a.out.now (omega arith)

pub returns-then-not-is_number : goal.returns-then-not-is_number
returns-then-not-is_number c = let a = c.args in digits_unfit a.word a.out.now (omega arith) (sym c.is_number.ensures ∙ c.if-not-is_number.true)

pub write_last-requires-clause-n_bound : goal.write_last-requires-clause-n_bound
write_last-requires-clause-n_bound c = rw c.count_digits-n.ensures (digits_least c.args.word (sym c.is_number.ensures ∙ c.if-not-is_number.false))

pub write_last-requires-clause-n_in_bounds : goal.write_last-requires-clause-n_in_bounds
write_last-requires-clause-n_in_bounds c = omega (arith, c.count_digits-n.ensures, digits_most c.args.word (sym c.is_number.ensures ∙ c.if-not-is_number.false))

pub returns : goal.returns
returns c =
    let a = c.args in
    digits_good a.word c.count_digits-n.result a.out.now _ (omega arith) (sym c.is_number.ensures ∙ c.if-not-is_number.false) c.count_digits-n.ensures c.write_last.ensures
