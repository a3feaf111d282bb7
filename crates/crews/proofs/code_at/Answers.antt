-- Both characters are digits. Assumes nothing.
use Rattle.crews.proofs.Reading.{pair}
use Rattle.crews.proofs.code_at.Goals as goal

pub overflow_sub-digits : goal.overflow_sub-digits
overflow_sub-digits c = (pair c.args.digits.now c.args.i c.requires.digits_value c.requires.i_in_bounds).tens_low

pub overflow_sub-digits-2 : goal.overflow_sub-digits-2
overflow_sub-digits-2 c = (pair c.args.digits.now c.args.i c.requires.digits_value c.requires.i_in_bounds).ones_low
