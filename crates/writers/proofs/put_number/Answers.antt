-- A number and room leave the digit writer nothing to refuse. Assumes nothing.
use Rattle.std.proofs.Common.{arith}
use Rattle.answers.proofs.Parts.{counted_stands, stands_within, stands_room, stands_behind}
use Rattle.numbers.specs.Numbers.{digits_of}
use Rattle.numbers.proofs.Digits.{digits_most}
use Rattle.numbers.proofs.Writing.{written_digits}
use Rattle.writers.proofs.put_number.Goals as goal

pub unwrap-at-requires : goal.unwrap-at-requires
unwrap-at-requires c = rw (written_digits c.args.word c.args.out.now c.write_digits.result c.write_digits.new.out c.requires.word_value (omega arith) c.write_digits.ensures).0

pub slice_bounds-put-count : goal.slice_bounds-put-count
slice_bounds-put-count c = let stand = counted_stands (digits_of c.args.word) c.args.out.now (written_digits c.args.word c.args.out.now c.write_digits.result c.write_digits.new.out c.requires.word_value (omega arith) c.write_digits.ensures) c.unwrap-at.ensures in stands_within stand

pub slice_bounds-put-start : goal.slice_bounds-put-start
slice_bounds-put-start c = let stand = counted_stands (digits_of c.args.word) c.args.out.now (written_digits c.args.word c.args.out.now c.write_digits.result c.write_digits.new.out c.requires.word_value (omega arith) c.write_digits.ensures) c.unwrap-at.ensures in stands_within stand

pub put-requires : goal.put-requires
put-requires c = let stand = counted_stands (digits_of c.args.word) c.args.out.now (written_digits c.args.word c.args.out.now c.write_digits.result c.write_digits.new.out c.requires.word_value (omega arith) c.write_digits.ensures) c.unwrap-at.ensures in omega (arith, stands_room stand, stand.count, digits_most c.args.word c.requires.word_value)

pub overflow_add-result : goal.overflow_add-result
overflow_add-result c = let stand = counted_stands (digits_of c.args.word) c.args.out.now (written_digits c.args.word c.args.out.now c.write_digits.result c.write_digits.new.out c.requires.word_value (omega arith) c.write_digits.ensures) c.unwrap-at.ensures in omega (arith, stand.count, digits_most c.args.word c.requires.word_value, c.put.ensures.count)

pub returns : goal.returns
returns c = let stand = counted_stands (digits_of c.args.word) c.args.out.now (written_digits c.args.word c.args.out.now c.write_digits.result c.write_digits.new.out c.requires.word_value (omega arith) c.write_digits.ensures) c.unwrap-at.ensures in stands_behind stand c.put.ensures
