-- What was read so far, with the digits that are left put behind it, is the stored form of all. Assumes nothing.
use Rattle.std.proofs.Common.{◌≡◌, true, drop}
use Rattle.numbers.specs.Numbers.{are_digits, pushed, stored_form}
use Rattle.numbers.proofs.stored_of.Given as goal

abbrev pub invariant-loop-digit : goal.invariant-loop-digit
invariant-loop-digit l = record {
  digits : are_digits (drop l.digit-index l.digits) ≡ true;
  same : pushed l.word (drop l.digit-index l.digits) ≡ stored_form l.digits;
}
