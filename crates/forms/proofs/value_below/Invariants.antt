-- The value read so far is below the limit, and with the digits that are left makes the field's. Assumes nothing.
use Rattle.std.proofs.Common.{◌≡◌, ◌<◌, true, drop}
use Rattle.numbers.specs.Numbers.{are_digits, pushed}
use Rattle.forms.proofs.value_below.Given as goal

abbrev pub invariant-loop-digit : goal.invariant-loop-digit
invariant-loop-digit l = record {
  below : l.value < l.limit;
  digits : are_digits (drop l.digit-index l.field) ≡ true;
  same : pushed l.value (drop l.digit-index l.field) ≡ pushed 0 l.field;
}
