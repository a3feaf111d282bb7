-- The digits that are left, and what stands behind them, are what is to be written. Assumes nothing.
use Rattle.std.proofs.Common.{◌≡◌, ◌^◌, ◌≤◌, ◌++◌, drop}
use Rattle.numbers.specs.Numbers.{digits_up_to}
use Rattle.numbers.proofs.write_last.Given as goal

abbrev pub invariant-loop-at : goal.invariant-loop-at
invariant-loop-at l = record {
  left : 10 ^ l.at ≤ l.rest;
  written : digits_up_to l.n l.word ++ drop l.n l.initial.out ≡ digits_up_to l.at l.rest ++ drop l.at l.out;
}
