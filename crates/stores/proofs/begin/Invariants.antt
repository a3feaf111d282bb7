-- Before `i` the entries are as the round has them, from there on as they were. Assumes nothing.
use Rattle.std.proofs.Common.{◌≡◌, ◌++◌, length, take, drop}
use Rattle.stores.specs.Stores.{most_stored, is_due, begun}
use Rattle.stores.proofs.begin.Given as goal

abbrev pub invariant-loop-i : goal.invariant-loop-i
invariant-loop-i l = record {
  full : length l.entries ≡ most_stored;
  begun_so_far : l.entries ≡ begun (is_due l.radio l.about) (take l.i l.radio.entries) ++ drop l.i l.radio.entries;
}
