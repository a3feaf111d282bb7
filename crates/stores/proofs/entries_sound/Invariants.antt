-- The entries from `i` on are sound exactly if all of them are. Assumes nothing.
use Rattle.std.proofs.Common.{◌≡◌, ◌&&◌, drop}
use Rattle.stores.specs.Stores.{entry_sound, every, none_twice}
use Rattle.stores.proofs.entries_sound.Given as goal

abbrev pub invariant-loop-i : goal.invariant-loop-i
invariant-loop-i l =
    (every entry_sound l.entries && none_twice l.entries) ≡ (every entry_sound (drop l.i l.entries) && none_twice (drop l.i l.entries))
