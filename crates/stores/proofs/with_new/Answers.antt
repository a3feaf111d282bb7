use Rattle.std.proofs.Common.{◌≡◌, ◌+◌, arith, rules, length}
use lib.Seq.{length-take-le}
use Rattle.stores.specs.Stores.{most_stored, entries_in, entry_of, with_new}
use Rattle.stores.proofs.Soundness.{sound_is}
use Rattle.stores.proofs.Laid.{unmapped, laid_new, held_as}
use Rattle.stores.proofs.Stored.{new_length}
use Rattle.stores.proofs.with_new.Goals as goal

pub returns : goal.returns
returns c =
    let radio = c.args.radio in
    let number = c.args.number in
    let s = sound_is radio c.requires.radio_value in
    let full : length radio.entries ≡ most_stored = search (rules, unmapped) in
    let size = length-take-le radio.count radio.entries (rw full s.few) in
    let more : radio.count + 1 ≡ length (with_new number (entries_in radio)) = omega (arith, size, new_length number (entries_in radio)) in
    held_as radio (with_new number (entries_in radio)) _ (radio.count + 1) more
    (laid_new radio.entries full radio.count (entry_of number 0 0) c.requires.count_lt_most_stored s.rest)
