use Rattle.std.proofs.Common.{◌≡◌, ℕ, ap, refl, sym, ◌∙◌, arith, rules, length, set, get_or}
use lib.ListN.{length-set}
use lib.Seq.{length-take-le}
use Rattle.stores.specs.Stores.{most_stored, entries_in, blank, entry_of, is_due, begun}
use Rattle.stores.proofs.Soundness.{sound_is}
use Rattle.stores.proofs.Laid.{unmapped, laid_front, held_as}
use Rattle.stores.proofs.Begun.{begun_length, begun_next}
use Rattle.stores.proofs.begin.Goals as goal

pub loop-i-init : goal.loop-i-init
unfolding begun
loop-i-init c = record { full = search (rules, unmapped); begun_so_far = refl }

pub bounds-entries-i : goal.bounds-entries-i
bounds-entries-i c = omega (arith, (sound_is c.args.radio c.requires).few)

pub offset_bounds-entries-i : goal.offset_bounds-entries-i
offset_bounds-entries-i c = omega (arith, (sound_is c.args.radio c.requires).few)

pub bounds-entries-i-in-loop-i : goal.bounds-entries-i-in-loop-i
bounds-entries-i-in-loop-i c = omega (arith, (sound_is c.args.radio c.requires).few)

pub bounds-entries-i-in-loop-i-2 : goal.bounds-entries-i-in-loop-i-2
bounds-entries-i-in-loop-i-2 c = omega (arith, (sound_is c.args.radio c.requires).few)

pub bounds-entries-i-in-loop-i-3 : goal.bounds-entries-i-in-loop-i-3
bounds-entries-i-in-loop-i-3 c = omega (arith, (sound_is c.args.radio c.requires).few)

pub offset_bounds-entries-i-in-loop-i : goal.offset_bounds-entries-i-in-loop-i
offset_bounds-entries-i-in-loop-i c = omega (arith, (sound_is c.args.radio c.requires).few)

pub offset_bounds-entries-i-in-loop-i-2 : goal.offset_bounds-entries-i-in-loop-i-2
offset_bounds-entries-i-in-loop-i-2 c = omega (arith, (sound_is c.args.radio c.requires).few)

pub loop-i-preserved : goal.loop-i-preserved
loop-i-preserved c =
    let radio = c.args.radio in
    let full : length radio.entries ≡ most_stored = search (rules, unmapped) in
    let few = (sound_is radio c.requires).few in
    let e = get_or c.loop-i.entries c.loop-i.i blank in record {
      full = length-set c.loop-i.entries c.loop-i.i _ ∙ c.loop-i.invariant.full;
      begun_so_far =
          ap (λ (f : ℕ). set c.loop-i.entries c.loop-i.i (entry_of e.number e.unsure f)) c.due_flag-to_ask.ensures
          ∙ begun_next (is_due radio c.args.about) radio.entries c.loop-i.entries c.loop-i.i (omega arith) c.loop-i.invariant.begun_so_far;
    }

pub returns : goal.returns
returns c =
    let radio = c.args.radio in
    let s = sound_is radio c.requires in
    let due = is_due radio c.args.about in
    let full : length radio.entries ≡ most_stored = search (rules, unmapped) in
    let size = begun_length due (entries_in radio) ∙ length-take-le radio.count radio.entries (rw full s.few) in
    let end : c.loop-i.i ≡ radio.count = omega arith in
    held_as radio (begun due (entries_in radio)) c.loop-i.entries radio.count (sym size)
    (rw end at c.loop-i.invariant.begun_so_far ∙ laid_front radio.entries full radio.count s.few s.rest (begun due (entries_in radio)) size)
