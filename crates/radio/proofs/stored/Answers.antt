use Rattle.std.proofs.Common.{sym, ◌∙◌, arith, eq-eqb, ne_eqb}
use Rattle.stores.proofs.Soundness.{sound_is}
use Rattle.radio.specs.Radio.{storing}
use Rattle.radio.proofs.stored.Goals as goal

pub returns-then-not-sound : goal.returns-then-not-sound
unfolding storing
returns-then-not-sound c = rw (sym c.sound.ensures ∙ c.if-not-sound.true) c.refused.ensures

pub returns-then-not-is_number : goal.returns-then-not-is_number
unfolding storing
returns-then-not-is_number c =
    rw (sym c.sound.ensures ∙ c.if-not-sound.false, sym c.is_number.ensures ∙ c.if-not-is_number.true) c.refused-then-not-is_number.ensures

pub entries_in-requires : goal.entries_in-requires
entries_in-requires c = (sound_is c.args.radio (sym c.sound.ensures ∙ c.if-not-sound.false)).few

pub returns-then-has : goal.returns-then-has
unfolding storing
returns-then-has c =
    let has = sym (rw c.entries_in.ensures at c.has.ensures) ∙ c.if-has.true in
    rw (sym c.sound.ensures ∙ c.if-not-sound.false, sym c.is_number.ensures ∙ c.if-not-is_number.false, has) c.done.ensures

pub returns-then-radio-eq-MOST_STORED : goal.returns-then-radio-eq-MOST_STORED
unfolding storing
returns-then-radio-eq-MOST_STORED c =
    let has = sym (rw c.entries_in.ensures at c.has.ensures) ∙ c.if-has.false in
    rw (sym c.sound.ensures ∙ c.if-not-sound.false, sym c.is_number.ensures ∙ c.if-not-is_number.false, has, eq-eqb _ _ c.if-radio-eq-MOST_STORED.true)
    c.refused-then-radio-eq-MOST_STORED.ensures

pub with_new-requires-clause-count_lt_most_stored : goal.with_new-requires-clause-count_lt_most_stored
with_new-requires-clause-count_lt_most_stored c = omega (arith, (sound_is c.args.radio (sym c.sound.ensures ∙ c.if-not-sound.false)).few)

pub returns : goal.returns
unfolding storing
returns c =
    let has = sym (rw c.entries_in.ensures at c.has.ensures) ∙ c.if-has.false in
    rw (sym c.sound.ensures ∙ c.if-not-sound.false, sym c.is_number.ensures ∙ c.if-not-is_number.false, has, ne_eqb _ _ c.if-radio-eq-MOST_STORED.false, sym c.with_new.ensures)
    c.done-2.ensures
