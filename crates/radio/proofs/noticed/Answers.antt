use Rattle.std.proofs.Common.{◌≡◌, ℕ, ◌≤◌, true, length, sym, refl, ap, ◌∙◌, arith, length-take, le-ltb, lt-ltb, eq-eqb, ne_eqb}
use Rattle.strings.specs.Outcomes.{writer_room}
use Rattle.strings.specs.Notices.{notice_string_of}
use Rattle.stores.specs.declared.Radio.{Radio}
use Rattle.stores.specs.Stores.{most_stored, entries_in, entry_sound, every, radio_sound, is_due, begun}
use Rattle.stores.proofs.Soundness.{sound_is}
use Rattle.stores.proofs.Begun.{begun_length}
use Rattle.stores.proofs.Stored.{sound_begun}
use Rattle.radio.specs.Radio.{Outcome, asks_next, notice_of, noticing}
use Rattle.radio.proofs.Asked.{held_asks, held_next}
use Rattle.radio.proofs.Named.{unread, named_some}
use Rattle.radio.proofs.noticed.Goals as goal

-- the round that begins is of no more numbers, and each is sound
few : (radio : Radio) (about : ℕ) → radio_sound radio ≡ true → length (begun (is_due radio about) (entries_in radio)) ≤ most_stored
few radio about sound = omega (arith, begun_length (is_due radio about) (entries_in radio), length-take radio.count radio.entries, (sound_is radio sound).few)

fits : (radio : Radio) (about : ℕ) → radio_sound radio ≡ true → every entry_sound (begun (is_due radio about) (entries_in radio)) ≡ true
fits radio about sound = sound_begun (is_due radio about) (entries_in radio) (sound_is radio sound).entries

pub returns-then-not-sound : goal.returns-then-not-sound
unfolding noticing
returns-then-not-sound c = rw (sym c.sound.ensures ∙ c.if-not-sound.true) (c.refused.ensures, refl)

pub returns-then-question-lt-WRITER_ROOM : goal.returns-then-question-lt-WRITER_ROOM
unfolding noticing
returns-then-question-lt-WRITER_ROOM c =
    rw (sym c.sound.ensures ∙ c.if-not-sound.false, lt-ltb (length c.args.question.now) writer_room c.if-question-lt-WRITER_ROOM.true)
    (c.refused-then-question-lt-WRITER_ROOM.ensures, refl)

pub returns-in_default : goal.returns-in_default
unfolding noticing
returns-in_default c =
    let none : notice_of c.args.string.now ≡ 0 = unread (notice_string_of c.args.string.now) (sym c.read_notice.ensures ∙ c.in_default.is) in
    rw (sym c.sound.ensures ∙ c.if-not-sound.false, le-ltb (length c.args.question.now) writer_room c.if-question-lt-WRITER_ROOM.false, eq-eqb (notice_of c.args.string.now) 0 none)
    (c.refused-in_default.ensures, refl)

pub ask_next-requires-clause-asks : goal.ask_next-requires-clause-asks
ask_next-requires-clause-asks c =
    let radio = c.args.radio in
    let sound = sym c.sound.ensures ∙ c.if-not-sound.false in
    rw c.begin.ensures (held_asks radio radio.invoke (begun (is_due radio c.in-Some.number.0) (entries_in radio)) (few radio c.in-Some.number.0 sound) (fits radio c.in-Some.number.0 sound))

pub returns : goal.returns
unfolding noticing
returns c =
    let radio = c.args.radio in
    let question = c.args.question.now in
    let about = c.in-Some.number.0 in
    let sound = sym c.sound.ensures ∙ c.if-not-sound.false in
    let is = named_some c.args.string.now _ _ (sym c.read_notice.ensures ∙ c.in-Some.is) in
    let next = ap (λ (r : Radio). asks_next 1 r (entries_in r) question) c.begin.ensures
    ∙ held_next radio radio.invoke (begun (is_due radio about) (entries_in radio)) (few radio about sound) (fits radio about sound) 1 question refl
    ∙ ap (λ (m : ℕ). asks_next 1 radio (begun (is_due radio m) (entries_in radio)) question) (sym is.0) in
    rw (sound, le-ltb (length question) writer_room c.if-question-lt-WRITER_ROOM.false, ne_eqb (notice_of c.args.string.now) 0 is.1)
    (c.ask_next.ensures.0 ∙ ap (λ (o : Outcome). o.next) next, c.ask_next.ensures.1 ∙ ap (λ (o : Outcome). o.question) next)
