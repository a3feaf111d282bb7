use Rattle.std.proofs.Common.{◌≡◌, ℕ, ◌≤◌, Bool, true, false, not, ◌&&◌, eqb, length, sym, refl, ap, ◌∙◌, arith, length-take, le-ltb, lt-ltb}
use borrow.Author.Tests.{eqb-false, not-true}
use Rattle.answers.proofs.Tests.{and_left}
use Rattle.strings.specs.Outcomes.{writer_room}
use Rattle.stores.specs.declared.Radio.{Radio}
use Rattle.stores.specs.declared.Verdict.{Verdict}
use Rattle.stores.specs.Stores.{most_stored, entries_in, entry_sound, every, open_of, radio_sound, settled}
use Rattle.stores.proofs.Soundness.{sound_is}
use Rattle.stores.proofs.Stored.{sound_settled, length_settled, open_known}
use Rattle.radio.specs.Radio.{Outcome, asks_next, is_open, replying}
use Rattle.radio.proofs.Asked.{held_asks, held_next}
use Rattle.radio.proofs.replied.Goals as goal

-- whether the reply is the open question's, as the code tests it
tested : (radio : Radio) (invoke : ℕ) (r b : Bool) → r ≡ not (eqb (open_of (entries_in radio)) 0) → (r && eqb invoke radio.invoke) ≡ b → is_open radio invoke ≡ b
tested radio invoke r b e t = ap (λ (x : Bool). x && eqb invoke radio.invoke) (sym e) ∙ t

is_asked : (radio : Radio) (invoke : ℕ) → is_open radio invoke ≡ true → open_of (entries_in radio) ≡ 0 → ⊥
is_asked radio invoke h = eqb-false (open_of (entries_in radio)) 0 (not-true _ (and_left (not (eqb (open_of (entries_in radio)) 0)) (eqb invoke radio.invoke) h))

-- what the answer leaves is no more, and each is sound
few : (radio : Radio) (v : Verdict) → radio_sound radio ≡ true → length (settled v (entries_in radio)) ≤ most_stored
few radio v sound = omega (arith, length_settled v (entries_in radio), length-take radio.count radio.entries, (sound_is radio sound).few)

fits : (radio : Radio) (v : Verdict) → radio_sound radio ≡ true → every entry_sound (settled v (entries_in radio)) ≡ true
fits radio v sound = sound_settled v (entries_in radio) (sound_is radio sound).entries

pub returns-then-not-sound : goal.returns-then-not-sound
unfolding replying
returns-then-not-sound c = rw (sym c.sound.ensures ∙ c.if-not-sound.true) (c.refused.ensures, refl)

pub returns-then-question-lt-WRITER_ROOM : goal.returns-then-question-lt-WRITER_ROOM
unfolding replying
returns-then-question-lt-WRITER_ROOM c =
    rw (sym c.sound.ensures ∙ c.if-not-sound.false, lt-ltb (length c.args.question.now) writer_room c.if-question-lt-WRITER_ROOM.true)
    (c.refused-then-question-lt-WRITER_ROOM.ensures, refl)

pub entries_in-requires : goal.entries_in-requires
entries_in-requires c = (sound_is c.args.radio (sym c.sound.ensures ∙ c.if-not-sound.false)).few

pub returns-then-not-open-invoke : goal.returns-then-not-open-invoke
unfolding replying
returns-then-not-open-invoke c =
    let radio = c.args.radio in
    let sound = sym c.sound.ensures ∙ c.if-not-sound.false in
    let o = rw c.entries_in.ensures at c.open_number.ensures in
    let known = c.is_some-open.ensures ∙ open_known c.open_number.result (entries_in radio) (sound_is radio sound).entries o.number o.stored in
    rw (sound, le-ltb (length c.args.question.now) writer_room c.if-question-lt-WRITER_ROOM.false, tested radio c.args.invoke _ false known c.if-not-open-invoke.true)
    (c.refused-then-not-open-invoke.ensures, refl)

pub settle-requires-clause-fact : goal.settle-requires-clause-fact
settle-requires-clause-fact c =
    let radio = c.args.radio in
    let sound = sym c.sound.ensures ∙ c.if-not-sound.false in
    let o = rw c.entries_in.ensures at c.open_number.ensures in
    let known = c.is_some-open.ensures ∙ open_known c.open_number.result (entries_in radio) (sound_is radio sound).entries o.number o.stored in
    is_asked radio c.args.invoke (tested radio c.args.invoke _ true known c.if-not-open-invoke.false)

pub ask_next-requires-clause-asks : goal.ask_next-requires-clause-asks
ask_next-requires-clause-asks c =
    let radio = c.args.radio in
    let v = c.verdict-verdict.result in
    let sound = sym c.sound.ensures ∙ c.if-not-sound.false in
    rw c.settle.ensures (held_asks radio radio.invoke (settled v (entries_in radio)) (few radio v sound) (fits radio v sound))

pub returns : goal.returns
unfolding replying
returns c =
    let radio = c.args.radio in
    let question = c.args.question.now in
    let v = c.verdict-verdict.result in
    let sound = sym c.sound.ensures ∙ c.if-not-sound.false in
    let o = rw c.entries_in.ensures at c.open_number.ensures in
    let known = c.is_some-open.ensures ∙ open_known c.open_number.result (entries_in radio) (sound_is radio sound).entries o.number o.stored in
    let opened = tested radio c.args.invoke _ true known c.if-not-open-invoke.false in
    let next = ap (λ (r : Radio). asks_next 0 r (entries_in r) question) c.settle.ensures
    ∙ held_next radio radio.invoke (settled v (entries_in radio)) (few radio v sound) (fits radio v sound) 0 question refl
    ∙ ap (λ (w : Verdict). asks_next 0 radio (settled w (entries_in radio)) question) c.verdict-verdict.ensures in
    rw (sound, le-ltb (length question) writer_room c.if-question-lt-WRITER_ROOM.false, opened)
    (c.ask_next.ensures.0 ∙ ap (λ (o : Outcome). o.next) next, c.ask_next.ensures.1 ∙ ap (λ (o : Outcome). o.question) next)
