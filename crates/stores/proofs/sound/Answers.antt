use Rattle.std.proofs.Common.{◌≡◌, refl, sym, ◌||◌, Bool, ap, ◌∙◌, arith, ◌-◌, length, take, drop, Option}
use Rattle.std.specs.Prelude.{Some, None}
use Rattle.std.specs.Option.{unwrap_or}
use lib.ListN.{length-drop}
use lib.Seq.{take_all}
use Prim.Native.Nat.{ℕ}
use mathlib.Core.List.{List}
use borrow.Author.Tests.{le-leb}
use Rattle.answers.proofs.Tests.{no_path, and_left, and_right, and_both}
use Rattle.stores.specs.declared.Entry.{Entry}
use Rattle.stores.specs.Places.{said_open}
use Rattle.stores.specs.Stores.{most_stored, is_hand_held, entries_in, root_of, is_flag, entry_sound, every, none_twice, radio_sound, is_of}
use Rattle.stores.proofs.Soundness.{unsound}
use Rattle.stores.proofs.sound.Goals as goal

-- the number that is said, or 0
open_or : (o : Option ℕ) → unwrap_or o 0 ≡ said_open o
open_or None = refl
open_or (Some n) = refl

-- a slice from a place to the end
behind : (es : List Entry) (n : ℕ) → take (length es - n) (drop n es) ≡ drop n es
behind es n = take_all (length es - n) (drop n es) (omega (arith, length-drop n es))

pub returns-then-radio-gt-MOST_STORED : goal.returns-then-radio-gt-MOST_STORED
returns-then-radio-gt-MOST_STORED c = sym (unsound c.args.radio (λ s. omega (arith, s.few)))

pub returns-then-not-is_number-radio : goal.returns-then-not-is_number-radio
returns-then-not-is_number-radio c =
    let radio = c.args.radio in
    sym (unsound radio (λ s. no_path (sym c.if-not-is_number-radio.true ∙ and_both c.is_number.result (is_flag radio.hand_held) (c.is_number.ensures ∙ s.own) s.kind)))

pub returns-then-not-entries_sound : goal.returns-then-not-entries_sound
returns-then-not-entries_sound c =
    let radio = c.args.radio in
    let e = rw c.entries_in-entries.ensures at c.entries_sound.ensures in
    sym (unsound radio (λ s. no_path (sym c.if-not-entries_sound.true ∙ e ∙ and_both (every entry_sound (entries_in radio)) (none_twice (entries_in radio)) s.entries s.once)))

pub returns-then-not-rest_blank : goal.returns-then-not-rest_blank
returns-then-not-rest_blank c =
    let radio = c.args.radio in
    let e = rw (behind radio.entries radio.count) at c.rest_blank.ensures in
    sym (unsound radio (λ s. no_path (sym c.if-not-rest_blank.true ∙ e ∙ s.rest)))

pub returns : goal.returns
unfolding radio_sound
returns c =
    let radio = c.args.radio in
    let first = c.if-not-is_number-radio.false in
    let sounds = sym (rw c.entries_in-entries.ensures at c.entries_sound.ensures) ∙ c.if-not-entries_sound.false in
    let blank = sym (rw (behind radio.entries radio.count) at c.rest_blank.ensures) ∙ c.if-not-rest_blank.false in
    let root = c.of_root.ensures ∙ ap (λ (n : ℕ). every (is_of (root_of n)) c.entries_in-entries.result.now) (c.unwrap_or-root.ensures ∙ open_or c.open_number.result ∙ c.open_number.ensures.number) in
    rw (
      sym c.is_number.ensures ∙ and_left c.is_number.result (is_flag radio.hand_held) first,
      and_right c.is_number.result (is_flag radio.hand_held) first,
      le-leb radio.count most_stored (omega arith),
      and_left (every entry_sound (entries_in radio)) (none_twice (entries_in radio)) sounds,
      and_right (every entry_sound (entries_in radio)) (none_twice (entries_in radio)) sounds,
      blank,
    )
    (ap (λ (b : Bool). is_hand_held radio || b) (rw c.entries_in-entries.ensures at root))
