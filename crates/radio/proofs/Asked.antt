-- The next question of a radio, as the code asks it. Assumes nothing.
use Rattle.std.proofs.Common.{◌≡◌, ℕ, ◌-◌, ◌≤◌, true, List, length, replicate, sym, refl, ◌∙◌, take-append-drop, length-take-le, eq-eqb, ne_eqb}
use lib.Seq.{drop-append_seam}
use Rattle.answers.specs.Leading.{each}
use Rattle.answers.specs.Begins.{begins}
use Rattle.answers.specs.Writing.{over}
use Rattle.numbers.specs.Numbers.{is_number}
use Rattle.crews.specs.Crews.{count_of}
use Rattle.packing.specs.Packing.{packed}
use Rattle.strings.specs.Text.{request_sound, text_of}
use Rattle.stores.specs.declared.Entry.{Entry}
use Rattle.stores.specs.declared.Radio.{Radio}
use Rattle.stores.specs.Stores.{most_stored, entries_in, entry_sound, blank, every, open_of, laid, holding}
use Rattle.stores.proofs.Laid.{laid_front}
use Rattle.stores.proofs.Stored.{blanks_blank, entries_held}
use Rattle.radio.specs.Radio.{Outcome, doing, next_of, next_invoke, question_of, asks_next, interrogation}
use Rattle.radio.specs.Asking.{Asks}

-- an interrogation keeps the string's rules
pub question_sound : (number : ℕ) → is_number number ≡ true → request_sound (interrogation number) ≡ true
unfolding request_sound each begins count_of
question_sound number h = rw h

pub question_is : (number : ℕ) → packed (text_of (interrogation number)) ≡ question_of number
unfolding question_of
question_is number = refl

-- the radio with another last invoke number
abbrev pub invoking : Radio → ℕ → Radio
invoking radio invoke = record { own = radio.own; count = radio.count; entries = radio.entries; hand_held = radio.hand_held; invoke = invoke }

module _ (respond : ℕ) (radio : Radio) (full : length radio.entries ≡ most_stored) (a : Asks radio) (question : List ℕ) where
  abbrev es : List Entry
  es = entries_in radio

  abbrev o : Outcome
  o = asks_next respond radio es question

  held : (invoke : ℕ) → holding radio invoke es ≡ invoking radio invoke
  held invoke =
      let size = length-take-le radio.count radio.entries (rw full a.few) in
      let same : laid es ≡ radio.entries = sym (laid_front radio.entries full radio.count a.few a.rest es size) ∙ take-append-drop radio.count radio.entries in
      rw (same, size) refl

  pub asks_none : open_of es ≡ 0 → o ≡ record { next = next_of radio (doing 0 respond 0 0); question = question }
  asks_none e = rw (eq-eqb (open_of es) 0 e, held radio.invoke) refl

  pub asks_one : (open_of es ≡ 0 → ⊥) → (invoke octets : ℕ) → invoke ≡ next_invoke radio.invoke → octets ≡ length (question_of (open_of es))
      → o ≡ record { next = next_of (invoking radio invoke) (doing 0 respond invoke octets); question = over (question_of (open_of es)) question }
  asks_one e invoke octets p q = rw (ne_eqb (open_of es) 0 e, held (next_invoke radio.invoke), p, q) refl

-- what is held may be asked, and asks what was put there
module _ (radio : Radio) (invoke : ℕ) (new : List Entry) (few : length new ≤ most_stored) (sound : every entry_sound new ≡ true) where
  pub held_asks : Asks (holding radio invoke new)
  held_asks = record {
    few = few;
    entries = rw (entries_held radio invoke new) sound;
    rest = rw (drop-append_seam new (replicate (most_stored - length new) blank)) (blanks_blank (most_stored - length new));
  }

  pub held_next : (respond : ℕ) (question : List ℕ) → invoke ≡ radio.invoke
      → asks_next respond (holding radio invoke new) (entries_in (holding radio invoke new)) question ≡ asks_next respond radio new question
  held_next respond question e = rw (entries_held radio invoke new, e) refl
