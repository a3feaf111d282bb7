-- Each call: a sound radio stays sound; a refusal changes nothing; a question reads as the plain interrogation of the number that is open. Assumes nothing.
use mathlib.Core.Path.{◌≡◌, refl, sym, ◌∙◌}
use mathlib.Core.Bool.{true, false, not, cond, ◌||◌, true≢false}
use mathlib.Core.Option.{some}
use mathlib.Core.List.{List, [], ◌∷◌}
use Prim.Native.Nat.{ℕ, ◌≤◌}
use native.Mathlib.Omega.{arith}
use lib.ListN.{length, take, drop, length-append, length-drop}
use lib.Seq.{take-append_seam, drop-append_seam}
use Rattle.answers.specs.Writing.{over}
use Rattle.answers.proofs.Tests.{no_path}
use Rattle.numbers.specs.Numbers.{is_number}
use Rattle.packing.specs.Packing.{octets_for}
use Rattle.packing.proofs.Laws.{length_packed}
use Rattle.strings.specs.Text.{text_of}
use Rattle.strings.specs.Outcomes.{request_of, writer_room}
use Rattle.strings.proofs.Octets.{reads_written, octets_most}
use Rattle.stores.specs.declared.Entry.{Entry}
use Rattle.stores.specs.declared.Radio.{Radio}
use Rattle.stores.specs.Stores.{entries_in, has, open_of, radio_sound}
use Rattle.radio.specs.Radio.{Outcome, refusing, next_invoke, question_of, interrogation}
use Rattle.rounds.specs.Rounds.{Call, store, notice, reply, buffer_of, calling, end, is_accepted, is_store}
use Rattle.rounds.specs.Promised.{Buffered, Asked, Silent}
use Rattle.rounds.proofs.Sound.{sound_parts, held_sound}
use Rattle.stores.proofs.Stored.{entries_held}
use Rattle.rounds.proofs.Cases.{turned, Fits, Accepted, call_each}
use Rattle.radio.proofs.Asked.{question_sound}

-- ---- a sound radio stays sound

abbrev Stays : Call → Radio → Outcome → Type 0
Stays c radio o = radio_sound radio ≡ true → radio_sound o.next.radio ≡ true

pub sound_stays : (c : Call) (radio : Radio) → radio_sound radio ≡ true → radio_sound (calling c radio).next.radio ≡ true
sound_stays = call_each Stays (record {
  refused = λ c radio n z h. h;
  again = λ number radio s b h. h;
  rests = λ c radio a e h. held_sound radio radio.invoke (turned c radio) (sound_parts radio h).0 a.storable;
  asks = λ c radio a t room n e h. held_sound radio (next_invoke radio.invoke) (turned c radio) (sound_parts radio h).0 a.storable;
})

pub sound_along : (cs : List Call) (radio : Radio) → radio_sound radio ≡ true → radio_sound (end cs radio) ≡ true
sound_along [] radio h = h
sound_along (c ∷ cs) radio h = sound_along cs (calling c radio).next.radio (sound_stays c radio h)

-- ---- what is stored

-- what an accepted call leaves stored
abbrev pub stored_by : Call → Radio → List Entry
stored_by (store number) radio = cond (has number (entries_in radio)) (entries_in radio) (turned (store number) radio)
stored_by (notice string question) radio = turned (notice string question) radio
stored_by (reply invoke string question) radio = turned (reply invoke string question) radio

turned_stored : (c : Call) (radio : Radio) → Accepted c radio → turned c radio ≡ stored_by c radio
turned_stored (store number) radio a = rw a.fits
turned_stored (notice string question) radio a = refl
turned_stored (reply invoke string question) radio a = refl

abbrev Stores : Call → Radio → Outcome → Type 0
Stores c radio o = entries_in o.next.radio ≡ cond (is_accepted o) (stored_by c radio) (entries_in radio)

pub call_stores :
    (c : Call) (radio : Radio) → entries_in (calling c radio).next.radio ≡ cond (is_accepted (calling c radio)) (stored_by c radio) (entries_in radio)
call_stores = call_each Stores (record {
  refused = λ c radio n z. rw z;
  again = λ number radio s b. rw b;
  rests = λ c radio a e. entries_held radio radio.invoke (turned c radio) ∙ turned_stored c radio a;
  asks = λ c radio a t room n e. entries_held radio (next_invoke radio.invoke) (turned c radio) ∙ turned_stored c radio a;
})

-- ---- refusals

abbrev Refuses : Call → Radio → Outcome → Type 0
Refuses c radio o = is_accepted o ≡ false → o ≡ refusing o.next.doing.refusal radio (buffer_of c)

-- "Refusals, changing nothing"
pub refused_keeps :
    (c : Call) (radio : Radio) → is_accepted (calling c radio) ≡ false
    → calling c radio ≡ refusing (calling c radio).next.doing.refusal radio (buffer_of c)
refused_keeps = call_each Refuses (record {
  refused = λ c radio n z h. refl;
  again = λ number radio s b h. absurd (true≢false h);
  rests = λ c radio a e h. absurd (true≢false h);
  asks = λ c radio a t room n e h. absurd (true≢false h);
})

abbrev Sound : Call → Radio → Outcome → Type 0
Sound c radio o = is_accepted o ≡ true → radio_sound radio ≡ true

-- 24 comes first
pub accepted_sound : (c : Call) (radio : Radio) → is_accepted (calling c radio) ≡ true → radio_sound radio ≡ true
accepted_sound = call_each Sound (record {
  refused = λ c radio n z h. absurd (true≢false (sym h ∙ z));
  again = λ number radio s b h. s;
  rests = λ c radio a e h. a.sound;
  asks = λ c radio a t room n e h. a.sound;
})

abbrev FitsThen : Call → Radio → Outcome → Type 0
FitsThen c radio o = is_store c ≡ false → is_accepted o ≡ true → Fits c radio

-- an accepted notice or reply had room for a question; a reply came to the open question, under its invoke number
pub accepted_fits : (c : Call) (radio : Radio) → is_store c ≡ false → is_accepted (calling c radio) ≡ true → Fits c radio
accepted_fits = call_each FitsThen (record {
  refused = λ c radio n z t h. absurd (true≢false (sym h ∙ z));
  again = λ number radio s b t h. absurd (true≢false t);
  rests = λ c radio a e t h. a.fits;
  asks = λ c radio a s room n e t h. a.fits;
})

abbrev OwnStays : Call → Radio → Outcome → Type 0
OwnStays c radio o = o.next.radio.own ≡ radio.own

pub own_stays : (c : Call) (radio : Radio) → (calling c radio).next.radio.own ≡ radio.own
own_stays = call_each OwnStays (record {
  refused = λ c radio n z. refl;
  again = λ number radio s b. refl;
  rests = λ c radio a e. refl;
  asks = λ c radio a t room n e. refl;
})

-- ---- questions

pub question_back : (number : ℕ) → is_number number ≡ true → request_of (question_of number) ≡ some (interrogation number)
unfolding question_of
question_back number h = reads_written (interrogation number) (question_sound number h)

pub question_some : (number : ℕ) → length (question_of number) ≡ 0 → ⊥
unfolding question_of text_of octets_for
question_some number e = omega (arith, sym (length_packed (text_of (interrogation number))) ∙ e)

-- a question has room
question_fits :
    (number : ℕ) (question : List ℕ) → is_number number ≡ true → writer_room ≤ length question
    → length (over (question_of number) question) ≡ length question
question_fits number question h room =
    simp (length-append, length-drop) (omega (arith, octets_most (question_of number) (question_back number h)))

abbrev Buffers : Call → Radio → Outcome → Type 0
Buffers c radio o = Buffered (buffer_of c) o

-- nothing is written beyond the question
pub question_beyond : (c : Call) (radio : Radio) → Buffered (buffer_of c) (calling c radio)
question_beyond = call_each Buffers (record {
  refused = λ c radio n z. record { beyond = refl; long = refl; untouched = λ h. refl };
  again = λ number radio s b. record { beyond = refl; long = refl; untouched = λ h. refl };
  rests = λ c radio a e. record { beyond = refl; long = refl; untouched = λ h. refl };
  asks = λ c radio a t room n e. let number = open_of (turned c radio) in record {
    beyond = drop-append_seam (question_of number) (drop (length (question_of number)) (buffer_of c));
    long = question_fits number (buffer_of c) n room;
    untouched = λ z. absurd (question_some number z);
  };
})

abbrev Writes : Call → Radio → Outcome → Type 0
Writes c radio o = (o.next.doing.octets ≡ 0 → ⊥) → take o.next.doing.octets o.question ≡ question_of (open_of (entries_in o.next.radio))

-- what is asked is the question about the number that is open
pub question_written :
    (c : Call) (radio : Radio) → ((calling c radio).next.doing.octets ≡ 0 → ⊥)
    → take (calling c radio).next.doing.octets (calling c radio).question ≡ question_of (open_of (entries_in (calling c radio).next.radio))
question_written = call_each Writes (record {
  refused = λ c radio n z h. absurd (h refl);
  again = λ number radio s b h. absurd (h refl);
  rests = λ c radio a e h. absurd (h refl);
  asks = λ c radio a t room n e h.
      let es = turned c radio in
      let text = question_of (open_of es) in
      rw (entries_held radio (next_invoke radio.invoke) es) (take-append_seam text (drop (length text) (buffer_of c)));
})

abbrev Reads : Call → Radio → Outcome → Type 0
Reads c radio o = (o.next.doing.octets ≡ 0 → ⊥) → Asked radio o

pub question_reads : (c : Call) (radio : Radio) → ((calling c radio).next.doing.octets ≡ 0 → ⊥) → Asked radio (calling c radio)
question_reads = call_each Reads (record {
  refused = λ c radio n z h. absurd (h refl);
  again = λ number radio s b h. absurd (h refl);
  rests = λ c radio a e h. absurd (h refl);
  asks = λ c radio a t room n e h.
      let es = turned c radio in
      let held = entries_held radio (next_invoke radio.invoke) es in
      let text = question_of (open_of es) in
      record {
        accepted = refl;
        number = rw held n;
        reads = rw (take-append_seam text (drop (length text) (buffer_of c)), held) (question_back (open_of es) n);
        under = refl;
        counted = refl;
      };
})

abbrev QuietThen : Call → Radio → Outcome → Type 0
QuietThen c radio o = (is_store c || not (is_accepted o)) ≡ true → o.next.doing.octets ≡ 0

-- a store, or a call that is refused, asks nothing
pub quiet_silent : (c : Call) (radio : Radio) → (is_store c || not (is_accepted (calling c radio))) ≡ true → (calling c radio).next.doing.octets ≡ 0
quiet_silent = call_each QuietThen (record {
  refused = λ c radio n z h. refl;
  again = λ number radio s b h. refl;
  rests = λ c radio a e h. refl;
  asks = λ c radio a t room n e h. no_path (sym (rw t) ∙ h);
})

abbrev Rests : Call → Radio → Outcome → Type 0
Rests c radio o = o.next.doing.octets ≡ 0 → Silent c radio o

pub no_question_lem : (c : Call) (radio : Radio) → (calling c radio).next.doing.octets ≡ 0 → Silent c radio (calling c radio)
no_question_lem = call_each Rests (record {
  refused = λ c radio n z h. record { invoke = refl; none = λ t y. absurd (true≢false (sym y ∙ z)) };
  again = λ number radio s b h. record { invoke = refl; none = λ t y. absurd (true≢false t) };
  rests = λ c radio a e h. record { invoke = refl; none = λ t y. rw (entries_held radio radio.invoke (turned c radio)) (e t) };
  asks = λ c radio a t room n e h. absurd (question_some (open_of (turned c radio)) h);
})
