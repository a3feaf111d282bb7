-- What a call can do: it is refused, finds its number stored already, asks nothing, or asks the next question. One law for all that goes by these cases. Assumes nothing.
use mathlib.Core.Path.{◌≡◌, refl}
use mathlib.Core.Bool.{Bool, true, false, true≢false, not, cond}
use mathlib.Core.List.{List, [], ◌∷◌}
use Prim.Native.Nat.{ℕ, ◌≤◌, ◌<◌}
use native.Mathlib.Omega.{arith}
use lib.ListN.{length, drop, length-take}
use lib.Dec.{eqb, ltb}
use borrow.Author.Tests.{eqb-true, eqb-false, ltb-false, not-true, not-false}
use Rattle.answers.specs.Writing.{over}
use Rattle.answers.proofs.Tests.{and_left, and_right}
use Rattle.numbers.specs.Numbers.{is_number}
use Rattle.strings.specs.Outcomes.{writer_room}
use Rattle.stores.specs.declared.Entry.{Entry}
use Rattle.stores.specs.declared.Radio.{Radio}
use Rattle.stores.specs.Stores.{most_stored, entries_in, has, open_of, radio_sound, holding, with_new, is_due, begun, settled}
use Rattle.radio.specs.declared.Next.{Next}
use Rattle.radio.specs.Radio.{Outcome, doing, next_of, refusing, next_invoke, question_of, asks_next, storing, notice_of, noticing, verdict_of, is_open, replying}
use Rattle.rounds.specs.Rounds.{Call, store, notice, reply, buffer_of, calling, is_store, to_ask}
use Rattle.rounds.proofs.Entries.{open_none, open_some}
use Rattle.rounds.proofs.Sound.{Storable, sound_parts, new_storable, begun_storable, settled_storable}

-- the check holds and decides, or the next ones do
check : {A : Type 0} (P : A → Type 0) (b : Bool) {x y : A} → (b ≡ true → P x) → (b ≡ false → P y) → P (cond b x y)
check P true p q = p refl
check P false p q = q refl

-- ---- what the calls leave

-- the radio stores es, and nothing is asked
abbrev pub resting : ℕ → Radio → List Entry → List ℕ → Outcome
resting respond radio es question = record { next = next_of (holding radio radio.invoke es) (doing 0 respond 0 0); question = question }

-- the radio stores es, and the first number still to be asked is asked
abbrev pub asking : ℕ → Radio → List Entry → List ℕ → Outcome
asking respond radio es question = record {
  next = next_of (holding radio (next_invoke radio.invoke) es) (doing 0 respond (next_invoke radio.invoke) (length (question_of (open_of es))));
  question = over (question_of (open_of es)) question;
}

-- nothing has changed
abbrev pub keeping : Radio → Outcome
keeping radio = record { next = next_of radio (doing 0 0 0 0); question = [] }

-- "returns the empty response": a notice does
abbrev pub respond_of : Call → ℕ
respond_of (store number) = 0
respond_of (notice string question) = 1
respond_of (reply invoke string question) = 0

-- what an accepted call makes of the stored numbers, a store of a new one
abbrev pub turned : Call → Radio → List Entry
turned (store number) radio = with_new number (entries_in radio)
turned (notice string question) radio = begun (is_due radio (notice_of string)) (entries_in radio)
turned (reply invoke string question) radio = settled (verdict_of radio.own string) (entries_in radio)

-- what an accepted call has found
abbrev pub Fits : Call → Radio → Type 0
Fits (store number) radio = has number (entries_in radio) ≡ false
Fits (notice string question) radio = writer_room ≤ length question
Fits (reply invoke string question) radio = (writer_room ≤ length question) × (eqb (open_of (entries_in radio)) 0 ≡ false) × (invoke ≡ radio.invoke)

pub record Accepted (c : Call) (radio : Radio) : Type 0 where
  pub sound : radio_sound radio ≡ true
  pub storable : Storable radio (turned c radio)
  pub fits : Fits c radio

-- what every call has, by what it does
pub record Cases (P : Call → Radio → Outcome → Type 0) : Type 0 where
  pub refused : (c : Call) (radio : Radio) (n : ℕ) → eqb n 0 ≡ false → P c radio (refusing n radio (buffer_of c))
  pub again : (number : ℕ) (radio : Radio) → radio_sound radio ≡ true → has number (entries_in radio) ≡ true → P (store number) radio (keeping radio)
  pub rests :
      (c : Call) (radio : Radio) → Accepted c radio → (is_store c ≡ false → to_ask (turned c radio) ≡ [])
      → P c radio (resting (respond_of c) radio (turned c radio) (buffer_of c))
  pub asks :
      (c : Call) (radio : Radio) → Accepted c radio → is_store c ≡ false → writer_room ≤ length (buffer_of c)
      → is_number (open_of (turned c radio)) ≡ true → to_ask (turned c radio) ≡ open_of (turned c radio) ∷ drop 1 (to_ask (turned c radio))
      → P c radio (asking (respond_of c) radio (turned c radio) (buffer_of c))

module _ (P : Call → Radio → Outcome → Type 0) (k : Cases P) where
  -- the next question, or none
  next_each :
      (c : Call) (radio : Radio) → Accepted c radio → is_store c ≡ false → writer_room ≤ length (buffer_of c)
      → P c radio (asks_next (respond_of c) radio (turned c radio) (buffer_of c))
  next_each c radio a t room =
      let es = turned c radio in
      check (P c radio) (eqb (open_of es) 0) (λ z. k.rests c radio a (λ u. open_none es a.storable.entries z)) λ z.
      let o = open_some es a.storable.entries z in
      k.asks c radio a t room o.0 o.1

  pub call_each : (c : Call) (radio : Radio) → P c radio (calling c radio)
  unfolding storing noticing replying
  call_each (store number) radio =
      let c = store number in
      let Q : Next → Type 0 = λ next. P c radio (record { next = next; question = [] }) in
      check Q (not (radio_sound radio)) (λ h. k.refused c radio 24 refl) λ sound.
      check Q (not (is_number number)) (λ h. k.refused c radio 23 refl) λ fit.
      check Q (has number (entries_in radio)) (k.again number radio (not-false (radio_sound radio) sound)) λ fresh.
      check Q (eqb radio.count most_stored) (λ h. k.refused c radio 20 refl) λ room.
      let s = not-false (radio_sound radio) sound in
      let p = sound_parts radio s in
      let few : length (entries_in radio) < most_stored = rw length-take (omega (arith, p.0.count, eqb-false radio.count most_stored room)) in
      let storable = new_storable radio number (entries_in radio) few (not-false (is_number number) fit) fresh p.1 in
      k.rests c radio (record { sound = s; storable = storable; fits = fresh }) (λ u. absurd (true≢false u))
  call_each (notice string question) radio =
      let c = notice string question in
      check (P c radio) (not (radio_sound radio)) (λ h. k.refused c radio 24 refl) λ sound.
      check (P c radio) (ltb (length question) writer_room) (λ h. k.refused c radio 1 refl) λ short.
      check (P c radio) (eqb (notice_of string) 0) (λ h. k.refused c radio 21 refl) λ fit.
      let s = not-false (radio_sound radio) sound in
      let room = ltb-false (length question) writer_room short in
      let storable = begun_storable radio (notice_of string) (entries_in radio) (sound_parts radio s).1 in
      next_each c radio (record { sound = s; storable = storable; fits = room }) refl room
  call_each (reply invoke string question) radio =
      let c = reply invoke string question in
      check (P c radio) (not (radio_sound radio)) (λ h. k.refused c radio 24 refl) λ sound.
      check (P c radio) (ltb (length question) writer_room) (λ h. k.refused c radio 1 refl) λ short.
      check (P c radio) (not (is_open radio invoke)) (λ h. k.refused c radio 22 refl) λ fit.
      let s = not-false (radio_sound radio) sound in
      let room = ltb-false (length question) writer_room short in
      let none = eqb (open_of (entries_in radio)) 0 in
      let own = eqb invoke radio.invoke in
      let o = not-false (is_open radio invoke) fit in
      let storable = settled_storable radio (verdict_of radio.own string) (entries_in radio) (sound_parts radio s).1 in
      let fits : Fits c radio = (room, not-true none (and_left (not none) own o), eqb-true invoke radio.invoke (and_right (not none) own o)) in
      next_each c radio (record { sound = s; storable = storable; fits = fits }) refl room
