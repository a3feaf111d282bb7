-- A sound radio by its parts, and what it may store. Assumes nothing.
use mathlib.Core.Path.{◌≡◌, refl, sym, ◌∙◌}
use mathlib.Core.Bool.{Bool, true, false, ◌||◌}
use mathlib.Core.List.{List}
use Prim.Native.Nat.{ℕ, ◌-◌, ◌≤◌, ◌<◌}
use native.Mathlib.Omega.{arith}
use lib.ListN.{length, replicate, length-take, length-append}
use lib.Seq.{take-append_seam, drop-append_seam}
use lib.Dec.{eqb}
use borrow.Author.Tests.{le-leb}
use Rattle.numbers.specs.Numbers.{is_number}
use Rattle.stores.specs.declared.Entry.{Entry}
use Rattle.stores.specs.declared.Radio.{Radio}
use Rattle.stores.specs.declared.Verdict.{Verdict}
use Rattle.stores.specs.Stores.{most_stored, entries_in, is_hand_held, root_of, is_flag, entry_sound, blank, every, has, none_twice, one_root, radio_sound, holding, with_new, is_due, begun, settled}
use Rattle.rounds.specs.Rounds.{to_ask, numbers_that}
use Rattle.rounds.proofs.Entries.{ask_new, ask_begun, ask_settled, same_root, one_root_lem, root_same, root_rest, numbers_pass, once_new, once_begun, once_settled}
use Rattle.stores.proofs.Soundness.{sound_is}
use Rattle.stores.proofs.Begun.{begun_length}
use Rattle.stores.proofs.Stored.{sound_new, sound_begun, sound_settled, length_settled, blanks_blank}

-- what a radio may store
pub record Storable (radio : Radio) (es : List Entry) : Type 0 where
  pub few : length es ≤ most_stored
  pub entries : every entry_sound es ≡ true
  pub once : none_twice es ≡ true
  pub root : (is_hand_held radio || one_root es) ≡ true

-- what it has and keeps, whatever it stores
pub record Own (radio : Radio) : Type 0 where
  pub number : is_number radio.own ≡ true
  pub kind : is_flag radio.hand_held ≡ true
  pub count : radio.count ≤ most_stored

pub sound_parts : (radio : Radio) → radio_sound radio ≡ true → Own radio × Storable radio (entries_in radio)
sound_parts radio h =
    let s = sound_is radio h in
    (record { number = s.own; kind = s.kind; count = s.few }, record { few = rw length-take (omega (arith, s.few)); entries = s.entries; once = s.once; root = s.root })

pub held_sound : (radio : Radio) (invoke : ℕ) (es : List Entry) → Own radio → Storable radio es → radio_sound (holding radio invoke es) ≡ true
unfolding radio_sound
held_sound radio invoke es o s =
    let free = most_stored - length es in
    rw (take-append_seam es (replicate free blank), drop-append_seam es (replicate free blank), o.number, o.kind)
    (rw (le-leb (length es) most_stored s.few, s.entries, s.once, blanks_blank free) s.root)

-- ---- what the calls make of it

root_kept :
    (radio : Radio) (es new : List Entry) → (same_root (to_ask es) ≡ true → same_root (to_ask new) ≡ true) → (is_hand_held radio || one_root es) ≡ true
    → (is_hand_held radio || one_root new) ≡ true
root_kept radio es new f h = go (is_hand_held radio) h
  where
    go : (b : Bool) → (b || one_root es) ≡ true → (b || one_root new) ≡ true
    go true h = refl
    go false h = one_root_lem new ∙ f (sym (one_root_lem es) ∙ h)

pub new_storable :
    (radio : Radio) (number : ℕ) (es : List Entry) → length es < most_stored → is_number number ≡ true → has number es ≡ false → Storable radio es
    → Storable radio (with_new number es)
new_storable radio number es few n fresh s = record {
  few = rw length-append (omega arith);
  entries = sound_new number es n s.entries;
  once = once_new number es fresh s.once;
  root = root_kept radio es (with_new number es) (λ h. rw (ask_new number es) h) s.root;
}

pub begun_storable : (radio : Radio) (about : ℕ) (es : List Entry) → Storable radio es → Storable radio (begun (is_due radio about) es)
begun_storable radio about es s = record {
  few = rw begun_length s.few;
  entries = sound_begun (is_due radio about) es s.entries;
  once = rw once_begun s.once;
  root = go (is_hand_held radio);
}
  where
    go : (b : Bool) → (b || one_root (begun (λ number. b || eqb (root_of number) (root_of about)) es)) ≡ true
    go true = refl
    go false =
        let due : ℕ → Bool = λ number. eqb (root_of number) (root_of about) in
        one_root_lem (begun due es) ∙ rw (ask_begun due es) (root_same (root_of about) (numbers_that due es) (numbers_pass due es))

pub settled_storable : (radio : Radio) (v : Verdict) (es : List Entry) → Storable radio es → Storable radio (settled v es)
settled_storable radio v es s = record {
  few = omega (arith, length_settled v es, s.few);
  entries = sound_settled v es s.entries;
  once = once_settled v es s.once;
  root = root_kept radio es (settled v es) (λ h. rw (ask_settled v es) (root_rest (to_ask es) h)) s.root;
}
