-- What a new number, a notice and an answer keep of the entries: each is as sound as it was; a notice and an answer leave no more than there were. Assumes nothing.
use mathlib.Core.Path.{◌≡◌, refl, sym, ap, ◌∙◌}
use mathlib.Core.Logic.{⊎_elim}
use mathlib.Core.Bool.{Bool, true, false, not, cond, ◌&&◌}
use mathlib.Core.List.{List, [], ◌∷◌, ◌++◌}
use Prim.Native.Nat.{ℕ, zero, suc, ◌-◌, ◌≤◌}
use native.Mathlib.Omega.{arith}
use lib.ListN.{length, replicate}
use lib.Seq.{take-append_seam}
use Rattle.numbers.specs.Numbers.{is_number}
use lib.Dec.{eqb}
use borrow.Author.Tests.{eqb-true, eq-eqb, ne_eqb}
use Rattle.std.specs.Prelude.{Option, Some, None}
use Rattle.std.specs.Option.{IfSome, is_some}
use Rattle.answers.proofs.Tests.{no_path, and_left, and_right, and_both, and_three, or_cases}
use Rattle.stores.specs.declared.Entry.{Entry}
use Rattle.stores.specs.declared.Radio.{Radio}
use Rattle.stores.specs.declared.Verdict.{Verdict}
use Rattle.stores.specs.declared.Verdict.TheVariants.{Keeps, Drops, Unsure}
use Rattle.stores.specs.Places.{said_open}
use Rattle.stores.specs.Stores.{most_stored, entries_in, is_to_ask, is_flag, entry_sound, blank, is_blank, every, has, open_of, holding, entry_of, with_new, begun, answered, settled}

-- ---- every entry is sound

-- what a number's entry becomes is as sound as it was
entry_keeps :
    (e : Entry) (unsure ask : ℕ) → is_flag unsure ≡ true → is_flag ask ≡ true → entry_sound e ≡ true → entry_sound (entry_of e.number unsure ask) ≡ true
entry_keeps e unsure ask u a h = rw (u, a, (and_three (is_number e.number) (is_flag e.unsure) (is_flag e.to_ask) h).0)

pub sound_new : (number : ℕ) (es : List Entry) → is_number number ≡ true → every entry_sound es ≡ true → every entry_sound (with_new number es) ≡ true
unfolding every
sound_new number [] n h = rw n
sound_new number (e ∷ es) n h =
    and_both (entry_sound e) (every entry_sound (with_new number es)) (and_left (entry_sound e) (every entry_sound es) h)
    (sound_new number es n (and_right (entry_sound e) (every entry_sound es) h))

pub sound_begun : (due : ℕ → Bool) (es : List Entry) → every entry_sound es ≡ true → every entry_sound (begun due es) ≡ true
unfolding every begun
sound_begun due [] h = refl
sound_begun due (e ∷ es) h = go (due e.number) (sound_begun due es (and_right (entry_sound e) (every entry_sound es) h))
  where
    own : entry_sound e ≡ true
    own = and_left (entry_sound e) (every entry_sound es) h

    flag : is_flag e.unsure ≡ true
    flag = (and_three (is_number e.number) (is_flag e.unsure) (is_flag e.to_ask) own).1

    go : (b : Bool) → every entry_sound (begun due es) ≡ true
        → (entry_sound (entry_of e.number e.unsure (cond b 1 0)) && every entry_sound (begun due es)) ≡ true
    go true rest = rw (entry_keeps e e.unsure 1 flag refl own) rest
    go false rest = rw (entry_keeps e e.unsure 0 flag refl own) rest

pub sound_settled : (v : Verdict) (es : List Entry) → every entry_sound es ≡ true → every entry_sound (settled v es) ≡ true
unfolding every settled
sound_settled v [] h = refl
sound_settled v (e ∷ es) h = go (is_to_ask e) v (sound_settled v es others)
  where
    own : entry_sound e ≡ true
    own = and_left (entry_sound e) (every entry_sound es) h

    others : every entry_sound es ≡ true
    others = and_right (entry_sound e) (every entry_sound es) h

    go : (b : Bool) (w : Verdict) → every entry_sound (settled v es) ≡ true → every entry_sound (cond b (answered w e ++ es) (e ∷ settled v es)) ≡ true
    go true Keeps rest = rw (entry_keeps e 0 0 refl refl own) others
    go true Drops rest = others
    go true Unsure rest = rw (entry_keeps e 1 0 refl refl own) others
    go false w rest = rw own rest

-- an open question is a number
pub open_number : (es : List Entry) → every entry_sound es ≡ true → (open_of es ≡ 0 → ⊥) → is_number (open_of es) ≡ true
unfolding every open_of
open_number [] h some = absurd (some refl)
open_number (e ∷ es) h some = go (is_to_ask e) some (open_number es (and_right (entry_sound e) (every entry_sound es) h))
  where
    go : (b : Bool) → (cond b e.number (open_of es) ≡ 0 → ⊥) → ((open_of es ≡ 0 → ⊥) → is_number (open_of es) ≡ true) → is_number (cond b e.number (open_of es)) ≡ true
    go true some rest = (and_three (is_number e.number) (is_flag e.unsure) (is_flag e.to_ask) (and_left (entry_sound e) (every entry_sound es) h)).0
    go false some rest = rest some

-- a number is not 0, the word that stands for none
pub number_not_0 : (n : ℕ) → is_number n ≡ true → n ≡ 0 → ⊥
unfolding is_number
number_not_0 n h e = no_path (rw e at h)

pub has_sound : (n : ℕ) (es : List Entry) → every entry_sound es ≡ true → has n es ≡ true → is_number n ≡ true
unfolding every has
has_sound n [] h e = no_path e
has_sound n (x ∷ es) h e =
    ⊎_elim
    (λ p. rw (eqb-true x.number n p) at (and_three (is_number x.number) (is_flag x.unsure) (is_flag x.to_ask) (and_left (entry_sound x) (every entry_sound es) h)).0)
    (λ p. has_sound n es (and_right (entry_sound x) (every entry_sound es) h) p) (or_cases (eqb x.number n) (has n es) e)

-- what the code answers tells whether a question is open
pub open_some : (n : ℕ) (es : List Entry) → every entry_sound es ≡ true → n ≡ open_of es → has n es ≡ true → open_of es ≡ 0 → ⊥
open_some n es h e i z = number_not_0 n (has_sound n es h i) (e ∙ z)

pub open_known : (o : Option ℕ) (es : List Entry) → every entry_sound es ≡ true → said_open o ≡ open_of es → IfSome o (λ n. has n es ≡ true)
    → is_some o ≡ not (eqb (open_of es) 0)
open_known None es h e i = rw (eq-eqb (open_of es) 0 (sym e))
open_known (Some n) es h e i = rw (ne_eqb (open_of es) 0 (open_some n es h e i))

-- ---- how many are stored

pub new_length : (number : ℕ) (es : List Entry) → length (with_new number es) ≡ suc (length es)
new_length number [] = refl
new_length number (e ∷ es) = ap suc (new_length number es)

pub length_settled : (v : Verdict) (es : List Entry) → length (settled v es) ≤ length es
unfolding settled
length_settled v [] = omega arith
length_settled v (e ∷ es) = go (is_to_ask e) v (length_settled v es)
  where
    go : (b : Bool) (w : Verdict) → length (settled v es) ≤ length es → length (cond b (answered w e ++ es) (e ∷ settled v es)) ≤ suc (length es)
    go true Keeps rest = omega arith
    go true Drops rest = omega arith
    go true Unsure rest = omega arith
    go false w rest = omega arith

-- ---- the places

pub blanks_blank : (n : ℕ) → every is_blank (replicate n blank) ≡ true
unfolding every
blanks_blank zero = refl
blanks_blank (suc n) = blanks_blank n

-- what a radio stores is what was put there
pub entries_held : (radio : Radio) (invoke : ℕ) (es : List Entry) → entries_in (holding radio invoke es) ≡ es
entries_held radio invoke es = take-append_seam es (replicate (most_stored - length es) blank)
