-- What a sound radio keeps, rule by rule. Assumes nothing.
use mathlib.Core.Path.{◌≡◌}
use mathlib.Core.Logic.{⊎_elim}
use mathlib.Core.Bool.{Bool, true, false, ◌&&◌, ◌||◌}
use Prim.Native.Nat.{◌≤◌}
use lib.ListN.{drop}
use borrow.Author.Tests.{leb-true}
use Rattle.answers.proofs.Tests.{and_left, and_right, either}
use Rattle.numbers.specs.Numbers.{is_number}
use Rattle.stores.specs.declared.Radio.{Radio}
use Rattle.stores.specs.Stores.{most_stored, entries_in, is_hand_held, is_flag, entry_sound, is_blank, every, none_twice, one_root, radio_sound}

pub record Sound (radio : Radio) : Type 0 where
  pub own : is_number radio.own ≡ true
  pub kind : is_flag radio.hand_held ≡ true
  pub few : radio.count ≤ most_stored
  pub entries : every entry_sound (entries_in radio) ≡ true
  pub once : none_twice (entries_in radio) ≡ true
  pub rest : every is_blank (drop radio.count radio.entries) ≡ true
  pub root : (is_hand_held radio || one_root (entries_in radio)) ≡ true

-- six tests in front of one
seven : {a b c d e f g : Bool} → (a && b && c && d && e && f && g) ≡ true
    → (a ≡ true) × (b ≡ true) × (c ≡ true) × (d ≡ true) × (e ≡ true) × (f ≡ true) × (g ≡ true)
seven {a} {b} {c} {d} {e} {f} {g} h =
    let i = and_left (a && b && c && d && e && f) g h in
    let j = and_left (a && b && c && d && e) f i in
    let k = and_left (a && b && c && d) e j in
    let l = and_left (a && b && c) d k in
    let m = and_left (a && b) c l in (
      and_left a b m,
      and_right a b m,
      and_right (a && b) c l,
      and_right (a && b && c) d k,
      and_right (a && b && c && d) e j,
      and_right (a && b && c && d && e) f i,
      and_right (a && b && c && d && e && f) g h,
    )

pub sound_is : (radio : Radio) → radio_sound radio ≡ true → Sound radio
unfolding radio_sound
sound_is radio h =
    let s = seven h in
    record { own = s.0; kind = s.1; few = leb-true radio.count most_stored s.2; entries = s.3; once = s.4; rest = s.5; root = s.6 }

pub unsound : (radio : Radio) → (Sound radio → ⊥) → radio_sound radio ≡ false
unsound radio breaks = ⊎_elim (λ h. absurd (breaks (sound_is radio h))) (λ h. h) (either (radio_sound radio))
