-- What the code makes of a sound radio whose open question is answered. Assumes nothing.
use mathlib.Core.Path.{◌≡◌, sym, ap, ◌∙◌}
use mathlib.Core.Bool.{true}
use mathlib.Core.List.{List, [], ◌∷◌, ◌++◌}
use Prim.Native.Nat.{ℕ, suc, ◌-◌, ◌<◌}
use native.Mathlib.Omega.{arith}
use lib.ListN.{length, get_or, set, take, drop, length-append, length-drop, length-set}
use lib.Seq.{length-take-le, get_or-take, set_split}
use Rattle.stores.specs.declared.Entry.{Entry}
use Rattle.stores.specs.declared.Radio.{Radio}
use Rattle.stores.specs.declared.Verdict.{Verdict}
use Rattle.stores.specs.declared.Verdict.TheVariants.{Drops}
use Rattle.stores.specs.Stores.{most_stored, entries_in, blank, radio_sound, open_of, laid, holding, entry_of, answered, settled}
use Rattle.stores.specs.Places.{first_to_ask, kept_at, dropped_at}
use Rattle.stores.proofs.Soundness.{Sound, sound_is}
use Rattle.stores.proofs.Laid.{laid_set, laid_closed, held_as}
use Rattle.stores.proofs.Open.{open_within, settled_at}

module _ (radio : Radio) (full : length radio.entries ≡ most_stored) (sound : radio_sound radio ≡ true) (some : open_of (entries_in radio) ≡ 0 → ⊥) where
  abbrev es : List Entry
  es = entries_in radio

  abbrev at : ℕ
  at = first_to_ask es

  s : Sound radio
  s = sound_is radio sound

  size : length es ≡ radio.count
  size = length-take-le radio.count radio.entries (rw full s.few)

  pub open_place : at < radio.count
  open_place = rw size at (open_within es some)

  pub kept_settles : (v : Verdict) (mark : ℕ) → ((e : Entry) → answered v e ≡ entry_of e.number mark 0 ∷ []) → kept_at radio at mark ≡ holding radio radio.invoke (settled v es)
  kept_settles v mark is =
      let e = entry_of (get_or radio.entries at blank).number mark 0 in
      let same : get_or es at blank ≡ get_or radio.entries at blank = get_or-take radio.count radio.entries at blank open_place in
      let parts : settled v es ≡ set es at e =
      settled_at v es (open_within es some)
      ∙ ap (λ (l : List Entry). take at es ++ (l ++ drop (suc at) es)) (is (get_or es at blank) ∙ ap (λ (x : Entry). entry_of x.number mark 0 ∷ []) same)
      ∙ sym (set_split es at e (open_within es some)) in
      held_as radio (settled v es) (set radio.entries at e) radio.count (sym (ap (λ (l : List Entry). length l) parts ∙ length-set es at e ∙ size))
      (laid_set radio.entries full radio.count s.few s.rest at e open_place ∙ ap laid (sym parts))

  pub dropped_settles : dropped_at radio at ≡ holding radio radio.invoke (settled Drops es)
  dropped_settles =
      let parts = settled_at Drops es (open_within es some) in
      let fewer : radio.count - 1 ≡ length (take at es ++ drop (suc at) es) =
      omega (arith, size, open_place, length-append (take at es) (drop (suc at) es), length-take-le at es (omega (arith, size, open_place)), length-drop (suc at) es) in
      rw parts (held_as radio (take at es ++ drop (suc at) es) _ (radio.count - 1) fewer (laid_closed radio.entries full radio.count s.few s.rest at open_place))
