-- A round that begins, entry by entry, and a gap that is closed. Assumes nothing.
use mathlib.Core.Path.{◌≡◌, refl, sym, ap, ◌∙◌}
use mathlib.Core.Bool.{Bool}
use mathlib.Core.List.{List, [], ◌∷◌, ◌++◌, append_assoc}
use Prim.Native.Nat.{ℕ, suc, ◌+◌, ◌-◌, ◌<◌}
use native.Mathlib.Numerals.{add-one}
use native.Mathlib.Omega.{arith}
use lib.ListN.{length, get_or, set, take, drop, drop_of_length-le, length-append, length-drop}
use lib.Seq.{length-take-le, take-suc, drop-cons, append_snoc, set_at, get_or_at, take_all}
use Rattle.stores.specs.declared.Entry.{Entry}
use Rattle.stores.specs.Stores.{most_stored, blank, entry_of, begun, flag_of}
use Rattle.std.specs.List.{copy_within}
use Rattle.stores.specs.Places.{closed_up}

module _ (due : ℕ → Bool) where
  -- an entry as the round has it
  abbrev pub anew : Entry → Entry
  anew e = entry_of e.number e.unsure (flag_of (due e.number))

  pub begun_length : (es : List Entry) → length (begun due es) ≡ length es
  unfolding begun
  begun_length [] = refl
  begun_length (e ∷ es) = ap suc (begun_length es)

  begun_append : (es : List Entry) (e : Entry) → begun due (es ++ (e ∷ [])) ≡ begun due es ++ (anew e ∷ [])
  unfolding begun
  begun_append [] e = refl
  begun_append (x ∷ es) e = ap {B = List Entry} (λ r. anew x ∷ r) (begun_append es e)

  -- one entry more
  pub begun_next : (xs all : List Entry) (i : ℕ) → i < length xs → all ≡ begun due (take i xs) ++ drop i xs
      → set all i (anew (get_or all i blank)) ≡ begun due (take (i + 1) xs) ++ drop (i + 1) xs
  begun_next xs all i h q =
      let front = begun due (take i xs) in
      let size : length front ≡ i = begun_length (take i xs) ∙ length-take-le i xs (omega arith) in
      let split : all ≡ front ++ get_or xs i blank ∷ drop (suc i) xs = q ∙ ap (λ (r : List Entry). front ++ r) (drop-cons xs i blank h) in
      rw (split, get_or_at front (get_or xs i blank) (drop (suc i) xs) blank i size, set_at front (get_or xs i blank) (drop (suc i) xs) (anew (get_or xs i blank)) i size, add-one i, take-suc xs i blank h, begun_append (take i xs) (get_or xs i blank))
      (sym (append_snoc front (anew (get_or xs i blank)) (drop (suc i) xs)))

-- those behind a place are copied one down, and a blank comes last
pub closing : (es : List Entry) (at : ℕ) → length es ≡ most_stored → at < most_stored → set (copy_within es (at + 1) most_stored at) 15 blank ≡ closed_up es at
unfolding closed_up
closing es at full h =
    let behind = drop (suc at) es in
    let size : length (take at es ++ behind) ≡ 15 = omega (arith, length-append (take at es) behind, length-take-le at es (omega arith), length-drop (suc at) es) in
    let all : take (most_stored - suc at) behind ≡ behind = take_all (most_stored - suc at) behind (omega (arith, length-drop (suc at) es)) in
    let end : at + (most_stored - suc at) ≡ 15 = omega arith in
    let last : drop 15 es ≡ get_or es 15 blank ∷ [] = drop-cons es 15 blank (omega arith) ∙ ap (λ (r : List Entry). get_or es 15 blank ∷ r) (drop_of_length-le es {i = 16} (omega arith)) in
    rw (add-one at, all, end, last, set_at (take at es ++ behind) (get_or es 15 blank) [] blank 15 size)
    (append_assoc (take at es) behind (blank ∷ []))
