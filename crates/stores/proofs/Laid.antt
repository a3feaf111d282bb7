-- The places of a sound radio: its entries, and blanks behind them. Assumes nothing.
use mathlib.Core.Path.{◌≡◌, refl, sym, ap, ◌∙◌}
use mathlib.Core.Bool.{true}
use mathlib.Core.List.{List, [], ◌∷◌, ◌++◌, map, append_assoc}
use Prim.Native.Nat.{ℕ, suc, ◌+◌, ◌-◌, ◌≤◌, ◌<◌}
use native.Mathlib.Omega.{arith}
use lib.ListN.{length, get_or, set, take, drop, replicate, length-drop, length-append, length-set, take-append-drop, replicate-append-replicate, length-map}
use lib.Seq.{length-take-le, append_snoc, set_split, set-append_left, drop-cons, take-append-le, drop-append-le}
use lib.Dec.{eqb}
use borrow.Author.Tests.{eqb-true}
use Rattle.answers.proofs.Tests.{and_left, and_right, and_three}
use Rattle.stores.specs.declared.Entry.{Entry}
use Rattle.stores.specs.declared.Radio.{Radio}
use Rattle.stores.specs.Stores.{most_stored, blank, is_blank, every, laid, holding}
use Rattle.stores.specs.Places.{closed_up, with_entries}

-- a field's array as the code has it: its elements taken apart
pub unmapped : (Y : Type 0) (f : Entry → Y) (es : List Entry) (n : ℕ) → length (map f es) ≡ n → length es ≡ n
unmapped Y f es n e = sym (length-map es f) ∙ e

blank_is : (e : Entry) → is_blank e ≡ true → e ≡ blank
blank_is e h =
    let t = and_three (eqb e.number 0) (eqb e.unsure 0) (eqb e.to_ask 0) h in
    rw (eqb-true e.number 0 t.0, eqb-true e.unsure 0 t.1, eqb-true e.to_ask 0 t.2) refl

blanks : (es : List Entry) → every is_blank es ≡ true → es ≡ replicate (length es) blank
unfolding every
blanks [] h = refl
blanks (e ∷ es) h = let first = blank_is e (and_left (is_blank e) (every is_blank es) h) in
    ap (λ (x : Entry). x ∷ es) first ∙ ap {B = List Entry} (λ r. blank ∷ r) (blanks es (and_right (is_blank e) (every is_blank es) h))

module _ (xs : List Entry) (full : length xs ≡ most_stored) where
  module _ (n : ℕ) (within : n ≤ most_stored) (rest : every is_blank (drop n xs) ≡ true) where
    -- behind n places there are blanks,
    behind : drop n xs ≡ replicate (most_stored - n) blank
    behind = blanks (drop n xs) rest ∙ ap (λ (k : ℕ). replicate k blank) (length-drop n xs ∙ ap (λ (k : ℕ). k - n) full)

    -- so n entries before them are laid out
    pub laid_front : (front : List Entry) → length front ≡ n → front ++ drop n xs ≡ laid front
    laid_front front e = ap (λ (r : List Entry). front ++ r) (behind ∙ ap (λ (k : ℕ). replicate (most_stored - k) blank) (sym e))

    -- an entry of them is changed
    pub laid_set : (at : ℕ) (e : Entry) → at < n → set xs at e ≡ laid (set (take n xs) at e)
    laid_set at e h =
        let size = length-take-le n xs (rw full within) in
        ap (λ (x : List Entry). set x at e) (sym (take-append-drop n xs))
        ∙ set-append_left (take n xs) (drop n xs) at e (rw size h)
        ∙ laid_front (set (take n xs) at e) (length-set (take n xs) at e ∙ size)

    -- an entry of them is left out
    pub laid_closed : (at : ℕ) → at < n → closed_up xs at ≡ laid (take at (take n xs) ++ drop (suc at) (take n xs))
    unfolding closed_up
    laid_closed at h =
        let size = length-take-le n xs (rw full within) in
        let es = take n xs in
        let blanks_on : ◌≡◌ {A = List Entry} (drop n xs ++ (blank ∷ [])) (replicate (most_stored - n + 1) blank) = rw behind (replicate-append-replicate (most_stored - n) 1 blank) in
        let shorter : most_stored - n + 1 ≡ most_stored - length (take at es ++ drop (suc at) es) = omega (arith, size, length-append (take at es) (drop (suc at) es), length-take-le at es (omega (arith, size)), length-drop (suc at) es) in
        let whole = take-append-drop n xs in
        ap (λ (x : List Entry). take at x ++ (drop (suc at) x ++ (blank ∷ []))) (sym whole)
        ∙ rw (take-append-le at es (drop n xs) (omega (arith, size)), drop-append-le (suc at) es (drop n xs) (omega (arith, size)), append_assoc (drop (suc at) es) (drop n xs) (blank ∷ []), blanks_on, shorter)
        (sym (append_assoc (take at es) (drop (suc at) es) (replicate (most_stored - length (take at es ++ drop (suc at) es)) blank)))

  every_after : (n : ℕ) → n < length xs → every is_blank (drop n xs) ≡ true → every is_blank (drop (suc n) xs) ≡ true
  unfolding every
  every_after n l h = and_right (is_blank (get_or xs n blank)) (every is_blank (drop (suc n) xs)) (rw (drop-cons xs n blank l) at h)

  -- an entry is put behind n of them
  pub laid_new : (n : ℕ) (e : Entry) → n < most_stored → every is_blank (drop n xs) ≡ true → set xs n e ≡ laid (take n xs ++ (e ∷ []))
  laid_new n e h rest =
      let inside : n < length xs = rw full h in
      let size = length-take-le n xs (omega arith) in
      let more : length (take n xs ++ (e ∷ [])) ≡ suc n = omega (arith, length-append (take n xs) (e ∷ []), size) in
      set_split xs n e inside ∙ sym (append_snoc (take n xs) e (drop (suc n) xs))
      ∙ laid_front (suc n) h (every_after n inside rest) (take n xs ++ (e ∷ [])) more

-- a radio with these entries
pub held_as : (radio : Radio) (es all : List Entry) (n : ℕ) → n ≡ length es → all ≡ laid es → with_entries radio n all ≡ holding radio radio.invoke es
held_as radio es all n p q = rw (p, q) refl
