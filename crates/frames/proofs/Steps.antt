-- Where contents start, and a part of one octet, by the code's tests in their order. Assumes nothing.
use mathlib.Core.Path.{◌≡◌, refl, sym, ap, ◌∙◌}
use mathlib.Core.Logic.{◌⊎◌, inl, inr, ⊎_elim}
use mathlib.Core.Bool.{Bool, true, false, true≢false, not, ◌&&◌, ◌||◌}
use mathlib.Core.Option.{none, some}
use mathlib.Core.List.{List, ◌∷◌, ◌++◌}
use Prim.Native.Nat.{ℕ, ◌+◌, ◌-◌, ◌≤◌, ◌<◌}
use native.Mathlib.Omega.{arith}
use lib.ListN.{length, get_or, drop, length-drop}
use lib.Seq.{drop-cons}
use lib.Dec.{ltb, eqb}
use borrow.Author.Tests.{ltb-true, lt-ltb, eqb-true, eq-eqb, not-false}
use Rattle.std.specs.Prelude.{Some, None}
use Rattle.answers.proofs.Tests.{and_left, and_right, or_neither, less_or_not}
use Rattle.strings.specs.Reader.{Field}
use Rattle.frames.specs.Parts.{long_length, one_follows, part, octet_part, contents_of, octet_at}
use Rattle.frames.specs.Read.{start_of}
use Rattle.frames.proofs.Parts.{part_short, part_long, contents_only, contents_back, octet_only, octet_back, none_if_never}

-- the first octets of s, and what stands behind them
two_and_rest : (s : List ℕ) → 2 ≤ length s → s ≡ get_or s 0 0 ∷ get_or s 1 0 ∷ drop 2 s
two_and_rest s h = drop-cons s 0 0 (omega arith) ∙ ap (λ (l : List ℕ). get_or s 0 0 ∷ l) (drop-cons s 1 0 (omega arith))

pub three_and_rest : (s : List ℕ) → 3 ≤ length s → s ≡ get_or s 0 0 ∷ get_or s 1 0 ∷ get_or s 2 0 ∷ drop 3 s
three_and_rest s h = two_and_rest s (omega arith) ∙ ap (λ (l : List ℕ). get_or s 0 0 ∷ get_or s 1 0 ∷ l) (drop-cons s 2 0 (omega arith))

-- ---- where contents start

-- the two forms of a length, as the code tests them
abbrev pub is_short : List ℕ → Bool
is_short s = ltb (length s - 2) long_length && eqb (get_or s 1 0) (length s - 2)

abbrev pub is_long : List ℕ → Bool
is_long s = eqb (get_or s 1 0) one_follows && eqb (get_or s 2 0) (length s - 3)

module _ (tag : ℕ) (s : List ℕ) where
  -- a part passes the tests
  pub record Passes : Type 0 where
    pub two : 2 ≤ length s
    pub tagged : get_or s 0 0 ≡ tag
    pub form : (is_short s ≡ true) ⊎ ((long_length + 3 ≤ length s) × (is_long s ≡ true))

  part_passes : (c : List ℕ) → s ≡ part tag c → Passes
  part_passes c e = ⊎_elim short long (less_or_not (length c) long_length)
    where
      short : length c < long_length → Passes
      short l =
          let p = tag ∷ length c ∷ c in
          let few = lt-ltb (length p - 2) long_length (omega arith) in
          let all = eq-eqb (length c) (length p - 2) (omega arith) in
          rw (e ∙ part_short tag c l) (record { two = omega arith; tagged = refl; form = inl (rw (few, all)) })

      long : long_length ≤ length c → Passes
      long l =
          let p = tag ∷ one_follows ∷ length c ∷ c in
          let all = eq-eqb (length c) (length p - 3) (omega arith) in
          rw (e ∙ part_long tag c l) (record { two = omega arith; tagged = refl; form = inr (omega arith, all) })

  -- what fails one of them has no contents
  pub no_start : (Passes → ⊥) → None ≡ start_of s (contents_of tag s)
  no_start h = rw (none_if_never (contents_of tag s) (λ c e. h (part_passes c (contents_only tag s e))))

  pub no_form : is_short s ≡ false → (long_length + 3 ≤ length s → is_long s ≡ true → ⊥) → None ≡ start_of s (contents_of tag s)
  no_form short long = no_start λ p. ⊎_elim (λ e. true≢false (sym e ∙ short)) (λ l. long l.0 l.1) p.form

  module _ (two : 2 ≤ length s) (tagged : get_or s 0 0 ≡ tag) where
    pub short_start : is_short s ≡ true → Some 2 ≡ start_of s (contents_of tag s)
    short_start h =
        let few = ltb (length s - 2) long_length in
        let all = eqb (get_or s 1 0) (length s - 2) in
        let l = ltb-true (length s - 2) long_length (and_left few all h) in
        let n = eqb-true (get_or s 1 0) (length s - 2) (and_right few all h) in
        let d = length-drop 2 s in
        let p : s ≡ part tag (drop 2 s) = two_and_rest s two ∙ rw (tagged, n, ← d) (sym (part_short tag (drop 2 s) (omega arith))) in
        let f : contents_of tag s ≡ some (drop 2 s) = ap (contents_of tag) p ∙ contents_back tag (drop 2 s) in
        rw f (ap Some (omega arith))

    pub long_start : long_length + 3 ≤ length s → is_long s ≡ true → Some 3 ≡ start_of s (contents_of tag s)
    long_start l h =
        let one = eqb (get_or s 1 0) one_follows in
        let all = eqb (get_or s 2 0) (length s - 3) in
        let o = eqb-true (get_or s 1 0) one_follows (and_left one all h) in
        let n = eqb-true (get_or s 2 0) (length s - 3) (and_right one all h) in
        let d = length-drop 3 s in
        let p : s ≡ part tag (drop 3 s) = three_and_rest s (omega arith) ∙ rw (tagged, o, n, ← d) (sym (part_long tag (drop 3 s) (omega arith))) in
        let f : contents_of tag s ≡ some (drop 3 s) = ap (contents_of tag) p ∙ contents_back tag (drop 3 s) in
        rw f (ap Some (omega arith))

-- ---- a part of one octet

module _ (tag : ℕ) (s : List ℕ) where
  octet_passes : (f : Field ℕ) → octet_at tag s ≡ some f → (3 ≤ length s) × (get_or s 0 0 ≡ tag) × (get_or s 1 0 ≡ 1)
  octet_passes f e = rw (octet_only tag s e) (omega arith, refl, refl)

  pub octet_few : length s < 3 → octet_at tag s ≡ none
  octet_few h = none_if_never (octet_at tag s) λ f e. let k = octet_passes f e in omega arith

  pub octet_other : (not (eqb (get_or s 0 0) tag) || not (eqb (get_or s 1 0) 1)) ≡ true → octet_at tag s ≡ none
  octet_other h = none_if_never (octet_at tag s) λ f e.
      let k = octet_passes f e in
      true≢false (sym h ∙ rw (eq-eqb (get_or s 0 0) tag k.1, eq-eqb (get_or s 1 0) 1 k.2))

  pub octet_read :
      3 ≤ length s → (not (eqb (get_or s 0 0) tag) || not (eqb (get_or s 1 0) 1)) ≡ false
      → octet_at tag s ≡ some (record { got = get_or s 2 0; rest = drop 3 s })
  octet_read l h =
      let k = or_neither (not (eqb (get_or s 0 0) tag)) (not (eqb (get_or s 1 0) 1)) h in
      let t = eqb-true (get_or s 0 0) tag (not-false _ k.0) in
      let o = eqb-true (get_or s 1 0) 1 (not-false _ k.1) in
      let p : s ≡ octet_part tag (get_or s 2 0) ++ drop 3 s = three_and_rest s l ∙ rw (t, o) in
      ap (octet_at tag) p ∙ octet_back tag (get_or s 2 0) (drop 3 s)
