-- What the parts of a field come to, by the tests in their order. Assumes nothing.
use mathlib.Core.Path.{◌≡◌, refl}
use mathlib.Core.Bool.{true, false, and-false}
use mathlib.Core.Option.{none, some}
use mathlib.Core.List.{List, [], ◌∷◌}
use Prim.Native.Nat.{ℕ, ◌+◌, ◌/◌, ◌%◌, ◌≤◌, ◌<◌}
use native.Mathlib.Omega.{arith}
use lib.ListN.{length, get_or, drop}
use borrow.Author.Tests.{eq-eqb, ne_eqb, lt-ltb, le-leb, lt-leb}
use Rattle.numbers.specs.Numbers.{are_digits}
use Rattle.crews.specs.declared.Crew.TheVariants.{Single, Codes, Broken}
use Rattle.crews.specs.Crews.{most_codes, codes_allowed, codes_sound, codes_in, codes_at, sound_codes_at, spaced_codes_at, counted_codes_at, crew_of, is_bulk, count_of}
use Rattle.crews.proofs.Reading.{length_codes_in}

-- ---- the codes

module _ (s : List ℕ) where
  pub codes_other : are_digits s ≡ false → sound_codes_at s ≡ none
  unfolding sound_codes_at codes_at
  codes_other d = rw d

  pub codes_odd : (length s % 2 ≡ 0 → ⊥) → sound_codes_at s ≡ none
  unfolding sound_codes_at codes_at
  codes_odd o = rw (ne_eqb (length s % 2) 0 o, and-false)

  module _ (digits : are_digits s ≡ true) (even : length s % 2 ≡ 0) where
    pub codes_many : most_codes < length s / 2 → sound_codes_at s ≡ none
    unfolding sound_codes_at codes_at codes_sound
    codes_many h = rw (digits, eq-eqb (length s % 2) 0 even, length_codes_in s, lt-leb (length s / 2) most_codes h)

    pub codes_not : codes_allowed (codes_in s) ≡ false → sound_codes_at s ≡ none
    unfolding sound_codes_at codes_at codes_sound
    codes_not n = rw (digits, eq-eqb (length s % 2) 0 even, n, and-false)

    pub codes_read_lem : length s / 2 ≤ most_codes → codes_allowed (codes_in s) ≡ true → sound_codes_at s ≡ some (codes_in s)
    unfolding sound_codes_at codes_at codes_sound
    codes_read_lem h a = rw (digits, eq-eqb (length s % 2) 0 even, length_codes_in s, le-leb (length s / 2) most_codes h, a)

-- ---- nothing, or a space before them

pub spaced_none : (s : List ℕ) → length s ≡ 0 → spaced_codes_at s ≡ some []
unfolding spaced_codes_at
spaced_none [] h = refl
spaced_none (c ∷ s) h = absurd (omega arith)

pub spaced_other : (s : List ℕ) → 0 < length s → (get_or s 0 0 ≡ 32 → ⊥) → spaced_codes_at s ≡ none
unfolding spaced_codes_at
spaced_other [] h e = absurd (omega arith)
spaced_other (c ∷ s) h e = rw (ne_eqb c 32 e)

pub spaced_unread : (s : List ℕ) → get_or s 0 0 ≡ 32 → sound_codes_at (drop 1 s) ≡ none → spaced_codes_at s ≡ none
unfolding spaced_codes_at
spaced_unread [] e n = absurd (omega arith)
spaced_unread (c ∷ s) e n = rw (eq-eqb c 32 e, n)

module _ {codes : List ℕ} where
  pub spaced_empty : (s : List ℕ) → get_or s 0 0 ≡ 32 → sound_codes_at (drop 1 s) ≡ some codes → length codes ≡ 0 → spaced_codes_at s ≡ none
  unfolding spaced_codes_at
  spaced_empty [] e r n = absurd (omega arith)
  spaced_empty (c ∷ s) e r n = rw (eq-eqb c 32 e, r, n)

  pub spaced_read : (s : List ℕ) → get_or s 0 0 ≡ 32 → sound_codes_at (drop 1 s) ≡ some codes → 0 < length codes → spaced_codes_at s ≡ some codes
  unfolding spaced_codes_at
  spaced_read [] e r n = absurd (omega arith)
  spaced_read (c ∷ s) e r n = rw (eq-eqb c 32 e, r, lt-ltb 0 (length codes) n)

-- ---- the digit that counts them

pub counted_none : (s : List ℕ) → length s ≡ 0 → counted_codes_at s ≡ none
unfolding counted_codes_at
counted_none [] h = refl
counted_none (n ∷ s) h = absurd (omega arith)

pub counted_unread : (s : List ℕ) → spaced_codes_at (drop 1 s) ≡ none → counted_codes_at s ≡ none
unfolding counted_codes_at
counted_unread [] e = refl
counted_unread (n ∷ s) e = rw e

module _ {codes : List ℕ} where
  pub counted_other : (s : List ℕ) → spaced_codes_at (drop 1 s) ≡ some codes → (get_or s 0 0 ≡ 48 + length codes → ⊥) → counted_codes_at s ≡ none
  unfolding counted_codes_at
  counted_other [] r e = refl
  counted_other (n ∷ s) r e = rw (r, ne_eqb n (48 + length codes) e)

  pub counted_read : (s : List ℕ) → spaced_codes_at (drop 1 s) ≡ some codes → get_or s 0 0 ≡ 48 + length codes → counted_codes_at s ≡ some codes
  unfolding counted_codes_at
  counted_read [] r e = absurd (omega arith)
  counted_read (n ∷ s) r e = rw (r, eq-eqb n (48 + length codes) e)

-- ---- the whole field

module _ (field : List ℕ) where
  pub no_bulk : is_bulk field ≡ false → count_of field ≡ Single
  unfolding count_of
  no_bulk b = rw b

  pub bulk_broken : is_bulk field ≡ true → counted_codes_at (drop 4 field) ≡ none → count_of field ≡ Broken
  unfolding count_of crew_of
  bulk_broken b e = rw (b, e)

  pub bulk_crew : {codes : List ℕ} → is_bulk field ≡ true → counted_codes_at (drop 4 field) ≡ some codes → count_of field ≡ Codes (length codes)
  unfolding count_of crew_of
  bulk_crew b e = rw (b, e)
