-- The codes of a text one after the other: their values, and their tests. Assumes nothing.
use mathlib.Core.Path.{◌≡◌, refl, sym, ap, ◌∙◌}
use mathlib.Core.Bool.{true, false, and-false}
use mathlib.Core.Option.{some}
use mathlib.Core.List.{List, [], ◌∷◌}
use Prim.Native.Nat.{ℕ, zero, suc, ◌+◌, ◌*◌, ◌/◌, ◌≤◌, ◌<◌}
use native.Mathlib.Omega.{arith}
use lib.ListN.{length, get_or, drop, length-drop}
use lib.Seq.{drop-cons}
use borrow.Author.Tests.{eq-eqb, ne_eqb, lt-ltb}
use Rattle.answers.specs.Leading.{each}
use Rattle.numbers.specs.Numbers.{are_digits}
use Rattle.numbers.proofs.Digits.{digit_at_lem}
use Rattle.crews.specs.Crews.{lead_code, is_code, is_in, distinct, codes_allowed, code_at, codes_in, codes_at}
use Rattle.crews.proofs.Codes.{codes_only}

pub length_codes_in : (s : List ℕ) → length (codes_in s) ≡ length s / 2
unfolding codes_in
length_codes_in [] = refl
length_codes_in (a ∷ []) = refl
length_codes_in (a ∷ b ∷ s) = omega (arith, length_codes_in s)

-- the values of a code's two digits
pub record Pair (s : List ℕ) (i : ℕ) : Type 0 where
  pub tens_low : 48 ≤ get_or s (2 * i) 0
  pub tens_high : get_or s (2 * i) 0 ≤ 57
  pub ones_low : 48 ≤ get_or s (2 * i + 1) 0
  pub ones_high : get_or s (2 * i + 1) 0 ≤ 57

pub pair : (s : List ℕ) (i : ℕ) → are_digits s ≡ true → 2 * i + 1 < length s → Pair s i
pair s i d h =
    let tens = digit_at_lem s (2 * i) d (omega arith) in
    let ones = digit_at_lem s (2 * i + 1) d h in
    record { tens_low = tens.0; tens_high = tens.1; ones_low = ones.0; ones_high = ones.1 }

-- the i-th code, and those behind it
pub codes_from : (s : List ℕ) (i : ℕ) → 2 * i + 1 < length s → codes_in (drop (2 * i) s) ≡ code_at s i ∷ codes_in (drop (2 * (i + 1)) s)
unfolding codes_in
codes_from s i h =
    let one : 2 * i + 1 ≡ suc (2 * i) = omega arith in
    let two : 2 * (i + 1) ≡ suc (suc (2 * i)) = omega arith in
    rw (one, two, drop-cons s (2 * i) 0 (omega arith), drop-cons s (suc (2 * i)) 0 (omega arith))

pub codes_end : (s : List ℕ) (i : ℕ) → length s / 2 ≤ i → codes_in (drop (2 * i) s) ≡ []
codes_end s i h = none (codes_in (drop (2 * i) s)) (omega (arith, length_codes_in (drop (2 * i) s), length-drop (2 * i) s))
  where
    none : (codes : List ℕ) → length codes ≤ 0 → codes ≡ []
    none [] l = refl
    none (c ∷ cs) l = absurd (omega arith)

code_in : (s : List ℕ) (i : ℕ) → 2 * i + 1 < length s → code_at s i ≡ get_or (codes_in s) i 0
unfolding codes_in
code_in [] i h = absurd (omega arith)
code_in (a ∷ []) i h = absurd (omega arith)
code_in (a ∷ b ∷ s) zero h = refl
code_in (a ∷ b ∷ s) (suc i) h =
    let tens : 2 * suc i ≡ suc (suc (2 * i)) = omega arith in
    let ones : 2 * suc i + 1 ≡ suc (suc (2 * i + 1)) = omega arith in
    rw (ones, tens) (code_in s i (omega arith))

-- what a caller of `code_at` is told
pub code_at_lem : (s : List ℕ) {codes : List ℕ} (i : ℕ) → codes_at s ≡ some codes → i < length codes → code_at s i ≡ get_or codes i 0
code_at_lem s {codes} i r h = let same = (codes_only s r).same in rw (← same) (code_in s i (omega (arith, length_codes_in s, ap length same)))

-- ---- whether a code stands among others

module _ (c : ℕ) (s : List ℕ) (i : ℕ) (left : is_in c (codes_in s) ≡ is_in c (codes_in (drop (2 * i) s))) where
  pub among_end : length s / 2 ≤ i → false ≡ is_in c (codes_in s)
  unfolding is_in
  among_end h = sym (left ∙ rw (codes_end s i h))

  module _ (h : 2 * i + 1 < length s) where
    pub among_found : code_at s i ≡ c → true ≡ is_in c (codes_in s)
    unfolding is_in
    among_found e = sym (left ∙ rw (codes_from s i h, eq-eqb (code_at s i) c e))

    pub among_step : (code_at s i ≡ c → ⊥) → is_in c (codes_in s) ≡ is_in c (codes_in (drop (2 * (i + 1)) s))
    unfolding is_in
    among_step e = left ∙ rw (codes_from s i h, ne_eqb (code_at s i) c e)

-- ---- whether codes are allowed

module _ (s : List ℕ) (i : ℕ) (left : codes_allowed (codes_in s) ≡ codes_allowed (codes_in (drop (2 * i) s))) where
  pub allowed_end : length s / 2 ≤ i → true ≡ codes_allowed (codes_in s)
  unfolding each distinct
  allowed_end h = sym (left ∙ rw (codes_end s i h))

  module _ (h : 2 * i + 1 < length s) where
    pub allowed_lead : code_at s i ≡ lead_code → false ≡ codes_allowed (codes_in s)
    unfolding each is_code
    allowed_lead e = sym (left ∙ rw (codes_from s i h, eq-eqb (code_at s i) lead_code e, and-false))

    pub allowed_twice : is_in (code_at s i) (codes_in (drop (2 * (i + 1)) s)) ≡ true → false ≡ codes_allowed (codes_in s)
    unfolding distinct
    allowed_twice e = sym (left ∙ rw (codes_from s i h, e, and-false))

    pub allowed_step :
        are_digits s ≡ true → (code_at s i ≡ lead_code → ⊥) → is_in (code_at s i) (codes_in (drop (2 * (i + 1)) s)) ≡ false
        → codes_allowed (codes_in s) ≡ codes_allowed (codes_in (drop (2 * (i + 1)) s))
    unfolding each distinct is_code
    allowed_step d e o =
        let p = pair s i d h in
        left ∙ rw (codes_from s i h, lt-ltb (code_at s i) 100 (omega arith), ne_eqb (code_at s i) lead_code e, o)
