-- Codes and their digits: each undoes the other. Assumes nothing.
use mathlib.Core.Path.{◌≡◌, refl, sym, ap, ◌∙◌}
use mathlib.Core.Bool.{true, not, ◌&&◌}
use mathlib.Core.Option.{some}
use mathlib.Core.List.{List, [], ◌∷◌, ◌++◌}
use Prim.Native.Nat.{ℕ, ◌+◌, ◌*◌, ◌/◌, ◌%◌, ◌<◌}
use native.Mathlib.Omega.{arith}
use lib.ListN.{length}
use lib.Dec.{eqb, ltb}
use borrow.Author.Tests.{eqb-true, eq-eqb, ltb-true}
use Rattle.answers.specs.Leading.{each}
use Rattle.answers.proofs.Tests.{and_left, and_right}
use Rattle.answers.proofs.Leading.{each_head, each_tail}
use Rattle.answers.proofs.Checks.{only_if_some}
use Rattle.numbers.specs.Numbers.{is_digit, are_digits, two_digits}
use Rattle.numbers.proofs.Digits.{digit_range, digit_is}
use Rattle.crews.specs.Crews.{lead_code, codes_text, is_code, code_of, codes_in, codes_at}

-- ---- one code

pub code_below : (c : ℕ) → is_code c ≡ true → c < 100
unfolding is_code
code_below c h = ltb-true c 100 (and_left (ltb c 100) (not (eqb c lead_code)) h)

-- the digits of a value, and the value of digits
value_of_lem : (c : ℕ) → code_of (48 + c / 10) (48 + c % 10) ≡ c
value_of_lem c = omega arith

digits_of_lem : (a b : ℕ) → is_digit a ≡ true → is_digit b ≡ true → two_digits (code_of a b) ≡ a ∷ b ∷ []
digits_of_lem a b p q =
    let r = digit_range a p in
    let s = digit_range b q in
    let tens : 48 + code_of a b / 10 ≡ a = omega arith in
    let ones : 48 + code_of a b % 10 ≡ b = omega arith in
    rw (tens, ones)

pub two_digits_lem : (c : ℕ) (s : List ℕ) → c < 100 → are_digits s ≡ true → are_digits (two_digits c ++ s) ≡ true
unfolding each
two_digits_lem c s h d = rw (digit_is (48 + c / 10) (omega arith) (omega arith), digit_is (48 + c % 10) (omega arith) (omega arith)) d

-- ---- codes one behind the other

pub length_codes : (codes : List ℕ) → length (codes_text codes) ≡ 2 * length codes
length_codes [] = refl
length_codes (c ∷ cs) = omega (arith, length_codes cs)

pub digits_codes : (codes : List ℕ) → each is_code codes ≡ true → are_digits (codes_text codes) ≡ true
unfolding each
digits_codes [] h = refl
digits_codes (c ∷ cs) h = two_digits_lem c (codes_text cs) (code_below c (each_head is_code c cs h)) (digits_codes cs (each_tail is_code c cs h))

codes_in_text : (codes : List ℕ) → codes_in (codes_text codes) ≡ codes
unfolding codes_in
codes_in_text [] = refl
codes_in_text (c ∷ cs) = rw (value_of_lem c, codes_in_text cs)

pub codes_back : (codes : List ℕ) → each is_code codes ≡ true → codes_at (codes_text codes) ≡ some codes
unfolding codes_at
codes_back codes h =
    let even = eq-eqb (length (codes_text codes) % 2) 0 (omega (arith, length_codes codes)) in
    rw (digits_codes codes h, even, codes_in_text codes)

text_of_codes : (s : List ℕ) → are_digits s ≡ true → length s % 2 ≡ 0 → s ≡ codes_text (codes_in s)
unfolding codes_in
text_of_codes [] d e = refl
text_of_codes (a ∷ []) d e = absurd (omega arith)
text_of_codes (a ∷ b ∷ s) d e =
    let p = each_head is_digit a (b ∷ s) d in
    let rest = each_tail is_digit a (b ∷ s) d in
    let q = each_head is_digit b s rest in
    ap (λ (l : List ℕ). a ∷ b ∷ l) (text_of_codes s (each_tail is_digit b s rest) (omega arith))
    ∙ ap (λ (l : List ℕ). l ++ codes_text (codes_in s)) (sym (digits_of_lem a b p q))

-- what was read as codes
pub record ReadAs (s codes : List ℕ) : Type 0 where
  pub digits : are_digits s ≡ true
  pub text : s ≡ codes_text codes
  pub same : codes_in s ≡ codes

pub codes_only : (s : List ℕ) {codes : List ℕ} → codes_at s ≡ some codes → ReadAs s codes
unfolding codes_at
codes_only s h =
    let k = only_if_some (are_digits s && eqb (length s % 2) 0) h in
    let d = and_left (are_digits s) (eqb (length s % 2) 0) k.0 in
    let e = eqb-true (length s % 2) 0 (and_right (are_digits s) (eqb (length s % 2) 0) k.0) in
    record { digits = d; text = text_of_codes s d e ∙ ap codes_text k.1; same = k.1 }
