-- The packer takes digits, numerals and spaces, texts of texts that it takes, and the text that names a holder. Assumes nothing.
use mathlib.Core.Path.{◌≡◌, refl, ◌∙◌}
use mathlib.Core.Logic.{⊎_elim}
use mathlib.Core.Bool.{true}
use mathlib.Core.List.{List, ◌∷◌, ◌++◌}
use Prim.Native.Nat.{ℕ, ◌+◌, ◌/◌, ◌%◌, ◌≤◌, ◌<◌}
use native.Mathlib.Omega.{arith}
use borrow.Author.Tests.{lt-ltb, le-ltb, ne_eqb}
use Rattle.answers.specs.Leading.{each}
use Rattle.answers.proofs.Tests.{less_or_not}
use Rattle.answers.proofs.Leading.{each_append, each_implies}
use Rattle.packing.specs.Packing.{taken, takes}
use Rattle.numbers.specs.Numbers.{is_digit, is_number, digits_of, two_digits, numeral}
use Rattle.numbers.proofs.Digits.{digit_range, digits_are}
use Rattle.rules.specs.Answers.{holder_text}

pub taken_low : (c : ℕ) → 48 ≤ c → c < 128 → taken c ≡ true
unfolding taken
taken_low c h l = rw (lt-ltb c 128 l, ne_eqb c 13 (λ e. omega arith)) refl

pub takes_two : (n : ℕ) → n < 256 → takes (two_digits n) ≡ true
unfolding each
takes_two n h = rw (taken_low (48 + n / 10) (omega arith) (omega arith), taken_low (48 + n % 10) (omega arith) (omega arith)) refl

pub takes_numeral : (n : ℕ) → n < 256 → takes (numeral n) ≡ true
unfolding each
takes_numeral n h = ⊎_elim (λ l. rw (lt-ltb n 10 l, taken_low (48 + n) (omega arith) (omega arith)) refl) (λ l. rw (le-ltb n 10 l) (takes_two n h)) (less_or_not n 10)

pub takes_both : (a b : List ℕ) → takes a ≡ true → takes b ≡ true → takes (a ++ b) ≡ true
takes_both a b p q = each_append taken a b ∙ rw (p, q) refl

pub takes_space : (a : List ℕ) → takes a ≡ true → takes (32 ∷ a) ≡ true
unfolding each taken
takes_space a p = p

pub digit_taken : (c : ℕ) → is_digit c ≡ true → taken c ≡ true
digit_taken c e = let r = digit_range c e in taken_low c r.0 (omega (arith, r.1))

pub takes_holder : (w : ℕ) → is_number w ≡ true → takes (holder_text w) ≡ true
unfolding each taken
takes_holder w e = each_implies is_digit taken digit_taken (digits_of w) (digits_are w e)
