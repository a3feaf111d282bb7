-- The first octet of an answer: the transaction flag is inverted, and nothing else. Assumes nothing.
use mathlib.Core.Path.{◌≡◌, ap, ◌∙◌}
use mathlib.Core.Logic.{⊎_elim}
use Prim.Native.Nat.{ℕ, ◌+◌, ◌-◌, ◌/◌, ◌%◌, ◌≤◌, ◌<◌}
use native.Mathlib.Omega.{arith}
use borrow.Author.Tests.{lt-ltb, le-ltb}
use Rattle.answers.proofs.Tests.{less_or_not}
use Rattle.frames.specs.Messages.{flag, inverted}

pub flag_set : (f : ℕ) → f < flag → inverted f ≡ f + flag
unfolding inverted
flag_set f h = rw (lt-ltb f flag h)

pub flag_cleared : (f : ℕ) → flag ≤ f → inverted f ≡ f - flag
unfolding inverted
flag_cleared f h = rw (le-ltb f flag h)

module _ (f : ℕ) where
  -- the identifier's value and the low half stay
  pub value_kept : inverted f % flag ≡ f % flag
  value_kept = ⊎_elim (λ h. omega (arith, flag_set f h)) (λ h. omega (arith, flag_cleared f h)) (less_or_not f flag)

  pub half_kept : inverted f % 16 ≡ f % 16
  half_kept = ⊎_elim (λ h. omega (arith, flag_set f h)) (λ h. omega (arith, flag_cleared f h)) (less_or_not f flag)

module _ (f : ℕ) (octet : f < 256) where
  -- one of the two has the flag
  pub flag_other : f / flag + inverted f / flag ≡ 1
  flag_other = ⊎_elim (λ h. omega (arith, flag_set f h)) (λ h. omega (arith, flag_cleared f h)) (less_or_not f flag)

  pub inverted_twice : inverted (inverted f) ≡ f
  inverted_twice =
      ⊎_elim (λ h. ap inverted (flag_set f h) ∙ flag_cleared (f + flag) (omega arith) ∙ omega arith)
      (λ h. ap inverted (flag_cleared f h) ∙ flag_set (f - flag) (omega arith) ∙ omega arith)
      (less_or_not f flag)
