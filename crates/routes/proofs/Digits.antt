-- The digits asked for: their front, how many they are with the node's code, and the number that they read as. Assumes nothing.
use mathlib.Core.Path.{◌≡◌, refl, sym, ap, ◌∙◌}
use mathlib.Core.Bool.{Bool, true, false, cond}
use mathlib.Core.List.{List, [], ◌∷◌}
use Prim.Native.Nat.{ℕ, ◌+◌, ◌≤◌}
use native.Mathlib.Omega.{arith}
use lib.ListN.{length, take, get_or, length-append}
use lib.Seq.{take-length}
use lib.Dec.{eqb}
use borrow.Author.Tests.{eqb-true}
use Rattle.answers.proofs.Leading.{each_append, each_leading}
use Rattle.answers.proofs.Tests.{no_path, and_left, and_right, and_both}
use Rattle.numbers.specs.Numbers.{fewest_digits, most_digits, is_digit, are_digits, stored_form, leading_digits, leading_number}
use Rattle.std.specs.Prelude.{Some}
use Rattle.numbers.proofs.Reading.{reads}
use Rattle.rules.specs.Routing.{code_length, with_code_in, is_international_code}

-- the first three
pub three_front : (digits : List ℕ) → 3 ≤ length digits → get_or digits 0 0 ∷ get_or digits 1 0 ∷ get_or digits 2 0 ∷ [] ≡ take 3 digits
three_front [] h = absurd (omega arith)
three_front (a ∷ []) h = absurd (omega arith)
three_front (a ∷ b ∷ []) h = absurd (omega arith)
three_front (a ∷ b ∷ c ∷ digits) h = refl

-- 5 to 15 digits read as the number that they are
pub digits_read : (digits : List ℕ) → are_digits digits ≡ true → fewest_digits ≤ length digits → length digits ≤ most_digits
    → leading_number digits ≡ Some (stored_form digits, length digits)
digits_read digits h least most =
    let all = eqb-true (leading_digits digits) (length digits) (sym (each_leading is_digit digits) ∙ h) in
    reads digits (stored_form digits) (length digits) (sym all) least most (ap stored_form (sym (take-length digits)))

-- the digits with the node's code in front, where they have none
module _ (home asked : List ℕ) (known : is_international_code home ≡ true) where
  code_long : length home ≡ code_length
  code_long = eqb-true (length home) code_length (and_left (eqb (length home) code_length) (are_digits home) known)

  pub full_length : (coded : Bool) → length (with_code_in home coded asked) ≡ cond coded (length asked) (code_length + length asked)
  full_length true = refl
  full_length false = length-append home asked ∙ ap (λ (n : ℕ). n + length asked) code_long

  pub full_digits : (coded : Bool) → are_digits asked ≡ true → are_digits (with_code_in home coded asked) ≡ true
  full_digits true h = h
  full_digits false h = each_append is_digit home asked ∙ and_both (are_digits home) (are_digits asked) (and_right (eqb (length home) code_length) (are_digits home) known) h
