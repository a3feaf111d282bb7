-- A crew's numbers by their digits: another code stands where the last two digits stood. Assumes nothing.
use mathlib.Core.Path.{◌≡◌, sym, ap, ◌∙◌}
use mathlib.Core.Bool.{true}
use mathlib.Core.List.{List, [], ◌∷◌, ◌++◌}
use Prim.Native.Nat.{ℕ, suc, ◌+◌, ◌-◌, ◌*◌, ◌/◌, ◌%◌, ◌≤◌, ◌<◌}
use native.Mathlib.Omega.{arith}
use lib.ListN.{length, take, drop, get_or, take-append-drop}
use lib.Seq.{drop-cons, drop-length}
use Rattle.numbers.specs.Numbers.{fewest_digits, pushed, stored_form, is_number, digits_of}
use Rattle.numbers.proofs.Digits.{digit_at_lem, digits_are, digits_fewest, stored_digits}
use Rattle.rules.specs.Crews.{with_code}
use Rattle.rules.specs.Singles.{replaced}

-- two digits more
pushed_two : (w : ℕ) (cs : List ℕ) (a b : ℕ) → pushed w (cs ++ (a ∷ b ∷ [])) ≡ 100 * pushed w cs + (10 * (a - 48) + (b - 48))
unfolding pushed
pushed_two w [] a b = omega arith
pushed_two w (c ∷ cs) a b = pushed_two (10 * w + (c - 48)) cs a b

-- the last two entries of a list
pub last_two : (s : List ℕ) (n : ℕ) → length s ≡ suc (suc n) → drop n s ≡ get_or s n 0 ∷ get_or s (suc n) 0 ∷ []
last_two s n e = drop-cons s n 0 (omega arith) ∙ ap (λ l. get_or s n 0 ∷ l) (drop-cons s (suc n) 0 (omega arith) ∙ ap (λ l. get_or s (suc n) 0 ∷ l) (ap (λ m. drop m s) (sym e) ∙ drop-length s))

module _ (w code : ℕ) (number : is_number w ≡ true) (small : code < 100) where
  abbrev d : List ℕ
  d = digits_of w

  abbrev n : ℕ
  n = length d - 2

  abbrev front : ℕ
  front = pushed 1 (take n d)

  few : fewest_digits ≤ length d
  few = digits_fewest w number

  split : d ≡ take n d ++ (get_or d n 0 ∷ get_or d (suc n) 0 ∷ [])
  split = sym (take-append-drop n d) ∙ ap (λ l. take n d ++ l) (last_two d n (omega (arith, few)))

  value : w ≡ 100 * front + (10 * (get_or d n 0 - 48) + (get_or d (suc n) 0 - 48))
  unfolding stored_form
  value = sym (stored_digits w number) ∙ ap (pushed 1) split ∙ pushed_two 1 (take n d) (get_or d n 0) (get_or d (suc n) 0)

  pub replaced_code : replaced (record { 0 = w }) code ≡ record { 0 = with_code w code }
  unfolding stored_form with_code
  replaced_code =
      let tens = digit_at_lem d n (digits_are w number) (omega (arith, few)) in
      let ones = digit_at_lem d (suc n) (digits_are w number) (omega (arith, few)) in
      let pushes = pushed_two 1 (take n d) (48 + code / 10) (48 + code % 10) in
      let is = value in
      ap (λ x. record { 0 = x }) (pushes ∙ omega arith)
