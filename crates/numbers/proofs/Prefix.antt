-- The characters at the front that pass a test, counted, and all of them tested, as the library does it. Assumes nothing.
use Rattle.std.proofs.Common.{◌≡◌, ℕ, Bool, true, false, cond, suc, ◌+◌, ◌&&◌, List, [], ◌∷◌, refl, ap, arith}
use Rattle.std.specs.List.{prefix_len, list_all}
use Rattle.std.specs.Char.{is_ascii_digit}
use Rattle.answers.specs.Leading.{each, leading}
use Rattle.numbers.specs.Numbers.{is_digit, are_digits}

-- a test that passes what the library's passes
pub leading_prefix : (test counted : ℕ → Bool) → ((c : ℕ) → counted c ≡ test c) → (cs : List ℕ) → leading test cs ≡ prefix_len counted cs
unfolding leading
leading_prefix test counted same [] = refl
leading_prefix test counted same (c ∷ cs) = rw (same c, leading_prefix test counted same cs) (go (test c) (prefix_len counted cs))
  where
    go : (b : Bool) (n : ℕ) → cond b (suc n) 0 ≡ cond b (1 + n) 0
    go true n = omega arith
    go false n = refl

pub digit_same : (c : ℕ) → is_ascii_digit c ≡ is_digit c
unfolding is_digit
digit_same c = refl

-- the library's test of each octet
pub digits_listed : (cs : List ℕ) → are_digits cs ≡ list_all is_ascii_digit cs
unfolding each is_digit
digits_listed [] = refl
digits_listed (c ∷ cs) = ap (λ (b : Bool). is_digit c && b) (digits_listed cs)
