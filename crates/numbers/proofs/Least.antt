-- How the least number as long as a word tells whether it is a number: the word is not below it, and below twice that. Assumes nothing.
use Rattle.std.proofs.Common.{◌≡◌, ℕ, zero, suc, ◌+◌, ◌-◌, ◌*◌, ◌^◌, ◌<◌, ◌≤◌, Bool, true, false, cond, ltb, leb, ◌⊎◌, sym, refl, ap, ◌∙◌, inl, inr, zero-le, lt_of_lt_of_le, not-suc-le-zero, add-zero, add-suc, pow-suc, arith, lit<, ltb-true, lt-ltb, le-leb, leb-true}
use native.Mathlib.Nat.{pow-le-pow_right}
use borrow.Author.Tests.{lt-leb}
use Rattle.answers.proofs.Tests.{same_test, and_left, and_right, and_both}
use Rattle.numbers.specs.Numbers.{fewest_digits, most_digits, is_number}
use Rattle.numbers.specs.Least.{lengths, least_of, least_for, is_from}
use Rattle.numbers.proofs.Lengths.{length_of, is_number_lem}

-- ---- the least number as long as a word

-- p is 0, or the least number of one of the n shortest lengths
abbrev Entry : ℕ → ℕ → Type 0
Entry n p = (p ≡ 0) ⊎ ((d : ℕ) × (fewest_digits ≤ d) × (d < fewest_digits + n) × (p ≡ 10 ^ d))

entry_is : (w n : ℕ) → Entry n (least_of w n)
unfolding least_of
entry_is w zero = inl refl
entry_is w (suc n) = go (leb (10 ^ (fewest_digits + n)) w) (entry_is w n)
  where
    go : (b : Bool) → Entry n (least_of w n) → Entry (suc n) (cond b (10 ^ (fewest_digits + n)) (least_of w n))
    go false (inl e) = inl e
    go false (inr r) = inr (r.0, r.1, omega (arith, r.2), r.3)
    go true r = inr (fewest_digits + n, omega arith, omega arith, refl)

of_le : (w n : ℕ) → least_of w n ≤ w
unfolding least_of
of_le w zero = zero-le
of_le w (suc n) = go (leb (10 ^ (fewest_digits + n)) w) refl (of_le w n)
  where
    go : (b : Bool) → leb (10 ^ (fewest_digits + n)) w ≡ b → least_of w n ≤ w → cond b (10 ^ (fewest_digits + n)) (least_of w n) ≤ w
    go false e h = h
    go true e h = leb-true (10 ^ (fewest_digits + n)) w e

pub least_le : (w : ℕ) → least_for w ≤ w
unfolding least_for
least_le w = of_le w lengths

-- one that is not above w is taken before all shorter ones,
here : (w n : ℕ) → 10 ^ (fewest_digits + n) ≤ w → least_of w (suc n) ≡ 10 ^ (fewest_digits + n)
unfolding least_of
here w n h = rw (le-leb (10 ^ (fewest_digits + n)) w h)

-- and those above w are passed over
past : (w n k : ℕ) → w < 10 ^ (fewest_digits + n) → least_of w (n + k) ≡ least_of w n
unfolding least_of
past w n zero h = rw add-zero
past w n (suc k) h =
    let above : w < 10 ^ (fewest_digits + (n + k)) = lt_of_lt_of_le h (pow-le-pow_right {n = 10} (lit< tt) (omega arith)) in
    rw (add-suc, lt-leb (10 ^ (fewest_digits + (n + k))) w above) (past w n k h)

pub least_none : (w : ℕ) → w < 10 ^ fewest_digits → least_for w ≡ 0
unfolding least_for least_of
least_none w h = past w 0 lengths h

pub least_longest : (w : ℕ) → 10 ^ most_digits ≤ w → least_for w ≡ 10 ^ most_digits
unfolding least_for
least_longest w h = here w (most_digits - fewest_digits) h

pub least_is : (d w : ℕ) → fewest_digits ≤ d → d ≤ most_digits → 10 ^ d ≤ w → w < 10 ^ suc d → least_for w ≡ 10 ^ d
unfolding least_for
least_is d w f m l b =
    let n = d - fewest_digits in
    let same : fewest_digits + n ≡ d = omega arith in
    let all : suc n + (lengths - suc n) ≡ lengths = omega arith in
    ap (λ (k : ℕ). least_of w k) (sym all) ∙ past w (suc n) (lengths - suc n) (rw (add-suc, same) b) ∙ here w n (rw same l) ∙ rw same

-- ---- one comparison

-- the words from p on, below twice p, are numbers
pub record Starts (p : ℕ) : Type 0 where
  pub small : p ≤ 10 ^ most_digits
  pub numbers : (w : ℕ) → is_from p w ≡ true → is_number w ≡ true

pub starts_none : Starts 0
starts_none = record { small = zero-le; numbers = λ w e. absurd (not-suc-le-zero (ltb-true w (2 * 0) (and_right (leb 0 w) _ e))) }

pub starts_for : (w : ℕ) → Starts (least_for w)
unfolding least_for
starts_for w = go (entry_is w lengths)
  where
    go : {p : ℕ} → Entry lengths p → Starts p
    go (inl e) = rw e starts_none
    go (inr r) =
        let most : r.0 ≤ most_digits = omega (arith, r.2) in
        record {
          small = rw r.3 (pow-le-pow_right {n = 10} (lit< tt) most);
          numbers =
              λ x e.
              is_number_lem r.0 x
              (record {
                fewest = r.1;
                most = most;
                least = omega (arith, leb-true _ x (and_left _ _ e), r.3);
                below = omega (arith, ltb-true x _ (and_right (leb _ x) _ e), r.3);
              });
        }

-- the least number as long as a word tells whether it is a number
pub least_tells : (w : ℕ) → is_from (least_for w) w ≡ is_number w
least_tells w = same_test (is_from (least_for w) w) (is_number w) ((starts_for w).numbers w) (λ n. passes n)
  where
    passes : is_number w ≡ true → is_from (least_for w) w ≡ true
    passes n =
        let l = length_of w n in
        let e = least_is l.0 w l.1.fewest l.1.most l.1.least (omega (arith, l.1.below, pow-suc 10 l.0)) in
        rw e (and_both (leb (10 ^ l.0) w) (ltb w (2 * 10 ^ l.0)) (le-leb (10 ^ l.0) w l.1.least) (lt-ltb w (2 * 10 ^ l.0) l.1.below))

-- and so does its end alone
pub end_tells : (w : ℕ) → is_number w ≡ ltb w (2 * least_for w)
end_tells w = sym (least_tells w) ∙ rw (le-leb (least_for w) w (least_le w))
