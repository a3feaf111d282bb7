-- A number in stored form is a 1 with 5 to 15 digits behind it: its length, and what that says of its size. Assumes nothing.
use Rattle.std.proofs.Common.{◌≡◌, ℕ, zero, suc, ◌+◌, ◌*◌, ◌^◌, ◌<◌, ◌≤◌, Bool, true, false, ◌&&◌, ◌||◌, eqb, ltb, leb, ◌⊎◌, [], refl, inl, inr, ⊎_elim, arith, lit<, ltb-true, lt-ltb, eqb-true, le-leb, leb-true}
use native.Mathlib.Nat.{pow-le-pow_right}
use Rattle.answers.proofs.Tests.{no_path, and_left, and_right, and_both, or_cases, or_left, or_right, less_or_not}
use Rattle.numbers.specs.Numbers.{fewest_digits, most_digits, one_and, is_number, number_or_nobody, digits_up_to, digits_of}
use Rattle.numbers.specs.Least.{lengths}

-- ---- a test of n numbers from d on: one passes, all pass

some_of : ℕ → ℕ → (ℕ → Bool) → Bool
some_of d zero test = false
some_of d (suc n) test = some_of d n test || test (d + n)

unfoldable pub all_of : ℕ → ℕ → (ℕ → Bool) → Bool
all_of d zero test = true
all_of d (suc n) test = all_of d n test && test (d + n)

some_found : (d n : ℕ) (test : ℕ → Bool) → some_of d n test ≡ true → (e : ℕ) × (d ≤ e) × (e < d + n) × (test e ≡ true)
unfolding some_of
some_found d zero test h = no_path h
some_found d (suc n) test h = go (or_cases (some_of d n test) (test (d + n)) h) (some_found d n test)
  where
    go :
        (some_of d n test ≡ true) ⊎ (test (d + n) ≡ true)
        → (some_of d n test ≡ true → (e : ℕ) × (d ≤ e) × (e < d + n) × (test e ≡ true))
        → (e : ℕ) × (d ≤ e) × (e < d + suc n) × (test e ≡ true)
    go (inl p) rest = let r = rest p in (r.0, r.1, omega (arith, r.2), r.3)
    go (inr p) rest = (d + n, omega arith, omega arith, p)

some_at : (d n : ℕ) (test : ℕ → Bool) (e : ℕ) → d ≤ e → e < d + n → test e ≡ true → some_of d n test ≡ true
unfolding some_of
some_at d zero test e l h t = absurd (omega arith)
some_at d (suc n) test e l h t = go (less_or_not e (d + n)) (λ p. some_at d n test e l p t)
  where
    go : (e < d + n) ⊎ (d + n ≤ e) → (e < d + n → some_of d n test ≡ true) → (some_of d n test || test (d + n)) ≡ true
    go (inl p) rest = or_left (some_of d n test) (test (d + n)) (rest p)
    go (inr p) rest = let same : e ≡ d + n = omega arith in or_right (some_of d n test) (test (d + n)) (rw same at t)

pub all_at : (d n : ℕ) (test : ℕ → Bool) → all_of d n test ≡ true → (e : ℕ) → d ≤ e → e < d + n → test e ≡ true
unfolding all_of
all_at d zero test t e l h = absurd (omega arith)
all_at d (suc n) test t e l h = go (less_or_not e (d + n)) (all_at d n test (and_left (all_of d n test) (test (d + n)) t) e l)
  where
    go : (e < d + n) ⊎ (d + n ≤ e) → (e < d + n → test e ≡ true) → test e ≡ true
    go (inl p) rest = rest p
    go (inr p) rest = let same : e ≡ d + n = omega arith in rw same (and_right (all_of d n test) (test (d + n)) t)

-- ---- a number's length

-- w is a number of d digits
pub record HasLength (d w : ℕ) : Type 0 where
  pub fewest : fewest_digits ≤ d
  pub most : d ≤ most_digits
  pub least : 10 ^ d ≤ w
  pub below : w < 2 * 10 ^ d

pub length_of : (w : ℕ) → is_number w ≡ true → (d : ℕ) × HasLength d w
unfolding is_number some_of
length_of w h =
    let s = some_found fewest_digits lengths (λ d. one_and d w) h in
    let e = s.0 in (
      e,
      record {
        fewest = s.1;
        most = omega (arith, s.2);
        least = leb-true (10 ^ e) w (and_left (leb (10 ^ e) w) (ltb w (2 * 10 ^ e)) s.3);
        below = ltb-true w (2 * 10 ^ e) (and_right (leb (10 ^ e) w) (ltb w (2 * 10 ^ e)) s.3);
      },
    )

pub is_number_lem : (d w : ℕ) → HasLength d w → is_number w ≡ true
unfolding is_number some_of
is_number_lem d w h =
    some_at fewest_digits lengths (λ e. one_and e w) d h.fewest (omega (arith, h.most))
    (and_both (leb (10 ^ d) w) (ltb w (2 * 10 ^ d)) (le-leb (10 ^ d) w h.least) (lt-ltb w (2 * 10 ^ d) h.below))

-- ---- a number's size

pub number_least : (w : ℕ) → is_number w ≡ true → 10 ^ fewest_digits ≤ w
number_least w h = let l = length_of w h in omega (arith, l.1.least, pow-le-pow_right {n = 10} (lit< tt) l.1.fewest)

pub number_below : (w : ℕ) → is_number w ≡ true → w < 2 * 10 ^ most_digits
number_below w h = let l = length_of w h in omega (arith, l.1.below, pow-le-pow_right {n = 10} (lit< tt) l.1.most)

-- 0, which means nobody, is none
pub number_some : (w : ℕ) → is_number w ≡ true → w ≡ 0 → ⊥
number_some w h e = omega (arith, number_least w h)

-- ---- nobody

-- nobody has no digits
pub no_digits : digits_of 0 ≡ []
unfolding digits_up_to digits_of
no_digits = refl

-- what holds of nobody and of every number
pub nobody_or_number : (P : ℕ → Type 0) (w : ℕ) → number_or_nobody w ≡ true → P 0 → (is_number w ≡ true → P w) → P w
nobody_or_number P w h nobody number = ⊎_elim (λ z. rw (eqb-true w 0 z) nobody) number (or_cases (eqb w 0) (is_number w) h)
