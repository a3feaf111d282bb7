-- The laws of numbers and their digits, to any base. Assumes nothing.
use mathlib.Core.Path.{◌≡◌, refl, sym, ap, ◌∙◌}
use mathlib.Core.Logic.{⊎_elim}
use Prim.Native.Nat.{ℕ, zero, suc, ◌+◌, ◌*◌, ◌/◌, ◌%◌, ◌^◌, ◌≤◌, ◌<◌}
use native.Mathlib.Nat.{mul-zero, add-zero, zero-add, mul-suc, pow-zero, pow-suc, pow-succ', div-one, zero-div, div-eq_of_lt, div-div-eq-div-mul, add-mul-div_left, add-mul-mod_self_left, mod-eq_of_lt, mod-lt, mod-add-div, div-lt_iff_lt-mul, le_of_suc-le-suc, not-suc-le-zero, mul-le-mul_left, mul-le-mul_right, suc-add}
use native.Mathlib.Numerals.{add-one}
use mathlib.Core.List.{List, [], ◌∷◌, ◌++◌}
use lib.ListN.{length, take, drop, get_or, length-take, get_or-eq_default}
use lib.Seq.{get_or-take}
use lib.Pow.{pow-add}
use native.Mathlib.Omega.{arith}
use Rattle.answers.proofs.Tests.{less_or_not}
use Rattle.bases.specs.Bases.{value_of, digits}

pub pow_mul : (b m k : ℕ) → b ^ (m * k) ≡ (b ^ m) ^ k
pow_mul b m zero = simp (mul-zero, pow-zero)
pow_mul b m (suc k) = simp (mul-suc, pow-add, pow-suc, pow_mul b m k)

-- every digit is below b
abbrev pub Below : ℕ → List ℕ → Type 0
Below b ds = (k : ℕ) → get_or ds k 0 < b

pub Below-one : (b d : ℕ) → d < b → Below b (d ∷ [])
Below-one b d h zero = h
Below-one b d h (suc zero) = omega arith
Below-one b d h (suc (suc k)) = omega arith

pub Below-take : (b : ℕ) → 0 < b → (n : ℕ) (ds : List ℕ) → Below b ds → Below b (take n ds)
Below-take b p n ds h k = ⊎_elim inside (λ l. rw (behind l) p) (less_or_not k n)
  where
    inside : k < n → get_or (take n ds) k 0 < b
    inside l = rw (get_or-take n ds k 0 l) (h k)

    behind : n ≤ k → get_or (take n ds) k 0 ≡ 0
    behind l = get_or-eq_default (take n ds) 0 (simp length-take (omega arith))

pub Below-append : (b : ℕ) (xs ys : List ℕ) → Below b xs → Below b ys → Below b (xs ++ ys)
Below-append b [] ys h g k = g k
Below-append b (x ∷ xs) ys h g zero = h 0
Below-append b (x ∷ xs) ys h g (suc k) = Below-append b xs ys (λ i. h (suc i)) g k

-- ---- a number by its digits

-- the digit at i, and what is above it
pub number_head : (b : ℕ) (ds : List ℕ) (i : ℕ) → value_of b (drop i ds) ≡ get_or ds i 0 + b * value_of b (drop (suc i) ds)
unfolding value_of
number_head b [] zero = simp (mul-zero, add-zero)
number_head b [] (suc i) = simp (mul-zero, add-zero)
number_head b (d ∷ ds) zero = refl
number_head b (d ∷ ds) (suc i) = number_head b ds i

-- what is above the i lowest digits
pub number_drop : (b : ℕ) → 0 < b → (ds : List ℕ) (i : ℕ) → Below b ds → value_of b ds / b ^ i ≡ value_of b (drop i ds)
unfolding value_of
number_drop b p ds zero h = simp (pow-zero, div-one)
number_drop b p [] (suc i) h = simp zero-div
number_drop b p (d ∷ ds) (suc i) h =
    simp (pow-succ', ← div-div-eq-div-mul, add-mul-div_left d (value_of b ds) p, div-eq_of_lt (h 0), zero-add)
    (number_drop b p ds i (λ k. h (suc k)))

-- read to a base, or to a lower one
pub number_lt_more : (b c : ℕ) → b ≤ c → (ds : List ℕ) → Below c ds → value_of b ds < c ^ length ds
unfolding value_of
number_lt_more b c h [] f = simp pow-zero (omega arith)
number_lt_more b c h (d ∷ ds) f =
    let r = number_lt_more b c h ds (λ k. f (suc k)) in
    simp pow-succ' (omega (arith, f 0, mul-le-mul_right (value_of b ds) h, mul-suc c (value_of b ds), mul-le-mul_left c r))

pub number_lt : (b : ℕ) (ds : List ℕ) → Below b ds → value_of b ds < b ^ length ds
number_lt b = number_lt_more b b (omega arith)

-- ---- the digits of a number

pub length_digits : (b k n : ℕ) → length (digits b k n) ≡ k
unfolding digits
length_digits b zero n = refl
length_digits b (suc k) n = ap suc (length_digits b k (n / b))

-- l digits more, and one
pub digits_add : (b j l n : ℕ) → digits b (j + l) n ≡ digits b j n ++ digits b l (n / b ^ j)
unfolding digits
digits_add b zero l n = simp (pow-zero, div-one, zero-add)
digits_add b (suc j) l n = rw suc-add (ap (λ (xs : List ℕ). n % b ∷ xs) (digits_add b j l (n / b) ∙ simp (pow-succ', div-div-eq-div-mul)))

pub digits_snoc : (b k n : ℕ) → digits b (suc k) n ≡ digits b k n ++ (n / b ^ k % b ∷ [])
unfolding digits
digits_snoc b k n = ap (λ (m : ℕ). digits b m n) (sym (add-one k)) ∙ digits_add b k 1 n

pub get_d_digits : (b k n i : ℕ) → i < k → get_or (digits b k n) i 0 ≡ n / b ^ i % b
unfolding digits
get_d_digits b zero n i h = absurd (not-suc-le-zero h)
get_d_digits b (suc k) n zero h = simp (pow-zero, div-one)
get_d_digits b (suc k) n (suc i) h = get_d_digits b k (n / b) i (le_of_suc-le-suc h) ∙ simp (pow-succ', div-div-eq-div-mul)

pub take_digits : (b k n i : ℕ) → i ≤ k → take i (digits b k n) ≡ digits b i n
unfolding digits
take_digits b k n zero h = refl
take_digits b zero n (suc i) h = absurd (not-suc-le-zero h)
take_digits b (suc k) n (suc i) h = ap (λ (l : List ℕ). n % b ∷ l) (take_digits b k (n / b) i (le_of_suc-le-suc h))

pub Below-digits : (b : ℕ) → 0 < b → (k n : ℕ) → Below b (digits b k n)
unfolding digits
Below-digits b p zero n zero = p
Below-digits b p zero n (suc i) = p
Below-digits b p (suc k) n zero = mod-lt n p
Below-digits b p (suc k) n (suc i) = Below-digits b p k (n / b) i

-- ---- from digits to the number and back

pub digits_number : (b : ℕ) → 0 < b → (ds : List ℕ) → Below b ds → digits b (length ds) (value_of b ds) ≡ ds
unfolding value_of digits
digits_number b p [] h = refl
digits_number b p (d ∷ ds) h =
    simp (add-mul-mod_self_left, mod-eq_of_lt (h 0), add-mul-div_left d (value_of b ds) p, div-eq_of_lt (h 0), zero-add)
    (ap (λ (l : List ℕ). d ∷ l) (digits_number b p ds (λ k. h (suc k))))

pub number_digits : (b : ℕ) → 0 < b → (k n : ℕ) → n < b ^ k → value_of b (digits b k n) ≡ n
unfolding value_of digits
number_digits b p zero n h = omega (arith, rw pow-zero at h)
number_digits b p (suc k) n h =
    ap (λ (x : ℕ). n % b + b * x) (number_digits b p k (n / b) ((div-lt_iff_lt-mul p).1 (rw pow-suc at h))) ∙ mod-add-div n b
