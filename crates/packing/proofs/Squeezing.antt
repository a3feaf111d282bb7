-- Eight digits in one number, eight bits or seven bits to each: of each two neighbours the higher moves, first digits, then pairs, then fours. Assumes nothing.
use mathlib.Core.Path.{◌≡◌, refl, sym, ap, ◌∙◌}
use Prim.Native.Nat.{ℕ, zero, suc, ◌+◌, ◌-◌, ◌*◌, ◌/◌, ◌%◌, ◌^◌, ◌≤◌, ◌<◌}
use native.Mathlib.Nat.{mul-zero, add-zero, mul-add, add-mul, mul_assoc, mul_comm, add_comm, add_assoc, mod-eq_of_lt, add-mul-div_left, div-eq_of_lt, div-add-mod', lt_of_lt_of_le, mod-lt}
use native.Mathlib.Omega.{arith}
use mathlib.Core.List.{List, [], ◌∷◌}
use lib.ListN.{length}
use lib.Arith.{digits_lt}
use lib.Pow.{pow-add, pow_pos, pow_mono, ones_lt}
use lib.Bits.{bit_and, and_block, and_mask, and_zero_r}
use Rattle.packing.specs.Packing.{value_of}
use Rattle.bases.proofs.Digits.{Below}

-- each two digits as one, the higher c times as much as the lower
abbrev pairs : ℕ → List ℕ → List ℕ
pairs c [] = []
pairs c (l ∷ []) = []
pairs c (l ∷ h ∷ ds) = (l + c * h) ∷ pairs c ds

-- the higher of each two digits
abbrev highs : List ℕ → List ℕ
highs [] = []
highs (l ∷ []) = []
highs (l ∷ h ∷ ds) = h ∷ highs ds

-- n digits m
abbrev masks : ℕ → ℕ → List ℕ
masks m zero = []
masks m (suc n) = m ∷ masks m n

-- ---- each two digits as one

length_pairs : (c : ℕ) (ds : List ℕ) (n : ℕ) → length ds ≡ 2 * n → length (pairs c ds) ≡ n
length_pairs c [] n e = omega arith
length_pairs c (l ∷ []) n e = absurd (omega arith)
length_pairs c (l ∷ h ∷ ds) n e = omega (arith, length_pairs c ds (n - 1) (omega arith))

below_pairs : (b : ℕ) → 0 < b → (ds : List ℕ) → Below b ds → Below (b * b) (pairs b ds)
below_pairs b z [] f k = omega (arith, digits_lt z z)
below_pairs b z (l ∷ []) f k = omega (arith, digits_lt z z)
below_pairs b z (l ∷ h ∷ ds) f zero = omega (arith, digits_lt (f 1) (f 0), mul_comm b h)
below_pairs b z (l ∷ h ∷ ds) f (suc k) = below_pairs b z ds (λ i. f (suc (suc i))) k

-- two digits to a base are one to its square
number_pairs : (b : ℕ) (ds : List ℕ) (n : ℕ) → length ds ≡ 2 * n → value_of (b * b) (pairs b ds) ≡ value_of b ds
unfolding value_of
number_pairs b [] n e = refl
number_pairs b (l ∷ []) n e = absurd (omega arith)
number_pairs b (l ∷ h ∷ ds) n e = rw (number_pairs b ds (n - 1) (omega arith), mul-add, mul_assoc) (omega arith)

-- one digit is the same number to any base
number_one : (a b : ℕ) (ds : List ℕ) → length ds ≡ 1 → value_of a ds ≡ value_of b ds
unfolding value_of
number_one a b [] e = absurd (omega arith)
number_one a b (d ∷ []) e = simp mul-zero
number_one a b (d ∷ d' ∷ ds) e = absurd (omega arith)

-- the higher digits a times as much, and not c times
repaired : (B a c : ℕ) (ds : List ℕ) → value_of B (pairs c ds) + a * value_of B (highs ds) ≡ value_of B (pairs a ds) + c * value_of B (highs ds)
unfolding value_of
repaired B a c [] = simp mul-zero
repaired B a c (l ∷ []) = simp mul-zero
repaired B a c (l ∷ h ∷ ds) =
    rw (mul-add a h, mul-add c h, swap a, swap c)
    (omega (arith, mul-add B (value_of B (pairs c ds)) (a * value_of B (highs ds)), mul-add B (value_of B (pairs a ds)) (c * value_of B (highs ds)), ap (λ (n : ℕ). B * n) (repaired B a c ds)))
  where
    swap : (x : ℕ) → x * (B * value_of B (highs ds)) ≡ B * (x * value_of B (highs ds))
    swap x = rw (← mul_assoc x B (value_of B (highs ds)), mul_comm x B, mul_assoc)

-- ---- what a mask picks

-- a mask that stands u bits up
and_up : (u x m : ℕ) → bit_and x (m * 2 ^ u) ≡ bit_and (x / 2 ^ u) m * 2 ^ u
and_up u x m =
    ap (λ (n : ℕ). bit_and n (m * 2 ^ u)) (sym (div-add-mod' x (2 ^ u)))
    ∙ ap (λ (n : ℕ). bit_and (x / 2 ^ u * 2 ^ u + x % 2 ^ u) n) (sym (add-zero (m * 2 ^ u)))
    ∙ and_block u (x / 2 ^ u) m (x % 2 ^ u) 0 (mod-lt x (pow_pos u)) (pow_pos u)
    ∙ rw (and_zero_r, add-zero)

above_first : (p q Q l h x : ℕ) → 0 < p → l < p → Q ≡ p * q → (l + p * h + Q * x) / p ≡ x * q + h
above_first p q Q l h x z f e =
    rw (e, mul_assoc p q x, add_assoc, ← mul-add, add-mul-div_left l (h + q * x) z, div-eq_of_lt f) (omega (arith, mul_comm q x))

mask_up : (p q Q o m : ℕ) → Q ≡ p * q → o + Q * m ≡ m * p * q + o
mask_up p q Q o m e = rw (e, mul_assoc m p q, mul_comm m (p * q)) (add_comm o (p * q * m))

-- ones, u to a pair of W bits, pick the higher digits, which have u bits and stand u bits up
picked :
    (W u : ℕ) → u + u ≤ W → (ds : List ℕ) (n : ℕ) → length ds ≡ 2 * n → Below (2 ^ u) ds
    → bit_and (value_of (2 ^ W) (pairs (2 ^ u) ds) / 2 ^ u) (value_of (2 ^ W) (masks (2 ^ u - 1) n)) ≡ value_of (2 ^ W) (highs ds)
unfolding value_of
picked W u r [] zero e f = and_zero_r (0 / 2 ^ u)
picked W u r [] (suc n) e f = absurd (omega arith)
picked W u r (l ∷ []) n e f = absurd (omega arith)
picked W u r (l ∷ h ∷ ds) zero e f = absurd (omega arith)
picked W u r (l ∷ h ∷ ds) (suc n) e f =
    rw (low, high)
    (and_block k x (m * 2 ^ u) h (2 ^ u - 1) (lt_of_lt_of_le (f 1) fits) (lt_of_lt_of_le (ones_lt u) fits)
    ∙ rw (and_mask, mod-eq_of_lt (f 1), and_up u x m, picked W u r ds n (omega arith) (λ i. f (suc (suc i))), mul_assoc, ← pow-add, whole)
    (omega (arith, mul_comm (2 ^ W) (value_of (2 ^ W) (highs ds)))))
  where
    k : ℕ
    k = W - u

    x : ℕ
    x = value_of (2 ^ W) (pairs (2 ^ u) ds)

    m : ℕ
    m = value_of (2 ^ W) (masks (2 ^ u - 1) n)

    fits : 2 ^ u ≤ 2 ^ k
    fits = pow_mono {i = u} {j = k} (omega arith)

    whole : u + k ≡ W
    whole = omega arith

    split : 2 ^ W ≡ 2 ^ u * 2 ^ k
    split = ap (λ (n : ℕ). 2 ^ n) (sym whole) ∙ pow-add 2 u k

    low : (l + 2 ^ u * h + 2 ^ W * x) / 2 ^ u ≡ x * 2 ^ k + h
    low = above_first (2 ^ u) (2 ^ k) (2 ^ W) l h x (pow_pos u) (f 0) split

    high : 2 ^ u - 1 + 2 ^ W * m ≡ m * 2 ^ u * 2 ^ k + (2 ^ u - 1)
    high = mask_up (2 ^ u) (2 ^ k) (2 ^ W) (2 ^ u - 1) m split

-- ---- a step: two digits have w + w bits, and the higher stands w bits up or v

module _ (w v gap n : ℕ) (g : 2 ^ w ≡ 2 ^ v + gap) (ds : List ℕ) (len : length ds ≡ 2 * n) where
  whole : value_of (2 ^ (w + w)) (pairs (2 ^ w) ds) ≡ value_of (2 ^ w) ds
  whole = rw (pow-add 2 w w) (number_pairs (2 ^ w) ds n len)

  -- what the higher digits make out, between the two
  between : value_of (2 ^ (w + w)) (pairs (2 ^ v) ds) + value_of (2 ^ (w + w)) (highs ds) * gap ≡ value_of (2 ^ w) ds
  between =
      let o = value_of (2 ^ (w + w)) (highs ds) in
      omega (arith, repaired (2 ^ (w + w)) (2 ^ v) (2 ^ w) ds, ap (λ (t : ℕ). t * o) g, add-mul (2 ^ v) gap o, mul_comm gap o, whole)

  nearer :
      Below (2 ^ w) ds → (x : ℕ) → x ≡ value_of (2 ^ w) ds
      → x - bit_and (x / 2 ^ w) (value_of (2 ^ (w + w)) (masks (2 ^ w - 1) n)) * gap ≡ value_of (2 ^ (w + w)) (pairs (2 ^ v) ds)
  nearer f x e =
      let m = value_of (2 ^ (w + w)) (masks (2 ^ w - 1) n) in
      let p : bit_and (x / 2 ^ w) m ≡ value_of (2 ^ (w + w)) (highs ds) = ap (λ (t : ℕ). bit_and (t / 2 ^ w) m) (e ∙ sym whole) ∙ picked (w + w) w (omega arith) ds n len f in
      ap (λ (t : ℕ). x - t * gap) p ∙ omega (arith, between, e)

  apart :
      v ≤ w → Below (2 ^ v) ds → (x : ℕ) → x ≡ value_of (2 ^ (w + w)) (pairs (2 ^ v) ds)
      → x + bit_and (x / 2 ^ v) (value_of (2 ^ (w + w)) (masks (2 ^ v - 1) n)) * gap ≡ value_of (2 ^ w) ds
  apart h f x e =
      let m = value_of (2 ^ (w + w)) (masks (2 ^ v - 1) n) in
      let p : bit_and (x / 2 ^ v) m ≡ value_of (2 ^ (w + w)) (highs ds) = ap (λ (t : ℕ). bit_and (t / 2 ^ v) m) e ∙ picked (w + w) v (omega arith) ds n len f in
      ap (λ (t : ℕ). x + t * gap) p ∙ omega (arith, between, e)

-- ---- eight digits below 128

-- the two lower steps from eight bits to seven
abbrev pub twos_squeezed : ℕ → ℕ
twos_squeezed x = x - bit_and (x / 256) 0x00ff00ff00ff00ff * 128

abbrev pub fours_squeezed : ℕ → ℕ
fours_squeezed x = twos_squeezed x - bit_and (twos_squeezed x / 2 ^ 16) 0x0000ffff0000ffff * 0xc000

-- and from seven to eight
abbrev pub fours_spread : ℕ → ℕ
fours_spread x = x + bit_and (x / 2 ^ 28) 0x0fffffff * 0xf0000000

abbrev pub twos_spread : ℕ → ℕ
twos_spread x = fours_spread x + bit_and (fours_spread x / 2 ^ 14) 0x00003fff00003fff * 0xc000

abbrev twos_of : List ℕ → List ℕ
twos_of ds = pairs 128 ds

abbrev fours_of : List ℕ → List ℕ
fours_of ds = pairs (2 ^ 14) (twos_of ds)

module _ (ds : List ℕ) (len : length ds ≡ 8) (f : Below 128 ds) where
  length_twos : length (twos_of ds) ≡ 4
  length_twos = length_pairs 128 ds 4 len

  length_fours : length (fours_of ds) ≡ 2
  length_fours = length_pairs (2 ^ 14) (twos_of ds) 2 length_twos

  below_twos : Below (2 ^ 14) (twos_of ds)
  below_twos = below_pairs 128 (omega arith) ds f

  below_fours : Below (2 ^ 28) (fours_of ds)
  below_fours = below_pairs (2 ^ 14) (omega arith) (twos_of ds) below_twos

  -- all of them are one digit of 56 bits
  all : value_of (2 ^ 64) (pairs (2 ^ 28) (fours_of ds)) ≡ value_of 128 ds
  all =
      number_one (2 ^ 64) (2 ^ 56) (pairs (2 ^ 28) (fours_of ds)) (length_pairs (2 ^ 28) (fours_of ds) 1 length_fours)
      ∙ number_pairs (2 ^ 28) (fours_of ds) 1 length_fours ∙ number_pairs (2 ^ 14) (twos_of ds) 2 length_twos ∙ number_pairs 128 ds 4 len

  -- from eight bits to seven
  pub narrow : (x : ℕ) → x ≡ value_of 256 ds → fours_squeezed x - bit_and (fours_squeezed x / 2 ^ 32) 0xffffffff * 0xf0000000 ≡ value_of 128 ds
  unfolding value_of
  narrow x e =
      let two : twos_squeezed x ≡ value_of (2 ^ 16) (twos_of ds) = nearer 8 7 128 4 refl ds len (λ k. omega (arith, f k)) x e in
      let four : fours_squeezed x ≡ value_of (2 ^ 32) (fours_of ds) = nearer 16 14 0xc000 2 refl (twos_of ds) length_twos (λ k. omega (arith, below_twos k)) (twos_squeezed x) two in
      nearer 32 28 0xf0000000 1 refl (fours_of ds) length_fours (λ k. omega (arith, below_fours k)) (fours_squeezed x) four ∙ all

  -- from seven bits to eight
  pub widen : (x : ℕ) → x ≡ value_of 128 ds → twos_spread x + bit_and (twos_spread x / 128) 0x007f007f007f007f * 128 ≡ value_of 256 ds
  unfolding value_of
  widen x e =
      let four : fours_spread x ≡ value_of (2 ^ 32) (fours_of ds) = apart 32 28 0xf0000000 1 refl (fours_of ds) length_fours (omega arith) below_fours x (e ∙ sym all) in
      let two : twos_spread x ≡ value_of (2 ^ 16) (twos_of ds) = apart 16 14 0xc000 2 refl (twos_of ds) length_twos (omega arith) below_twos (fours_spread x) four in
      apart 8 7 128 4 refl ds len (omega arith) f (twos_spread x) two
