-- The laws of `specs/Packing`: counts and lengths, which characters the packer takes, where a carriage return stands, and what the last octet tells. Assumes nothing.
use mathlib.Core.Path.{◌≡◌, refl, sym, ap, ◌∙◌}
use mathlib.Core.Logic.{◌⊎◌, inl, inr}
use mathlib.Core.Bool.{Bool, true, false, not, ◌&&◌, and_assoc, and-true}
use Prim.Native.Nat.{ℕ, zero, suc, ◌+◌, ◌-◌, ◌*◌, ◌/◌, ◌%◌, ◌^◌, ◌≤◌, ◌<◌}
use native.Mathlib.Nat.{mul-zero, add-zero, zero-div, mod-eq_of_lt, div-div-eq-div-mul, zero-lt-suc}
use native.Mathlib.Numerals.{add-one}
use native.Mathlib.Omega.{arith}
use mathlib.Core.List.{List, [], ◌∷◌}
use lib.ListN.{length, take, drop, get_or, drop_of_length-le}
use lib.Seq.{drop-cons}
use lib.Pow.{pow-add}
use lib.Dec.{ltb, eqb}
use borrow.Author.Tests.{lt-ltb, ne_eqb, ltb-true}
use Rattle.answers.specs.Leading.{each}
use Rattle.answers.proofs.Tests.{and_left, and_right, no_path, same_or_not}
use Rattle.packing.specs.Packing.{value_of, digits, octets_for, chars_in, taken, takes, return_if, padded, packed, characters, readable, filled, kept_if, kept, unpacked}
use Rattle.bases.proofs.Digits.{Below, Below-one, Below-append, pow_mul, number_head, number_drop, length_digits, get_d_digits, take_digits}

-- ---- counts and lengths

-- 7n/8 rounded up, with no product that could overflow
pub octets_count : (n : ℕ) → octets_for n ≡ n - n / 8
unfolding octets_for
octets_count n = omega arith

-- 8m/7 rounded down
pub chars_count : (m : ℕ) → chars_in m ≡ m + m / 7
unfolding chars_in
chars_count m = omega arith

pub length_packed : (cs : List ℕ) → length (packed cs) ≡ octets_for (length cs)
unfolding packed
length_packed cs = length_digits 256 (octets_for (length cs)) (value_of 128 (padded cs))

pub length_characters : (os : List ℕ) → length (characters os) ≡ chars_in (length os)
unfolding characters
length_characters os = length_digits 128 (chars_in (length os)) (value_of 256 os)

-- at most one character is dropped
pub kept_le : (os : List ℕ) → kept os ≤ chars_in (length os)
unfolding kept
kept_le os = go (filled os)
  where
    go : (t : Bool) → kept_if t (chars_in (length os)) ≤ chars_in (length os)
    go true = omega arith
    go false = omega arith

pub kept_ge : (os : List ℕ) → chars_in (length os) ≤ kept os + 1
unfolding kept
kept_ge os = go (filled os)
  where
    go : (t : Bool) → chars_in (length os) ≤ kept_if t (chars_in (length os)) + 1
    go true = omega arith
    go false = omega arith

pub unpacked_is : (os : List ℕ) → unpacked os ≡ digits 128 (kept os) (value_of 256 os)
unfolding unpacked characters
unpacked_is os = take_digits 128 (chars_in (length os)) (value_of 256 os) (kept os) (kept_le os)

pub length_unpacked : (os : List ℕ) → length (unpacked os) ≡ kept os
length_unpacked os = ap length (unpacked_is os) ∙ length_digits 128 (kept os) (value_of 256 os)

pub length_unpacked_le : (os : List ℕ) → length (unpacked os) ≤ chars_in (length os)
length_unpacked_le os = rw length_unpacked (kept_le os)

-- ---- which characters the packer takes

-- a turn of the test, and its end
pub takes_next :
    (cs : List ℕ) (i : ℕ) (ok : Bool) → i < length cs → takes cs ≡ (ok && takes (drop i cs))
    → takes cs ≡ (ok && ltb (get_or cs i 0) 128 && not (eqb (get_or cs i 0) 13) && takes (drop (i + 1) cs))
unfolding each taken
takes_next cs i ok h e = e ∙ rw (add-one, drop-cons cs i 0 h) (simp and_assoc)

pub takes_end : (cs : List ℕ) (i : ℕ) (ok : Bool) → length cs ≤ i → takes cs ≡ (ok && takes (drop i cs)) → ok ≡ takes cs
unfolding each
takes_end cs i ok h e = sym (e ∙ rw (drop_of_length-le cs h) (and-true ok))

pub takes_cons : (c : ℕ) (cs : List ℕ) → c < 128 → (c ≡ 13 → ⊥) → takes cs ≡ true → takes (c ∷ cs) ≡ true
unfolding each taken
takes_cons c cs h f e = rw (lt-ltb c 128 h, ne_eqb c 13 f, e)

pub takes_below : (cs : List ℕ) → takes cs ≡ true → Below 128 cs
unfolding each taken
takes_below [] e zero = omega arith
takes_below [] e (suc k) = omega arith
takes_below (c ∷ cs) e zero = ltb-true c 128 (and_left (ltb c 128) (not (eqb c 13)) (and_left (taken c) (takes cs) e))
takes_below (c ∷ cs) e (suc k) = takes_below cs (and_right (taken c) (takes cs) e) k

pub takes_take : (k : ℕ) (cs : List ℕ) → takes cs ≡ true → takes (take k cs) ≡ true
unfolding each
takes_take zero cs e = refl
takes_take (suc k) [] e = e
takes_take (suc k) (c ∷ cs) e = rw (and_left (taken c) (takes cs) e, takes_take k cs (and_right (taken c) (takes cs) e))

-- ---- the carriage return behind the characters

return_below : (t : Bool) → Below 128 (return_if t)
return_below true k = Below-one 128 13 (omega arith) k
return_below false zero = omega arith
return_below false (suc k) = omega arith

pub padded_below : (cs : List ℕ) → takes cs ≡ true → Below 128 (padded cs)
unfolding padded
padded_below cs e = Below-append 128 cs (return_if (eqb (length cs % 8) 7)) (takes_below cs e) (return_below (eqb (length cs % 8) 7))

-- ---- what the last octet tells

-- what is above a place in the last octet
above_last :
    (os : List ℕ) → Below 256 os → (t s : ℕ) → 7 * t ≡ 8 * (length os - 1) + s
    → value_of 256 os / 128 ^ t ≡ get_or os (length os - 1) 0 / 2 ^ s
unfolding value_of
above_last os b t s e =
    rw (← pow_mul 2 7 t, e, pow-add 2 (8 * (length os - 1)) s, pow_mul 2 8 (length os - 1), ← div-div-eq-div-mul)
    (ap (λ (n : ℕ). n / 2 ^ s)
    (number_drop 256 (omega arith) os (length os - 1) b ∙ number_head 256 os (length os - 1)
    ∙ rw (drop_of_length-le os {i = suc (length os - 1)} (omega arith)) (simp (mul-zero, add-zero))))

-- the unused bits are its highest
pub readable_is : (os : List ℕ) → Below 256 os → (x : ℕ) → x ≡ get_or os (length os - 1) 0 → readable os ≡ eqb (x / 2 ^ (8 - length os % 7)) 0
unfolding readable value_of
readable_is [] b x e = rw (e, zero-div)
readable_is (o ∷ os) b x e = rw (chars_count, e) (ap (λ (n : ℕ). eqb n 0) (above_last (o ∷ os) b _ (8 - length (o ∷ os) % 7) (omega arith)))

-- a last character that fills it up is its seven highest bits
last_character : (os : List ℕ) → Below 256 os → length os % 7 ≡ 0 → get_or (characters os) (chars_in (length os) - 1) 0 ≡ get_or os (length os - 1) 0 / 2
unfolding characters chars_in digits
last_character [] b z = refl
last_character (o ∷ os) b z =
    let m = length (o ∷ os) in
    let x = get_or (o ∷ os) (m - 1) 0 in
    let k = m + m / 7 in
    let small : x / 2 < 128 = omega (arith, b (m - 1)) in
    rw chars_count
    (get_d_digits 128 k (value_of 256 (o ∷ os)) (k - 1) (omega arith) ∙ ap (λ (n : ℕ). n % 128) (above_last (o ∷ os) b (k - 1) 1 (omega arith)) ∙ mod-eq_of_lt small)

pub filled_is : (os : List ℕ) → Below 256 os → (x : ℕ) → x ≡ get_or os (length os - 1) 0 → filled os ≡ (eqb (length os % 7) 0 && eqb (x / 2) 13)
unfolding filled
filled_is os b x e = go (same_or_not (length os % 7) 0)
  where
    go : (length os % 7 ≡ 0) ⊎ (length os % 7 ≡ 0 → ⊥) → filled os ≡ (eqb (length os % 7) 0 && eqb (x / 2) 13)
    go (inl z) = rw (last_character os b z, e)
    go (inr f) = simp (ne_eqb (length os % 7) 0 f)

pub filled_some : (os : List ℕ) → filled os ≡ true → 0 < length os
unfolding filled characters chars_in digits value_of
filled_some [] e = no_path e
filled_some (o ∷ os) e = zero-lt-suc (length os)

pub kept_less : (os : List ℕ) → filled os ≡ true → length os + length os / 7 - 1 ≡ kept os
unfolding kept
kept_less os e = rw (e, chars_count)

pub kept_all : (os : List ℕ) → filled os ≡ false → length os + length os / 7 ≡ kept os
unfolding kept
kept_all os e = rw (e, chars_count)
