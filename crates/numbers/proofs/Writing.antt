-- A number's digits counted and written. Assumes nothing.
use Rattle.std.proofs.Common.{◌≡◌, ℕ, suc, ◌+◌, ◌*◌, ◌/◌, ◌%◌, ◌^◌, ◌<◌, ◌≤◌, true, false, not, ◌⊎◌, List, ◌++◌, length, drop, set, sym, ap, ◌∙◌, inl, inr, pow-suc, arith, lit<, drop-cons, get_or-set_same, drop-set-lt, lt-length-set, le-ltb, lt-ltb}
use native.Mathlib.Nat.{one-le-pow, pow-le-pow_right}
use lib.Seq.{append_snoc}
use Rattle.answers.specs.Writing.{made_write}
use Rattle.std.specs.Prelude.{Result, Ok, Err}
use Rattle.answers.specs.declared.Refusal.{Refusal}
use Rattle.answers.specs.declared.Refusal.TheVariants.{NoRoom, Unfit}
use Rattle.answers.proofs.Tests.{less_or_not}
use Rattle.answers.proofs.Writing.{writing_short, writing_unfit, writing_good, wrote_count, done_good}
use Rattle.numbers.specs.Numbers.{most_digits, is_number, digits_up_to, digits_of, writing_digits}
use Rattle.numbers.proofs.Digits.{digits_last, digits_fit, digits_least, digits_below}

-- ---- counting

-- so many digits stand behind a number's first as its size says
pub count_is : (w n : ℕ) → is_number w ≡ true → 10 ^ n ≤ w → w < 10 * 10 ^ n → n ≡ length (digits_of w)
count_is w n h least below = go (less_or_not n (length (digits_of w))) (less_or_not (length (digits_of w)) n)
  where
    go : (n < length (digits_of w)) ⊎ (length (digits_of w) ≤ n) → (length (digits_of w) < n) ⊎ (n ≤ length (digits_of w)) → n ≡ length (digits_of w)
    go (inl p) q = absurd (omega (arith, below, pow-suc 10 n, digits_least w h, pow-le-pow_right {n = 10} (lit< tt) p))
    go (inr p) (inl q) = absurd (omega (arith, least, pow-suc 10 (length (digits_of w)), digits_below w h, pow-le-pow_right {n = 10} (lit< tt) q))
    go (inr p) (inr q) = omega arith

-- ---- writing from the last digit down

pub write_more :
    (left k w d : ℕ) (out : List ℕ) → left ≡ suc k → d ≡ 48 + w % 10 → k < length out → 10 ≤ w
    → digits_up_to left w ++ drop left out ≡ digits_up_to k (w / 10) ++ drop k (set out k d)
write_more left k w d out e f l m =
    rw (e, digits_last k w m, ← f, drop-cons (set out k d) k 0 (lt-length-set out k d l), get_or-set_same out k d 0 l, drop-set-lt (suc k) out k d (omega arith))
    (append_snoc (digits_up_to k (w / 10)) d (drop (suc k) out))

-- where a digit is left, the 1 or another stands before it
pub left_more : (left k w : ℕ) → left ≡ suc k → 10 ^ left ≤ w → (10 ≤ w) × (10 ^ k ≤ w / 10)
left_more left k w e h =
    let ten = pow-suc 10 k in
    let one = one-le-pow k 10 (lit< tt) in
    let p = rw (e, ten) at h in
    omega arith

-- ---- what the digit writer comes to

pub digits_short : (w : ℕ) (out : List ℕ) → length out < most_digits → made_write (Err NoRoom) out ≡ writing_digits w out
unfolding writing_digits
digits_short w out h = sym (writing_short _ _ _ out (lt-ltb (length out) most_digits h))

pub digits_unfit : (w : ℕ) (out : List ℕ) → most_digits ≤ length out → is_number w ≡ false → made_write (Err Unfit) out ≡ writing_digits w out
unfolding writing_digits
digits_unfit w out h u = sym (writing_unfit _ _ _ out (le-ltb (length out) most_digits h) (ap not u))

pub digits_good :
    (w n : ℕ) (out new : List ℕ) → most_digits ≤ length out → is_number w ≡ true → n ≡ length (digits_of w) → new ≡ digits_up_to n w ++ drop n out
    → made_write (Ok n) new ≡ writing_digits w out
unfolding writing_digits
digits_good w n out new h g e f =
    let all : digits_up_to n w ≡ digits_of w = rw e (digits_fit w g) in
    wrote_count (digits_of w) out new n (sym e) (f ∙ rw all)
    ∙ sym (writing_good _ _ _ out (le-ltb (length out) most_digits h) (ap not g))

-- what a caller knows of a number's digits written where there is room
pub written_digits :
    (w : ℕ) (out : List ℕ) (r : Result ℕ Refusal) (new : List ℕ) → is_number w ≡ true → most_digits ≤ length out → made_write r new ≡ writing_digits w out
    → (r ≡ Ok (length (digits_of w))) × (new ≡ digits_of w ++ drop (length (digits_of w)) out)
unfolding writing_digits
written_digits w out r new g h done = done_good _ _ _ out r new done (le-ltb (length out) most_digits h) (ap not g)
