-- Digits read from the front of a string. Assumes nothing.
use Rattle.std.proofs.Common.{◌≡◌, ℕ, suc, ◌+◌, ◌-◌, ◌*◌, ◌^◌, ◌<◌, ◌≤◌, Bool, true, false, cond, ◌&&◌, leb, List, [], ◌∷◌, ◌++◌, length, get_or, take, drop, sym, refl, ap, append-nil, add-one, arith, lit<, take-append-drop, length-take-le, drop-cons, take_at, le-leb, leb-true}
use native.Mathlib.Nat.{pow-le-pow_right}
use borrow.Author.Tests.{lt-leb}
use Rattle.answers.specs.Leading.{leading}
use Rattle.answers.proofs.Leading.{each_head, each_tail, leading_stop, Front, leading_front, leading_append}
use Rattle.answers.proofs.Tests.{and_left, and_right, and_no}
use Rattle.numbers.specs.Numbers.{fewest_digits, most_digits, is_digit, are_digits, pushed, stored_form, is_number, digits_of, leading_digits, leading_number}
use Rattle.std.proofs.lemmas.Option.{same_Some}
use Rattle.std.specs.Prelude.{Option, Some, None}
use Rattle.numbers.proofs.Digits.{digit_range, pushed_grows, stored_length, stored_number}
use Rattle.numbers.proofs.Digits.{digits_are, digits_fewest, digits_most, stored_digits, digits_stored}

-- ---- digits put behind a number, one at a time

-- a turn at i towards t, with w read so far: the next digit, and what is left behind it
pub record Turn (cs : List ℕ) (i w t : ℕ) : Type 0 where
  pub low : 48 ≤ get_or cs i 0
  pub high : get_or cs i 0 ≤ 57
  pub digits : are_digits (drop (i + 1) cs) ≡ true
  pub same : pushed (10 * w + (get_or cs i 0 - 48)) (drop (i + 1) cs) ≡ t

pub turn : (cs : List ℕ) (i w t : ℕ) → i < length cs → are_digits (drop i cs) ≡ true → pushed w (drop i cs) ≡ t → Turn cs i w t
unfolding pushed
turn cs i w t l h e =
    let split = drop-cons cs i 0 l in
    let here = rw split at h in
    let d = digit_range (get_or cs i 0) (each_head is_digit (get_or cs i 0) (drop (suc i) cs) here) in
    record { low = d.0; high = d.1; digits = rw add-one (each_tail is_digit (get_or cs i 0) (drop (suc i) cs) here); same = rw add-one (rw split at e) }

-- what was read of at most 15 digits behind a 1 fits a word
pub stored_fits : (cs ds : List ℕ) (w : ℕ) → are_digits cs ≡ true → length cs ≤ most_digits → pushed w ds ≡ stored_form cs → w < 2 * 10 ^ most_digits
stored_fits cs ds w h m e = omega (arith, stored_length cs h, pow-le-pow_right {n = 10} (lit< tt) m, pushed_grows w ds)

-- ---- the number at the front of a string

pub too_few : (s : List ℕ) (n : ℕ) → n ≡ leading_digits s → n < fewest_digits → leading_number s ≡ None
unfolding leading_number
too_few s n e h = rw (← e, lt-leb fewest_digits n h)

pub too_many : (s : List ℕ) (n : ℕ) → n ≡ leading_digits s → most_digits < n → leading_number s ≡ None
unfolding leading_number
too_many s n e h = rw (← e, and_no (leb fewest_digits n) (leb n most_digits) (lt-leb n most_digits h))

pub reads : (s : List ℕ) (w n : ℕ) → n ≡ leading_digits s → fewest_digits ≤ n → n ≤ most_digits → w ≡ stored_form (take n s) → leading_number s ≡ Some (w, n)
unfolding leading_number
reads s w n e l m v = rw (← e, le-leb fewest_digits n l, le-leb n most_digits m, v)

-- what stands behind a number's digits is no digit: the number is read
pub number_read_lem : (w : ℕ) (s : List ℕ) → is_number w ≡ true → leading_digits s ≡ 0 → leading_number (digits_of w ++ s) ≡ Some (w, length (digits_of w))
number_read_lem w s h e =
    let cs = digits_of w in
    reads (cs ++ s) w (length cs) (omega (arith, leading_append is_digit cs s (digits_are w h), e)) (digits_fewest w h) (digits_most w h)
    (rw (take_at cs s (length cs) refl) (sym (stored_digits w h)))

pub number_read_before : (w c : ℕ) (s : List ℕ) → is_number w ≡ true → is_digit c ≡ false → leading_number (digits_of w ++ c ∷ s) ≡ Some (w, length (digits_of w))
number_read_before w c s h e = number_read_lem w (c ∷ s) h (leading_stop is_digit c s e)

pub number_read_last : (w : ℕ) → is_number w ≡ true → leading_number (digits_of w) ≡ Some (w, length (digits_of w))
unfolding leading
number_read_last w h = rw append-nil at (number_read_lem w [] h refl)

-- the number w of n digits was read from the front of s
pub record ReadFrom (s : List ℕ) (w n : ℕ) : Type 0 where
  pub number : is_number w ≡ true
  pub count : n ≡ length (digits_of w)
  pub front : s ≡ digits_of w ++ drop n s
  pub within : n ≤ length s
  pub fewest : fewest_digits ≤ n
  pub most : n ≤ most_digits
  pub ended : leading_digits (drop n s) ≡ 0

read_front : (s : List ℕ) (n : ℕ) → Front is_digit n s → fewest_digits ≤ n → n ≤ most_digits → ReadFrom s (stored_form (take n s)) n
read_front s n f l m =
    let cs = take n s in
    let size : length cs ≡ n = length-take-le n s f.within in
    let back : digits_of (stored_form cs) ≡ cs = digits_stored cs f.passes (omega arith) in
    record {
      number = stored_number cs f.passes (omega arith) (omega arith);
      count = rw back (sym size);
      front = rw back (sym (take-append-drop n s));
      within = f.within;
      fewest = l;
      most = m;
      ended = f.ended;
    }

-- whatever is read is a number, and its digits stand at the front with no digit behind them
pub read_from : (s : List ℕ) (w n : ℕ) → leading_number s ≡ Some (w, n) → ReadFrom s w n
unfolding leading_number
read_from s w n e = go (leb fewest_digits k && leb k most_digits) refl e
  where
    k : ℕ
    k = leading_digits s

    go :
        (b : Bool) → (leb fewest_digits k && leb k most_digits) ≡ b → cond {A = Option (ℕ × ℕ)} b (Some (stored_form (take k s), k)) None ≡ Some (w, n) → ReadFrom s w n
    go false t r = absurd (let z : ◌≡◌ {A = ℕ} 0 1 = cc in omega arith)
    go true t r =
        let both : (stored_form (take k s), k) ≡ (w, n) = same_Some (stored_form (take k s), k) (w, n) r in
        let value : stored_form (take k s) ≡ w = ap (λ (p : ℕ × ℕ). p.0) both in
        let same : k ≡ n = ap (λ (p : ℕ × ℕ). p.1) both in
        rw (← value, ← same)
        (read_front s k (leading_front is_digit s) (leb-true fewest_digits k (and_left (leb fewest_digits k) (leb k most_digits) t))
        (leb-true k most_digits (and_right (leb fewest_digits k) (leb k most_digits) t)))
