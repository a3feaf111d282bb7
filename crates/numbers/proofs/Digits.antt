-- Digits put behind a 1, and the digits behind the 1 of a number: each undoes the other, and leading zeros count. Assumes nothing.
use Rattle.std.proofs.Common.{◌≡◌, ℕ, zero, suc, ◌+◌, ◌-◌, ◌*◌, ◌/◌, ◌%◌, ◌^◌, ◌<◌, ◌≤◌, true, leb, List, [], ◌∷◌, ◌++◌, length, get_or, sym, refl, ap, ◌∙◌, append-nil, le_trans, le_of_eq, lt_of_lt_of_le, add-zero, mul-le-mul_right, mul_assoc, mul_comm, mul-le-mul_left, pow-suc, mul-one, arith, lit<, length-append, le-ltb, lt-ltb, le-leb, leb-true}
use native.Mathlib.Nat.{pow-zero, one-le-pow}
use lib.Seq.{append_snoc}
use Rattle.answers.specs.Leading.{each}
use Rattle.answers.proofs.Leading.{each_head, each_tail, each_at, each_append}
use Rattle.answers.proofs.Tests.{and_left, and_right, and_both}
use Rattle.numbers.specs.Numbers.{fewest_digits, most_digits, is_digit, are_digits, pushed, stored_form, is_number, digits_up_to, digits_of}
use Rattle.numbers.proofs.Lengths.{HasLength, length_of, is_number_lem}

-- ---- digits are characters

pub digit_range : (c : ℕ) → is_digit c ≡ true → (48 ≤ c) × (c ≤ 57)
unfolding is_digit
digit_range c h = (leb-true 48 c (and_left (leb 48 c) (leb c 57) h), leb-true c 57 (and_right (leb 48 c) (leb c 57) h))

-- the one at a place
pub digit_at_lem : (digits : List ℕ) (i : ℕ) → are_digits digits ≡ true → i < length digits → (48 ≤ get_or digits i 0) × (get_or digits i 0 ≤ 57)
digit_at_lem digits i h l = digit_range (get_or digits i 0) (each_at is_digit digits i h l)

pub digit_is : (c : ℕ) → 48 ≤ c → c ≤ 57 → is_digit c ≡ true
unfolding is_digit
digit_is c l h = and_both (leb 48 c) (leb c 57) (le-leb 48 c l) (le-leb c 57 h)

digits_snoc : (cs : List ℕ) (c : ℕ) → are_digits cs ≡ true → is_digit c ≡ true → are_digits (cs ++ (c ∷ [])) ≡ true
unfolding each
digits_snoc cs c h d = rw (each_append is_digit cs (c ∷ []), h, d)

-- ---- digits put behind a number

pushed_snoc : (w : ℕ) (cs : List ℕ) (c : ℕ) → pushed w (cs ++ (c ∷ [])) ≡ 10 * pushed w cs + (c - 48)
unfolding pushed
pushed_snoc w [] c = refl
pushed_snoc w (b ∷ cs) c = pushed_snoc (10 * w + (b - 48)) cs c

tenfold : (a n : ℕ) → a * 10 ^ suc n ≡ 10 * a * 10 ^ n
tenfold a n = rw (pow-suc, mul_comm (10 ^ n) 10, ← mul_assoc, mul_comm a 10)

pushed_least : (w : ℕ) (cs : List ℕ) → w * 10 ^ length cs ≤ pushed w cs
unfolding pushed
pushed_least w [] = omega (arith, pow-zero 10)
pushed_least w (c ∷ cs) =
    le_trans (le_of_eq (tenfold w (length cs)))
    (le_trans (mul-le-mul_right (10 ^ length cs) (omega arith)) (pushed_least (10 * w + (c - 48)) cs))

-- digits put behind a number do not make it smaller
pub pushed_grows : (w : ℕ) (cs : List ℕ) → w ≤ pushed w cs
pushed_grows w cs = le_trans (rw mul-one at (mul-le-mul_left w (one-le-pow (length cs) 10 (lit< tt)))) (pushed_least w cs)

pushed_below : (w : ℕ) (cs : List ℕ) → are_digits cs ≡ true → pushed w cs < suc w * 10 ^ length cs
unfolding pushed
pushed_below w [] h = omega (arith, pow-zero 10)
pushed_below w (c ∷ cs) h =
    let d = digit_range c (each_head is_digit c cs h) in
    lt_of_lt_of_le (pushed_below (10 * w + (c - 48)) cs (each_tail is_digit c cs h))
    (le_trans (mul-le-mul_right (10 ^ length cs) (omega arith)) (le_of_eq (sym (tenfold (suc w) (length cs)))))

pub stored_length : (cs : List ℕ) → are_digits cs ≡ true → (10 ^ length cs ≤ stored_form cs) × (stored_form cs < 2 * 10 ^ length cs)
unfolding stored_form
stored_length cs h = (omega (arith, pushed_least 1 cs), pushed_below 1 cs h)

-- the stored form of 5 to 15 digits is a number
pub stored_number : (cs : List ℕ) → are_digits cs ≡ true → fewest_digits ≤ length cs → length cs ≤ most_digits → is_number (stored_form cs) ≡ true
stored_number cs h l m =
    let s = stored_length cs h in
    is_number_lem (length cs) (stored_form cs) (record { fewest = l; most = m; least = s.0; below = s.1 })

-- ---- the digits behind a number's first

pub digits_none : (room w : ℕ) → w < 10 → digits_up_to room w ≡ []
unfolding digits_up_to
digits_none zero w h = refl
digits_none (suc room) w h = rw (lt-ltb w 10 h)

pub digits_last : (room w : ℕ) → 10 ≤ w → digits_up_to (suc room) w ≡ digits_up_to room (w / 10) ++ ((48 + w % 10) ∷ [])
unfolding digits_up_to
digits_last room w h = rw (le-ltb w 10 h)

-- what was put behind w stands behind the digits of w
digits_pushed :
    (cs : List ℕ) (w room r : ℕ) → are_digits cs ≡ true → 0 < w → room ≡ r + length cs → digits_up_to room (pushed w cs) ≡ digits_up_to r w ++ cs
unfolding pushed
digits_pushed [] w room r h p e = rw (e, add-zero, append-nil)
digits_pushed (c ∷ cs) w room r h p e =
    let d = digit_range c (each_head is_digit c cs h) in
    let v = 10 * w + (c - 48) in
    let first : v / 10 ≡ w = omega arith in
    let last : 48 + v % 10 ≡ c = omega arith in
    let one : digits_up_to (suc r) v ≡ digits_up_to r w ++ (c ∷ []) = digits_last r v (omega arith) ∙ rw (first, last) in
    digits_pushed cs v room (suc r) (each_tail is_digit c cs h) (omega arith) (omega arith) ∙ rw one (append_snoc (digits_up_to r w) c cs)

-- any room that they fit gives digits back from their stored form
digits_back : (cs : List ℕ) (room : ℕ) → are_digits cs ≡ true → length cs ≤ room → digits_up_to room (stored_form cs) ≡ cs
unfolding stored_form
digits_back cs room h l =
    digits_pushed cs 1 room (room - length cs) h (omega arith) (omega arith) ∙ rw (digits_none (room - length cs) 1 (omega arith))

-- ---- a number and its digits

-- cs are the n digits of w
record Spelt (n w : ℕ) (cs : List ℕ) : Type 0 where
  size : length cs ≡ n
  digits : are_digits cs ≡ true
  value : stored_form cs ≡ w

spelt : (n room w : ℕ) → n ≤ room → 10 ^ n ≤ w → w < 2 * 10 ^ n → Spelt n w (digits_up_to room w)
unfolding each stored_form pushed
spelt zero room w f l b = rw (digits_none room w (omega arith)) (record { size = refl; digits = refl; value = omega arith })
spelt (suc n) zero w f l b = absurd (omega arith)
spelt (suc n) (suc room) w f l b =
    let ten = pow-suc 10 n in
    let one = one-le-pow n 10 (lit< tt) in
    let rest = spelt n room (w / 10) (omega arith) (omega arith) (omega arith) in
    let cs = digits_up_to room (w / 10) in
    rw (digits_last room w (omega arith))
    (record {
      size = length-append cs ((48 + w % 10) ∷ []) ∙ omega (arith, rest.size);
      digits = digits_snoc cs (48 + w % 10) rest.digits (digit_is (48 + w % 10) (omega arith) (omega arith));
      value = pushed_snoc 1 cs (48 + w % 10) ∙ omega (arith, rest.value);
    })

module _ (w : ℕ) (h : is_number w ≡ true) where
  digits_spelt : (d : ℕ) × HasLength d w × Spelt d w (digits_of w)
  unfolding digits_of
  digits_spelt = let l = length_of w h in (l.0, l.1, spelt l.0 most_digits w l.1.most l.1.least l.1.below)

  pub digits_are : are_digits (digits_of w) ≡ true
  digits_are = digits_spelt.2.digits

  pub digits_fewest : fewest_digits ≤ length (digits_of w)
  digits_fewest = omega (arith, digits_spelt.1.fewest, digits_spelt.2.size)

  pub digits_most : length (digits_of w) ≤ most_digits
  digits_most = omega (arith, digits_spelt.1.most, digits_spelt.2.size)

  pub stored_digits : stored_form (digits_of w) ≡ w
  stored_digits = digits_spelt.2.value

  -- room for so many gives them all
  pub digits_fit : digits_up_to (length (digits_of w)) w ≡ digits_of w
  digits_fit = rw stored_digits at (digits_back (digits_of w) (length (digits_of w)) digits_are (omega arith))

  pub digits_least : 10 ^ length (digits_of w) ≤ w
  digits_least = rw stored_digits at (stored_length (digits_of w) digits_are).0

  pub digits_below : w < 2 * 10 ^ length (digits_of w)
  digits_below = rw stored_digits at (stored_length (digits_of w) digits_are).1

pub digits_stored : (cs : List ℕ) → are_digits cs ≡ true → length cs ≤ most_digits → digits_of (stored_form cs) ≡ cs
unfolding digits_of
digits_stored cs h l = digits_back cs most_digits h l

-- ---- a number is its digits

pub same_number : (v w : ℕ) → is_number v ≡ true → is_number w ≡ true → digits_of v ≡ digits_of w → v ≡ w
same_number v w g h e = sym (stored_digits v g) ∙ ap stored_form e ∙ stored_digits w h

pub same_digits : (cs ds : List ℕ) → are_digits cs ≡ true → are_digits ds ≡ true → stored_form cs ≡ stored_form ds → cs ≡ ds
same_digits cs ds g h e =
    let room = length cs + length ds in
    sym (digits_back cs room g (omega arith)) ∙ ap (digits_up_to room) e ∙ digits_back ds room h (omega arith)
