-- Groups of digits: eight characters are seven octets of the same number. Then the digits that are left over, and those that are stored. Assumes nothing.
use mathlib.Core.Path.{◌≡◌, refl, sym, ap, ◌∙◌}
use Prim.Native.Nat.{ℕ, zero, suc, ◌+◌, ◌-◌, ◌*◌, ◌/◌, ◌%◌, ◌^◌, ◌≤◌, ◌<◌}
use native.Mathlib.Nat.{mul-zero, add-zero, zero-add, mul-add, mul_assoc, pow-zero, pow-suc, pow-succ', div-one, one-mul, div-div-eq-div-mul, add-mul-div_left, add-mul-mod_self_left, lt_of_lt_of_le}
use native.Mathlib.Numerals.{add-one}
use native.Mathlib.Omega.{arith}
use mathlib.Core.List.{List, [], ◌∷◌, ◌++◌, append_assoc, append-nil}
use lib.ListN.{length, take, drop, get_or, length-append, length-drop, set, length-set, drop_of_length-le}
use lib.Seq.{set_at, append_snoc, take_at, drop_at, drop-drop, take_all, drop-cons, get_or-drop}
use lib.Pow.{pow_pos, pow_mono}
use Rattle.std.specs.Int.{w64, to_le_bytes, from_le_bytes}
use Rattle.std.specs.Prelude.{replicate}
use Rattle.bases.specs.Bases.{value_of, digits}
use Rattle.bases.proofs.Digits.{Below, Below-one, Below-append, pow_mul, number_head, number_drop, number_lt_more, length_digits, digits_add, digits_snoc}

-- ---- numbers and digits, apart and together

-- the k lowest digits, and what is above them
number_split : (b : ℕ) (ds : List ℕ) (k : ℕ) → value_of b ds ≡ value_of b (take k ds) + b ^ k * value_of b (drop k ds)
unfolding value_of
number_split b ds zero = simp (pow-zero, one-mul, zero-add)
number_split b [] (suc k) = simp (mul-zero, add-zero)
number_split b (d ∷ ds) (suc k) =
    rw (number_split b ds k, pow-succ', mul-add, mul_assoc) (omega arith)

-- what stands above l digits does not change them
digits_low : (b : ℕ) → 0 < b → (l x y : ℕ) → digits b l (x + b ^ l * y) ≡ digits b l x
unfolding digits
digits_low b p zero x y = refl
digits_low b p (suc l) x y =
    rw (pow-succ', mul_assoc, add-mul-mod_self_left, add-mul-div_left x (b ^ l * y) p)
    (ap (λ (xs : List ℕ). x % b ∷ xs) (digits_low b p l (x / b) y))

-- ---- a group: k digits to the base 2 ^ a are l digits to the base 2 ^ b of the same number

module _ (a b : ℕ) (ds : List ℕ) (f : Below (2 ^ a) ds) (i j : ℕ) (place : a * i ≡ b * j) where
  -- what stands above the digits that are written is the number of those that are left
  pub left_over : value_of (2 ^ a) ds / (2 ^ b) ^ j ≡ value_of (2 ^ a) (drop i ds)
  left_over = rw (← pow_mul 2 b j, ← place, pow_mul 2 a i) (number_drop (2 ^ a) (pow_pos a) ds i f)

  pub group : (k l : ℕ) → a * k ≡ b * l → digits (2 ^ b) l (value_of (2 ^ a) (take k (drop i ds))) ≡ digits (2 ^ b) l (value_of (2 ^ a) ds / (2 ^ b) ^ j)
  group k l e =
      let same : (2 ^ a) ^ k ≡ (2 ^ b) ^ l = sym (pow_mul 2 a k) ∙ ap (λ (n : ℕ). 2 ^ n) e ∙ pow_mul 2 b l in
      sym (digits_low (2 ^ b) (pow_pos b) l (value_of (2 ^ a) (take k (drop i ds))) (value_of (2 ^ a) (drop k (drop i ds))))
      ∙ ap (λ (n : ℕ). digits (2 ^ b) l n) (rw (← same) (sym (number_split (2 ^ a) (drop i ds) k)) ∙ sym left_over)

-- ---- a word of eight octets, the lowest first: the library's octets of a number are its digits

pub word_value : (w : List ℕ) → length w ≡ 8 → from_le_bytes w64 w ≡ value_of 256 w
unfolding value_of
word_value w n =
    let none : length w ≤ 8 = omega arith in
    let top : value_of 256 (drop 8 w) ≡ 0 = rw (drop_of_length-le w none) in
    let at = number_head 256 w in
    omega (arith, at 0, at 1, at 2, at 3, at 4, at 5, at 6, at 7)

pub word_digits : (n : ℕ) → to_le_bytes w64 n ≡ digits 256 8 n
unfolding digits
word_digits n = simp div-div-eq-div-mul

-- octets that are 0 at the top do not count
no_value : (b n k : ℕ) → value_of b (drop n (replicate k 0)) ≡ 0
unfolding value_of
no_value b zero zero = refl
no_value b (suc n) zero = refl
no_value b zero (suc k) = rw (no_value b zero k) (simp mul-zero)
no_value b (suc n) (suc k) = no_value b n k

pub zeros_above : (b n k : ℕ) (ds : List ℕ) → value_of b (ds ++ drop n (replicate k 0)) ≡ value_of b ds
unfolding value_of
zeros_above b n k [] = no_value b n k
zeros_above b n k (d ∷ ds) = ap (λ (x : ℕ). d + b * x) (zeros_above b n k ds)

-- ---- a few digits, from the highest down, and what stands above them

-- `done` of the digits ds are read, `rest` are not
pub record Reading (b above : ℕ) (ds rest : List ℕ) (held : ℕ) : Type 0 where
  pub done : List ℕ
  pub all : ds ≡ rest ++ done
  pub value : held ≡ value_of b (done ++ (above ∷ []))

pub none_read : (b above : ℕ) (ds : List ℕ) → Reading b above ds ds above
unfolding value_of
none_read b above ds = record { done = []; all = sym (append-nil ds); value = simp (mul-zero, add-zero) }

pub all_read : {b above : ℕ} {ds rest : List ℕ} {held : ℕ} → Reading b above ds rest held → length rest ≡ 0 → held ≡ value_of b (ds ++ (above ∷ []))
all_read {rest = []} r e = rw (r.all) r.value
all_read {rest = x ∷ xs} r e = absurd (omega arith)

-- up to eight octets are a number of 64 bits, to any base up to 256
few_fits : (b above : ℕ) → b ≤ 256 → above < 256 → (ds : List ℕ) → length ds < 8 → Below 256 ds → value_of b (ds ++ (above ∷ [])) < 2 ^ 64
few_fits b above h a ds l f =
    let xs = ds ++ (above ∷ []) in
    let len : length xs ≤ 8 = simp length-append (omega arith) in
    lt_of_lt_of_le (number_lt_more b 256 h xs (Below-append 256 ds (above ∷ []) f (Below-one 256 above a)))
    (rw (← pow_mul 2 8 (length xs)) (pow_mono {i = 8 * length xs} {j = 64} (omega arith)))

module _ {b above : ℕ} {ds rest : List ℕ} {held : ℕ} (r : Reading b above ds rest held) (next : List ℕ) (d : ℕ) (e : rest ≡ next ++ (d ∷ [])) where
  before : ds ≡ next ++ (d ∷ r.done)
  before = r.all ∙ rw (e, append_assoc)

  pub one_read : Reading b above ds next (d + b * held)
  unfolding value_of
  one_read = record { done = d ∷ r.done; all = before; value = rw (r.value) }

  -- and the number is still one of 64 bits
  pub read_fits : b ≤ 256 → above < 256 → length ds < 8 → Below 256 ds → d + b * held < 2 ^ 64
  unfolding value_of
  read_fits h a l f =
      let back : drop (length next) ds ≡ d ∷ r.done = rw before (drop_at next (d ∷ r.done) (length next) refl) in
      let few : length (d ∷ r.done) < 8 = omega (arith, l, ap length before, length-append next (d ∷ r.done)) in
      let under : Below 256 (d ∷ r.done) = λ k. rw (← back, get_or-drop) (f (length next + k)) in
      rw (r.value) (few_fits b above h a (d ∷ r.done) few under)

-- one digit more that is a number is the digits of that number
pub number_above : (b : ℕ) (xs ys : List ℕ) → value_of b (xs ++ (value_of b ys ∷ [])) ≡ value_of b (xs ++ ys)
unfolding value_of
number_above b [] ys = simp (mul-zero, add-zero)
number_above b (x ∷ xs) ys = ap (λ (n : ℕ). x + b * n) (number_above b xs ys)

-- ---- digits stored one by one

-- the digit at j is written behind those before it
pub one_more :
    (b n j d : ℕ) (old new : List ℕ) → j < length old → new ≡ digits b j n ++ drop j old → d ≡ n / b ^ j % b
    → set new j d ≡ digits b (j + 1) n ++ drop (j + 1) old
one_more b n j d old new h e f =
    rw (add-one, e, drop-cons old j 0 h, f)
    (set_at (digits b j n) (get_or old j 0) (drop (suc j) old) (n / b ^ j % b) j (length_digits b j n)
    ∙ sym (append_snoc (digits b j n) (n / b ^ j % b) (drop (suc j) old))
    ∙ ap (λ (l : List ℕ). l ++ drop (suc j) old) (sym (digits_snoc b j n)))

pub record Stored (b n : ℕ) (old new : List ℕ) (j held : ℕ) : Type 0 where
  pub rest : held ≡ n / b ^ j
  pub done : new ≡ digits b j n ++ drop j old
  pub room : length new ≡ length old

pub none_stored : (b n : ℕ) (old : List ℕ) → Stored b n old old 0 n
unfolding digits
none_stored b n old = record { rest = simp (pow-zero, div-one); done = refl; room = refl }

pub one_stored : {b n : ℕ} {old new : List ℕ} {j held : ℕ} → Stored b n old new j held → j < length old → Stored b n old (set new j (held % b)) (j + 1) (held / b)
one_stored {b} {n} {old} {new} {j} {held} m h =
    record {
      rest = rw (m.rest, add-one, pow-suc, ← div-div-eq-div-mul);
      done = one_more b n j (held % b) old new h m.done (rw m.rest);
      room = simp length-set m.room;
    }

-- ---- a slice that starts anywhere

-- its elements
pub from : (i : ℕ) (xs : List ℕ) → take (length xs - i) (drop i xs) ≡ drop i xs
from i xs = take_all (length xs - i) (drop i xs) (simp length-drop (omega arith))

pub length_from : (i : ℕ) (xs : List ℕ) → length (take (length xs - i) (drop i xs)) ≡ length xs - i
length_from i xs = ap length (from i xs) ∙ length-drop i xs

length_written : (b j n : ℕ) (old new : List ℕ) → new ≡ digits b j n ++ drop j old → j ≤ length old → length new ≡ length old
length_written b j n old new done fits = ap length done ∙ simp (length-append, length_digits, length-drop) (omega arith)

-- digits that are put behind those before them
put_behind :
    (b n j l : ℕ) (old new ws ys : List ℕ) → new ≡ digits b j n ++ drop j old → j ≤ length old → length new ≡ length old → ws ≡ digits b l (n / b ^ j)
    → ys ≡ ws ++ drop l (take (length new - j) (drop j new))
    → take j new ++ (ys ++ drop (length new - j) (drop j new)) ≡ digits b (j + l) n ++ drop (j + l) old
put_behind b n j l old new ws ys done fits room same put =
    let front : take j new ≡ digits b j n = ap (λ (xs : List ℕ). take j xs) done ∙ take_at (digits b j n) (drop j old) j (length_digits b j n) in
    let back : drop j new ≡ drop j old = ap (λ (xs : List ℕ). drop j xs) done ∙ drop_at (digits b j n) (drop j old) j (length_digits b j n) in
    let rest : length (drop j old) ≤ length old - j = simp length-drop (omega arith) in
    let all : take (length new - j) (drop j new) ≡ drop j old = rw (back, room) (take_all (length old - j) (drop j old) rest) in
    let none : drop (length new - j) (drop j new) ≡ [] = rw (back, room) (drop_of_length-le (drop j old) rest) in
    rw (none, put, all, front, same, append-nil, drop-drop, digits_add, append_assoc)

-- ---- groups, one behind the other

-- `new` was `old`: of ds, digits to the base 2 ^ a, the first i are j digits to the base 2 ^ b, which are written
pub record Grouped (a b : ℕ) (ds old new : List ℕ) (i j : ℕ) : Type 0 where
  pub place : a * i ≡ b * j
  pub fits : j ≤ length old
  pub done : new ≡ digits (2 ^ b) j (value_of (2 ^ a) ds) ++ drop j old
  pub room : length new ≡ length old

pub no_group : (a b : ℕ) (ds old : List ℕ) → Grouped a b ds old old 0 0
unfolding digits
no_group a b ds old = record { place = simp mul-zero; fits = omega arith; done = refl; room = refl }

module _ {a b : ℕ} {ds old new : List ℕ} {i j : ℕ} (m : Grouped a b ds old new i j) (f : Below (2 ^ a) ds) (l : ℕ) (h : j + l ≤ length old) (ws ys : List ℕ) (put : ys ≡ ws ++ drop l (take (length new - j) (drop j new))) where
  -- l digits, written as the number of the next k, or of all that are left
  pub one_group :
      (k : ℕ) → a * k ≡ b * l → ws ≡ digits (2 ^ b) l (value_of (2 ^ a) (take k (drop i ds)))
      → Grouped a b ds old (take j new ++ (ys ++ drop (length new - j) (drop j new))) (i + k) (j + l)
  one_group k e w =
      let more : take j new ++ (ys ++ drop (length new - j) (drop j new)) ≡ digits (2 ^ b) (j + l) (value_of (2 ^ a) ds) ++ drop (j + l) old =
      put_behind (2 ^ b) (value_of (2 ^ a) ds) j l old new ws ys m.done m.fits m.room (w ∙ group a b ds f i j m.place k l e) put in
      record { place = rw (mul-add a i k, mul-add b j l) (omega (arith, m.place, e)); fits = h; done = more; room = length_written (2 ^ b) (j + l) (value_of (2 ^ a) ds) old _ more h }

  pub last_group :
      ws ≡ digits (2 ^ b) l (value_of (2 ^ a) (drop i ds))
      → take j new ++ (ys ++ drop (length new - j) (drop j new)) ≡ digits (2 ^ b) (j + l) (value_of (2 ^ a) ds) ++ drop (j + l) old
  last_group w =
      put_behind (2 ^ b) (value_of (2 ^ a) ds) j l old new ws ys m.done m.fits m.room
      (w ∙ ap (λ (n : ℕ). digits (2 ^ b) l n) (sym (left_over a b ds f i j m.place))) put
