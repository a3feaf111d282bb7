-- In ascending words the end of a number's length tells the numbers that follow. Assumes nothing.
use mathlib.Core.Path.{◌≡◌, refl, ap}
use mathlib.Core.Bool.{Bool, true, false, cond, ◌&&◌}
use Prim.Native.Nat.{ℕ, ◌*◌, ◌<◌}
use native.Mathlib.Nat.{not-suc-le-zero}
use native.Mathlib.Omega.{arith}
use lib.Dec.{leb, ltb}
use borrow.Author.Tests.{le-leb, lt-ltb, ltb-true}
use Rattle.answers.proofs.Tests.{and_left, and_right, and_both}
use Rattle.numbers.specs.Numbers.{is_number}
use Rattle.numbers.specs.Least.{least_for}
use Rattle.numbers.proofs.Least.{starts_for, least_le, end_tells}
use Rattle.tables.specs.Ends.{end_for, within}

-- every word above `before` and below `end` is a number
abbrev pub Reaches : ℕ → ℕ → Type 0
Reaches before end = (x : ℕ) → before < x → x < end → is_number x ≡ true

pub reaches_none : (before : ℕ) → Reaches before 0
reaches_none before x l b = absurd (not-suc-le-zero b)

pub reaches_length : (w : ℕ) → Reaches w (2 * least_for w)
reaches_length w x a b =
    (starts_for w).numbers x (and_both (leb (least_for w) x) (ltb x (2 * least_for w)) (le-leb (least_for w) x (omega (arith, least_le w))) (lt-ltb x (2 * least_for w) b))

-- the end for a word that follows tells whether it is a number
pub within_tells : (before end w : ℕ) (own : Bool) → Reaches before end → (ltb before w && (is_number w && own)) ≡ within before (end_for end w) w own
unfolding end_for
within_tells before end w own r = go (ltb before w) (ltb w end) refl refl
  where
    go :
        (a b : Bool) → ltb before w ≡ a → ltb w end ≡ b
        → (a && (is_number w && own)) ≡ (a && (ltb w (cond b end (2 * least_for w)) && own))
    go false b p q = refl
    go true true p q = rw (r w (ltb-true before w p) (ltb-true w end q), q)
    go true false p q = ap (λ (x : Bool). x && own) (end_tells w)

-- and it reaches on from there
pub reaches_on : (before end w : ℕ) → Reaches before end → before < w → Reaches w (end_for end w)
unfolding end_for
reaches_on before end w r l = go (ltb w end)
  where
    go : (b : Bool) → Reaches w (cond b end (2 * least_for w))
    go true = λ x a b. r x (omega arith) b
    go false = reaches_length w

-- by an end that was reached: the test holds of a number alone, and the end reaches on
pub within_reached : (before end w : ℕ) (own : Bool) → Reaches before end → within before end w own ≡ true → ((ltb before w && (is_number w && own)) ≡ true) × Reaches w end
within_reached before end w own r e =
    let l = and_left (ltb before w) (ltb w end && own) e in
    let b = and_right (ltb before w) (ltb w end && own) e in
    let a = ltb-true before w l in (
      and_both (ltb before w) (is_number w && own) l (and_both (is_number w) own (r w a (ltb-true w end (and_left (ltb w end) own b))) (and_right (ltb w end) own b)),
      λ x g h. r x (omega arith) h,
    )

-- two words at once, the first below the second
pub pair_reached :
    (before end v w : ℕ) (own other : Bool) → Reaches before end → within before w v own ≡ true → within v end w other ≡ true
    → ((ltb before v && (is_number v && own)) ≡ true) × ((ltb v w && (is_number w && other)) ≡ true) × Reaches w end
pair_reached before end v w own other r first second =
    let b = and_right (ltb before v) (ltb v w && own) first in
    let c = and_right (ltb v w) (ltb w end && other) second in
    let below : ltb v end ≡ true = lt-ltb v end (omega (arith, ltb-true v w (and_left (ltb v w) own b), ltb-true w end (and_left (ltb w end) other c))) in
    let one =
    within_reached before end v own r
    (and_both (ltb before v) (ltb v end && own) (and_left (ltb before v) (ltb v w && own) first) (and_both (ltb v end) own below (and_right (ltb v w) own b)))
    in
    let two = within_reached v end w other one.1 second in (one.0, two.0, two.1)
