-- Fields of digits, read one digit after the other. Assumes nothing.
use mathlib.Core.Path.{◌≡◌, refl, sym, ap, ◌∙◌}
use mathlib.Core.Bool.{Bool, true, false, cond, not, ◌&&◌}
use mathlib.Core.Option.{none, some}
use mathlib.Core.List.{List, [], ◌∷◌}
use Prim.Native.Nat.{ℕ, ◌≤◌, ◌<◌}
use native.Mathlib.Omega.{arith}
use lib.ListN.{length, drop, drop_of_length-le}
use lib.Seq.{take-length}
use borrow.Author.Tests.{lt-ltb, le-ltb, eqb-true, ne_eqb}
use Rattle.answers.proofs.Tests.{no_path, and_no}
use Rattle.numbers.specs.Numbers.{is_digit, are_digits, pushed, stored_form, leading_digits, leading_number}
use Rattle.numbers.proofs.Digits.{pushed_grows}
use Rattle.answers.proofs.Leading.{each_leading}
use lib.Dec.{eqb}
use Rattle.answers.proofs.Checks.{not_some}
use Rattle.forms.specs.Reads.{value_in}
use Rattle.std.specs.Prelude as core
use Rattle.std.specs.Prelude.{Some, None}
use Rattle.std.proofs.lemmas.Option.{same_Some}
use Rattle.forms.specs.Lines.{is_digits, is_number_long, number_of, asked_of, value_below}

-- ---- that a field is digits

-- at least one character, and all of them digits
pub digits_test : (s : List ℕ) → (not (eqb (length s) 0) && are_digits s) ≡ is_digits s
unfolding is_digits
digits_test [] = refl
digits_test (c ∷ s) = rw (ne_eqb (length (c ∷ s)) 0 (λ e. omega arith))

pub digits_all : (s : List ℕ) → is_digits s ≡ true → are_digits s ≡ true
unfolding is_digits
digits_all [] h = no_path h
digits_all (c ∷ s) h = h

-- ---- the value of a field of digits

pub value_end : (s : List ℕ) (i v : ℕ) → length s ≤ i → pushed v (drop i s) ≡ pushed 0 s → v ≡ pushed 0 s
unfolding pushed
value_end s i v h e = rw (drop_of_length-le s h) at e

pub value_unread : (limit : ℕ) (s : List ℕ) → is_digits s ≡ false → value_below limit s ≡ none
unfolding value_below
value_unread limit s h = rw h

pub value_over : (limit v : ℕ) (s rest : List ℕ) → limit ≤ v → pushed v rest ≡ pushed 0 s → value_below limit s ≡ none
unfolding value_below
value_over limit v s rest h e = rw (and_no (is_digits s) _ (le-ltb (pushed 0 s) limit (omega (arith, pushed_grows v rest))))

pub value_read : (limit v : ℕ) (s : List ℕ) → is_digits s ≡ true → v < limit → v ≡ pushed 0 s → value_below limit s ≡ some v
unfolding value_below
value_read limit v s h l e = rw (h, ← e, lt-ltb v limit l)

-- ---- numbers

leading_all : (s : List ℕ) → are_digits s ≡ true → leading_digits s ≡ length s
leading_all s h = eqb-true (leading_digits s) (length s) (sym (each_leading is_digit s) ∙ h)

-- a field of digits is a number if it is long enough and not too long
number_by_length : (s : List ℕ) → is_digits s ≡ true → leading_number s ≡ cond {A = core.Option (ℕ × ℕ)} (is_number_long s) (Some (stored_form s, length s)) None
unfolding leading_number
number_by_length s h = rw (leading_all s (digits_all s h), take-length s)

pub number_unread : (s : List ℕ) → is_digits s ≡ false → (number_of s ≡ none) × (asked_of s ≡ none)
unfolding number_of asked_of
number_unread s h = (rw h, rw h)

pub number_read_lem : (s : List ℕ) (w n : ℕ) → is_digits s ≡ true → leading_number s ≡ Some (w, n) → (number_of s ≡ some w) × (asked_of s ≡ some w)
unfolding number_of asked_of
number_read_lem s w n h e = go (is_number_long s) refl
  where
    go : (b : Bool) → is_number_long s ≡ b → (number_of s ≡ some w) × (asked_of s ≡ some w)
    go true l =
        let f : stored_form s ≡ w = ap (λ (p : ℕ × ℕ). p.0) (same_Some (stored_form s, length s) (w, n) (rw l at (sym (number_by_length s h) ∙ e))) in
        (rw (h, l, f), rw (h, l, f))
    go false l = absurd (let z : ◌≡◌ {A = ℕ} 0 1 = cc (rw l at (sym (number_by_length s h) ∙ e)) in omega arith)

pub number_malformed : (s : List ℕ) → is_digits s ≡ true → leading_number s ≡ None → (number_of s ≡ none) × (asked_of s ≡ some 0)
unfolding number_of asked_of
number_malformed s h e = go (is_number_long s) refl
  where
    go : (b : Bool) → is_number_long s ≡ b → (number_of s ≡ none) × (asked_of s ≡ some 0)
    go true l = absurd (let z : ◌≡◌ {A = ℕ} 0 1 = cc (rw l at (sym (number_by_length s h) ∙ e)) in omega arith)
    go false l = (rw (h, l), rw (h, l))

-- a field of digits that is no number is asked for as 0
pub asked_or_none : (s : List ℕ) (r : core.Option ℕ) → is_digits s ≡ true → value_in r ≡ number_of s → some (core.unwrap_or r 0) ≡ asked_of s
unfolding number_of asked_of
asked_or_none s r h e = go (is_number_long s) refl r e
  where
    go :
        (b : Bool) → is_number_long s ≡ b → (r : core.Option ℕ) → value_in r ≡ number_of s → some (core.unwrap_or r 0) ≡ asked_of s
    go true l (Some v) e = rw (h, l) (rw (h, l) at e)
    go true l None e = not_some (rw (h, l) at e)
    go false l (Some v) e = not_some (sym (rw (h, l) at e))
    go false l None e = rw (h, l)
