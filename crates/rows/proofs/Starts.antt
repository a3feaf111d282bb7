-- A holder tested by the start of a length that was found before, and a whole row by it; and what is sound with fewer numbers or fewer sendings is sound with more. Assumes nothing.
use mathlib.Core.Path.{◌≡◌, refl, sym, ap, ◌∙◌}
use mathlib.Core.Logic.{⊎_elim}
use mathlib.Core.Bool.{Bool, true, false, cond, not, ◌&&◌, ◌||◌, and_assoc}
use mathlib.Core.List.{List}
use Prim.Native.Nat.{ℕ, ◌^◌, ◌≤◌}
use native.Mathlib.Omega.{arith}
use lib.Dec.{eqb, ltb, leb}
use borrow.Author.Tests.{leb-true, le-leb}
use Rattle.answers.proofs.Tests.{and_left, and_right, and_three, and_both, or_cases, or_right}
use Rattle.numbers.specs.Numbers.{is_number, number_or_nobody}
use Rattle.numbers.specs.Least.{least_for, is_from}
use Rattle.numbers.proofs.Least.{Starts, starts_for, least_tells}
use Rattle.records.specs.Steps.{most_sendings}
use Rattle.rows.specs.Rows.{number_at, holder_at, phase_at, addressee_at, supervisor_at, second_at, closed_at, closed_sound, last_phase_of, failed_once, parties_sound, notice_up_to, notice_by, notice_sound, row_up_to, row_sound}
use Rattle.rows.specs.Starts.{near_from, holder_start, rest_from}

-- the start that the next holder is tested by
pub starts_holder : (near h : ℕ) → Starts near → Starts (holder_start near h)
unfolding holder_start
starts_holder near h s = go (eqb h 0 || is_from near h)
  where
    go : (b : Bool) → Starts (cond b near (least_for h))
    go true = s
    go false = starts_for h

-- it tells whether a holder is sound
holder_tells : (near h : ℕ) → Starts near → number_or_nobody h ≡ (eqb h 0 || is_from (holder_start near h) h)
unfolding holder_start
holder_tells near h s = go (eqb h 0) (is_from near h) refl
  where
    go : (a b : Bool) → is_from near h ≡ b → (a || is_number h) ≡ (a || is_from (cond (a || b) near (least_for h)) h)
    go true b e = refl
    go false true e = s.numbers h e ∙ sym e
    go false false e = sym (least_tells h)

-- a row is sound by its number and by what stands behind it
pub row_tells : (near : ℕ) (t : List ℕ) (i : ℕ) → Starts near → row_sound t i ≡ (is_number (number_at t i) && rest_from (holder_start near (holder_at t i)) t i)
unfolding row_up_to rest_from
row_tells near t i s =
    let rest = notice_sound (phase_at t i) (addressee_at t i) (supervisor_at t i) (second_at t i) && closed_sound (closed_at t i) in
    and_assoc (is_number (number_at t i)) (number_or_nobody (holder_at t i)) rest
    ∙ ap (λ (b : Bool). is_number (number_at t i) && (b && rest)) (holder_tells near (holder_at t i) s)

-- what is sound with fewer numbers and fewer sendings is sound with more
notice_more : (few many : ℕ) (a b : Bool) (phase addressee supervisor second : ℕ) → few ≤ many → (a ≡ true → b ≡ true) → notice_up_to few a phase addressee supervisor second ≡ true → notice_up_to many b phase addressee supervisor second ≡ true
unfolding notice_up_to
notice_more few many a b phase addressee supervisor second h more = go (eqb phase 0)
  where
    go :
        (z : Bool) → cond z (eqb addressee 0 && eqb supervisor 0 && eqb second 0) (leb phase (last_phase_of few) && (a && not (eqb addressee supervisor)) && (ltb second (2 ^ 32) && (eqb second 0 || failed_once phase))) ≡ true
        → cond z (eqb addressee 0 && eqb supervisor 0 && eqb second 0) (leb phase (last_phase_of many) && (b && not (eqb addressee supervisor)) && (ltb second (2 ^ 32) && (eqb second 0 || failed_once phase))) ≡ true
    go true e = e
    go false e =
        let t = and_three (leb phase (last_phase_of few)) (a && not (eqb addressee supervisor)) (ltb second (2 ^ 32) && (eqb second 0 || failed_once phase)) e in
        let l = leb-true phase (last_phase_of few) t.0 in
        rw (le-leb phase (last_phase_of many) (omega arith), more (and_left a _ t.1), and_right a (not (eqb addressee supervisor)) t.1, t.2)

-- a row that is sound with at most `few` sendings of a notice is sound with more
pub row_more : (few many : ℕ) → few ≤ many → (t : List ℕ) (i : ℕ) → row_up_to few t i ≡ true → row_up_to many t i ≡ true
unfolding row_up_to
row_more few many h t i e =
    let w = and_three (is_number (number_at t i)) (number_or_nobody (holder_at t i)) _ e in
    let parties = parties_sound (addressee_at t i) (supervisor_at t i) in
    let before = notice_up_to few parties (phase_at t i) (addressee_at t i) (supervisor_at t i) (second_at t i) in
    let closed = closed_sound (closed_at t i) in
    let notice = notice_more few many parties parties (phase_at t i) (addressee_at t i) (supervisor_at t i) (second_at t i) h (λ b. b) (and_left before closed w.2) in
    rw (w.0, w.1) (and_both _ closed notice (and_right before closed w.2))

-- a row with a number is sound if one start tells what stands behind it
pub near_sound : (near : ℕ) (t : List ℕ) (i : ℕ) → Starts near → is_number (number_at t i) ≡ true → near_from near t i ≡ true → row_sound t i ≡ true
unfolding row_up_to near_from
near_sound near t i s n p =
    let a = is_from near (addressee_at t i) in
    let said = notice_by (a && is_from near (supervisor_at t i)) (phase_at t i) (addressee_at t i) (supervisor_at t i) (second_at t i) in
    let closed = closed_sound (closed_at t i) in
    let rest = and_right (eqb (holder_at t i) 0 || is_from near (holder_at t i)) (said && closed) p in
    let notice = and_left said closed rest in
    rw (n, holder (and_left _ (said && closed) p))
    (and_both _ closed (notice_more most_sendings most_sendings (a && is_from near (supervisor_at t i)) _ (phase_at t i) (addressee_at t i) (supervisor_at t i) (second_at t i) (omega arith)
    (λ both. and_both _ _ (s.numbers (addressee_at t i) (and_left a _ both)) (or_right (eqb (supervisor_at t i) 0) _ (s.numbers (supervisor_at t i) (and_right a _ both)))) notice) (and_right said closed rest))
  where
    holder : (eqb (holder_at t i) 0 || is_from near (holder_at t i)) ≡ true → number_or_nobody (holder_at t i) ≡ true
    holder e =
        ⊎_elim (λ z. rw z) (λ f. or_right (eqb (holder_at t i) 0) _ (s.numbers (holder_at t i) f)) (or_cases (eqb (holder_at t i) 0) (is_from near (holder_at t i)) e)
