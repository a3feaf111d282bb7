-- The words of a sound notice, taken apart and put together; a notice and its phase and second are each known by the other. Assumes nothing.
use mathlib.Core.Path.{◌≡◌, refl, sym, ap}
use mathlib.Core.Logic.{⊎_elim}
use mathlib.Core.Bool.{Bool, true, false, cond, not, ◌&&◌, ◌||◌}
use Prim.Native.Nat.{ℕ, ◌+◌, ◌*◌, ◌/◌, ◌%◌, ◌^◌, ◌≤◌, ◌<◌}
use native.Mathlib.Omega.{arith}
use lib.Dec.{eqb, ltb, leb}
use borrow.Author.Tests.{eq-eqb, ne_eqb, eqb-true, eqb-false, leb-true, le-leb, ltb-true, lt-ltb}
use Rattle.answers.proofs.Tests.{no_path, and_left, and_right, and_three, or_cases, less_or_not}
use Rattle.numbers.specs.Numbers.{is_number, number_or_nobody}
use Rattle.records.specs.declared.Notice.{Notice}
use Rattle.records.specs.declared.Notice.TheVariants.{Absent, Waiting, InFlight}
use Rattle.records.specs.Steps.{is_absent, is_waiting, is_in_flight}
use Rattle.rows.specs.Rows.{last_phase, failed_once, parties_sound, notice_up_to, notice_sound, notice_of, phase_of, second_of, sent_once}

-- ---- what the words of a notice say

-- the words of a notice that there is
pub record Pending (phase addressee supervisor second : ℕ) : Type 0 where
  pub some : 1 ≤ phase
  pub most : phase ≤ last_phase
  pub addressed : is_number addressee ≡ true
  pub supervised : number_or_nobody supervisor ≡ true
  pub differ : not (eqb addressee supervisor) ≡ true
  pub below : second < 2 ^ 32
  pub failed : (eqb second 0 || failed_once phase) ≡ true

module _ (phase addressee supervisor second : ℕ) where
  parties : Bool
  parties = parties_sound addressee supervisor && not (eqb addressee supervisor)

  seconds : Bool
  seconds = ltb second (2 ^ 32) && (eqb second 0 || failed_once phase)

  pub pending : notice_sound phase addressee supervisor second ≡ true → 1 ≤ phase → Pending phase addressee supervisor second
  unfolding notice_up_to parties seconds
  pending e h =
      let w = and_three (leb phase last_phase) parties seconds (rw (ne_eqb phase 0 (λ z. omega arith)) at e) in
      let n = and_three (is_number addressee) (number_or_nobody supervisor) (not (eqb addressee supervisor)) w.1 in
      record {
        some = h;
        most = leb-true phase last_phase w.0;
        addressed = n.0;
        supervised = n.1;
        differ = n.2;
        below = ltb-true second (2 ^ 32) (and_left (ltb second (2 ^ 32)) (eqb second 0 || failed_once phase) w.2);
        failed = and_right (ltb second (2 ^ 32)) (eqb second 0 || failed_once phase) w.2;
      }

  pub pending_sound : Pending phase addressee supervisor second → notice_sound phase addressee supervisor second ≡ true
  unfolding notice_up_to
  pending_sound p =
      let h = p.some in
      simp (ne_eqb phase 0 (λ z. omega arith), le-leb phase last_phase p.most, p.addressed, p.supervised, p.differ, lt-ltb second (2 ^ 32) p.below, p.failed)

-- "With phase 0 the last three words are 0"
pub absent_words : (addressee supervisor second : ℕ) → notice_sound 0 addressee supervisor second ≡ true → (addressee ≡ 0) × (supervisor ≡ 0) × (second ≡ 0)
unfolding notice_up_to
absent_words addressee supervisor second e =
    let w = and_three (eqb addressee 0) (eqb supervisor 0) (eqb second 0) e in
    (eqb-true addressee 0 w.0, eqb-true supervisor 0 w.1, eqb-true second 0 w.2)

-- the phase and the second fit their types
pub notice_bounds : (phase addressee supervisor second : ℕ) → notice_sound phase addressee supervisor second ≡ true → (phase ≤ last_phase) × (second < 2 ^ 32)
notice_bounds phase addressee supervisor second e =
    ⊎_elim
    (λ h. let p = pending phase addressee supervisor second e h in (p.most, p.below))
    (λ h. let z : phase ≡ 0 = omega arith in let w = (absent_words addressee supervisor second (rw z at e)).2 in (omega arith, omega arith))
    (less_or_not 0 phase)

-- ---- a notice and its phase

-- the three cases of a phase
pub by_phase : (P : Notice → Type 0) (phase second : ℕ)
    → (phase ≡ 0 → P Absent)
    → ((k : ℕ) → phase ≡ 2 * k + 1 → P (Waiting k second))
    → ((k : ℕ) → 1 ≤ k → phase ≡ 2 * k → P (InFlight k))
    → P (notice_of phase second)
unfolding notice_of
by_phase P phase second absent waiting flying = go (eqb phase 0) (eqb (phase % 2) 1) refl refl
  where
    go : (a b : Bool) → eqb phase 0 ≡ a → eqb (phase % 2) 1 ≡ b → P (cond a Absent (cond b (Waiting (phase / 2) second) (InFlight (phase / 2))))
    go true b ea eb = absent (eqb-true phase 0 ea)
    go false true ea eb = let h = eqb-true (phase % 2) 1 eb in waiting (phase / 2) (omega arith)
    go false false ea eb =
        let n = eqb-false phase 0 ea in
        let h = eqb-false (phase % 2) 1 eb in
        flying (phase / 2) (omega arith) (omega arith)

pub phase_back : (phase second : ℕ) → phase_of (notice_of phase second) ≡ phase
phase_back phase second = by_phase (λ n. phase_of n ≡ phase) phase second (λ e. sym e) (λ k e. sym e) (λ k h e. sym e)

pub once_back : (phase second : ℕ) → sent_once (notice_of phase second) ≡ true
once_back phase second = by_phase (λ n. sent_once n ≡ true) phase second (λ e. refl) (λ k e. refl) (λ k h e. le-leb 1 k h)

-- an even phase has no second
even_second : (k addressee supervisor second : ℕ) → 1 ≤ k → notice_sound (2 * k) addressee supervisor second ≡ true → second ≡ 0
even_second k addressee supervisor second h e =
    ⊎_elim (λ z. eqb-true second 0 z)
    (λ f. let odd = eqb-true ((2 * k) % 2) 1 (and_left (eqb ((2 * k) % 2) 1) (leb 3 (2 * k)) f) in absurd (omega arith))
    (or_cases (eqb second 0) (failed_once (2 * k)) (pending (2 * k) addressee supervisor second e (omega arith)).failed)

pub second_back : (phase addressee supervisor second : ℕ) → notice_sound phase addressee supervisor second ≡ true → second_of (notice_of phase second) ≡ second
second_back phase addressee supervisor second e =
    by_phase (λ n. second_of n ≡ second) phase second
    (λ z. sym (absent_words addressee supervisor second (rw z at e)).2)
    (λ k z. refl)
    (λ k h z. sym (even_second k addressee supervisor second h (rw z at e)))

pub notice_back : (n : Notice) → sent_once n ≡ true → notice_of (phase_of n) (second_of n) ≡ n
unfolding notice_of
notice_back Absent e = refl
notice_back (Waiting k s) e =
    simp (ne_eqb (2 * k + 1) 0 (λ h. omega arith), eq-eqb ((2 * k + 1) % 2) 1 (omega arith)) (ap (λ (m : ℕ). Waiting m s) (omega arith))
notice_back (InFlight k) e =
    let h = leb-true 1 k e in
    simp (ne_eqb (2 * k) 0 (λ q. omega arith), ne_eqb ((2 * k) % 2) 1 (λ q. omega arith)) (ap InFlight (omega arith))

-- no notice neither waits nor is in flight
pub absent_still : (n : Notice) → is_absent n ≡ true → (is_waiting n ≡ false) × (is_in_flight n ≡ false)
absent_still Absent a = (refl, refl)
absent_still (Waiting k s) a = no_path a
absent_still (InFlight k) a = no_path a
