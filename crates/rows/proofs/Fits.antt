-- Every word of a sound row is below 2^64. Assumes nothing.
use mathlib.Core.Path.{◌≡◌, ap}
use mathlib.Core.Logic.{⊎_elim}
use mathlib.Core.Bool.{true}
use mathlib.Core.List.{List}
use Prim.Native.Nat.{ℕ, zero, suc, ◌*◌, ◌^◌, ◌≤◌, ◌<◌}
use native.Mathlib.Nat.{add-zero}
use native.Mathlib.Omega.{arith}
use lib.ListN.{get_or}
use lib.Dec.{eqb}
use borrow.Author.Tests.{eqb-true}
use Rattle.answers.proofs.Tests.{or_cases, less_or_not}
use Rattle.numbers.specs.Numbers.{is_number, number_or_nobody}
use Rattle.numbers.proofs.Lengths.{number_below, nobody_or_number}
use Rattle.rows.specs.Rows.{row_words, word, number_at, holder_at, phase_at, addressee_at, supervisor_at, second_at, closed_at, closed_sound, last_phase, notice_sound, row_sound}
use Rattle.rows.proofs.Notices.{pending, absent_words, notice_bounds}
use Rattle.rows.proofs.Rows.{sound_row}

pub number_fits : (w : ℕ) → is_number w ≡ true → w < 2 ^ 64
number_fits w h = omega (arith, number_below w h)

nobody_fits : (w : ℕ) → number_or_nobody w ≡ true → w < 2 ^ 64
nobody_fits w h = nobody_or_number (λ (w : ℕ). w < 2 ^ 64) w h (omega arith) (number_fits w)

notice_fits : (phase addressee supervisor second : ℕ) → notice_sound phase addressee supervisor second ≡ true → (addressee < 2 ^ 64) × (supervisor < 2 ^ 64)
notice_fits phase addressee supervisor second e =
    ⊎_elim
    (λ h. let p = pending phase addressee supervisor second e h in (number_fits addressee p.addressed, nobody_fits supervisor p.supervised))
    (λ h. let z : phase ≡ 0 = omega arith in let w = absent_words addressee supervisor second (rw z at e) in (omega (arith, w.0), omega (arith, w.1)))
    (less_or_not 0 phase)

closed_fits : (w : ℕ) → closed_sound w ≡ true → w < 2 ^ 64
closed_fits w h = ⊎_elim (λ z. omega (arith, eqb-true w 0 z)) (λ o. omega (arith, eqb-true w 1 o)) (or_cases (eqb w 0) (eqb w 1) h)

module _ (t : List ℕ) (i : ℕ) (e : row_sound t i ≡ true) where
  notice_words : (addressee_at t i < 2 ^ 64) × (supervisor_at t i < 2 ^ 64)
  notice_words = notice_fits (phase_at t i) (addressee_at t i) (supervisor_at t i) (second_at t i) (sound_row t i e).notice

  phase_and_second : (phase_at t i ≤ last_phase) × (second_at t i < 2 ^ 32)
  phase_and_second = notice_bounds (phase_at t i) (addressee_at t i) (supervisor_at t i) (second_at t i) (sound_row t i e).notice

  pub row_fits : (place : ℕ) → place < row_words → word t i place < 2 ^ 64
  row_fits zero l = rw (ap (λ (n : ℕ). get_or t n 0) (add-zero (row_words * i))) (number_fits (number_at t i) (sound_row t i e).number)
  row_fits (suc zero) l = nobody_fits (holder_at t i) (sound_row t i e).holder
  row_fits (suc (suc zero)) l = omega (arith, phase_and_second.0)
  row_fits (suc (suc (suc zero))) l = notice_words.0
  row_fits (suc (suc (suc (suc zero)))) l = notice_words.1
  row_fits (suc (suc (suc (suc (suc zero))))) l = omega (arith, phase_and_second.1)
  row_fits (suc (suc (suc (suc (suc (suc zero)))))) l = closed_fits (closed_at t i) (sound_row t i e).closed
  row_fits (suc (suc (suc (suc (suc (suc (suc place))))))) l = absurd (omega arith)
