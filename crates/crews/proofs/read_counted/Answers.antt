-- Its tests are the definition's, in the same order. Assumes nothing.
use Rattle.std.proofs.Common.{◌≡◌, ◌+◌, ◌≤◌, ℕ, List, length, sym, ap, ◌∙◌, None, arith, rules}
use Rattle.std.proofs.Math.Option.{some}
use Rattle.answers.proofs.Parts.{rest_of}
use Rattle.crews.specs.Crews.{most_codes, spaced_codes_at}
use Rattle.crews.proofs.Crews.{sound_few, spaced_only}
use Rattle.crews.proofs.Steps.{counted_none, counted_unread, counted_other, counted_read}
use Rattle.crews.proofs.read_counted.Goals as goal

pub returns-then-is_empty : goal.returns-then-is_empty
returns-then-is_empty c =
    let none : length c.args.part.now ≡ 0 = search rules in
    counted_none _ none

pub returns-in_err-n : goal.returns-in_err-n
returns-in_err-n c =
    let none : c.from_residual.result ≡ None = search rules in
    rw none (counted_unread _ (rw rest_of at (rw c.in_err-n.was at c.read_spaced.ensures)))

-- the codes behind the digit are at most nine
few : (s : List ℕ) (n : ℕ) → (codes : List ℕ) × (spaced_codes_at s ≡ some codes) × (n ≡ length codes) → n ≤ most_codes
few s n r = rw r.2 (sound_few r.0 (spaced_only s r.1).1)

pub overflow_cast-n : goal.overflow_cast-n
overflow_cast-n c = omega (arith, few _ _ (rw rest_of at (rw c.in_ok-n.was at c.read_spaced.ensures)))

pub overflow_add-n : goal.overflow_add-n
overflow_add-n c = omega (arith, few _ _ (rw rest_of at (rw c.in_ok-n.was at c.read_spaced.ensures)))

pub returns-then-part-n : goal.returns-then-part-n
returns-then-part-n c =
    let r = rw rest_of at (rw c.in_ok-n.was at c.read_spaced.ensures) in
    counted_other _ r.1 (λ e. c.if-part-n.true (e ∙ ap (λ (n : ℕ). 48 + n) (sym r.2)))

pub returns : goal.returns
returns c =
    let r = rw rest_of at (rw c.in_ok-n.was at c.read_spaced.ensures) in
    (r.0, counted_read _ r.1 (c.if-part-n.false ∙ ap (λ (n : ℕ). 48 + n) r.2), r.2)
