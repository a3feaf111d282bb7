-- Its tests are the definition's, in the same order. Assumes nothing.
use Rattle.std.proofs.Common.{◌≡◌, ◌<◌, [], length, refl, sym, ◌∙◌, None, arith, rules}
use Rattle.answers.proofs.Parts.{rest_of}
use Rattle.crews.proofs.Steps.{spaced_none, spaced_other, spaced_unread, spaced_empty, spaced_read}
use Rattle.crews.proofs.read_spaced.Goals as goal

pub returns-then-is_empty : goal.returns-then-is_empty
returns-then-is_empty c =
    let none : length c.args.part.now ≡ 0 = search rules in
    ([], spaced_none _ none, refl)

pub returns-then-part-ne32 : goal.returns-then-part-ne32
returns-then-part-ne32 c =
    let some : 0 < length c.args.part.now = search rules in
    spaced_other _ some c.if-part-ne32.true

pub returns-in_err-n : goal.returns-in_err-n
returns-in_err-n c =
    let none : c.from_residual.result ≡ None = search rules in
    rw none (spaced_unread _ c.if-part-ne32.false (rw rest_of at (rw c.in_err-n.was at c.read_codes.ensures)))

pub returns-then-n-eq0 : goal.returns-then-n-eq0
returns-then-n-eq0 c =
    let r = rw rest_of at (rw c.in_ok-n.was at c.read_codes.ensures) in
    spaced_empty _ c.if-part-ne32.false r.1 (sym r.2 ∙ c.if-n-eq0.true)

pub returns : goal.returns
returns c =
    let r = rw rest_of at (rw c.in_ok-n.was at c.read_codes.ensures) in
    (r.0, spaced_read _ c.if-part-ne32.false r.1 (omega (arith, r.2)), r.2)
