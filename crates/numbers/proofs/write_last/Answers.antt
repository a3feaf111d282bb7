-- Assumes nothing.
use Rattle.std.proofs.Common.{◌≡◌, suc, ◌-◌, sym, ◌∙◌, arith}
use Rattle.numbers.specs.Numbers.{digits_up_to}
use Rattle.numbers.proofs.Writing.{write_more, left_more}
use Rattle.numbers.proofs.write_last.Goals as goal

pub loop-at-preserved : goal.loop-at-preserved
loop-at-preserved c =
    let h = c.loop-at in
    let down : h.at ≡ suc (h.at - 1) = omega arith in
    let m = left_more h.at (h.at - 1) h.rest down h.invariant.left in
    record { left = m.1; written = h.invariant.written ∙ write_more h.at (h.at - 1) h.rest _ h.out down (omega arith) (omega arith) m.0 }

pub returns : goal.returns
unfolding digits_up_to
returns c = let none : c.loop-at.at ≡ 0 = omega arith in sym (rw none at c.loop-at.invariant.written)
