-- Assumes nothing.
use Rattle.std.proofs.Common.{refl, sym, ◌≡◌, ◌∙◌, ◌+◌, ◌-◌, arith}
use borrow.Author.Tests.{lt-ltb, le-ltb}
use Rattle.timetable.proofs.Opening.{row_number, stops_below, stops_not}
use Rattle.timetable.proofs.place.Goals as goal

pub loop-i-init : goal.loop-i-init
loop-i-init c = (omega arith, refl)

pub returns-then-words-i-clause-place : goal.returns-then-words-i-clause-place
returns-then-words-i-clause-place c =
    let l = c.loop-i in
    let a = c.args in
    let i : l.i ≡ l.i - 1 + 1 = omega arith in
    sym (l.invariant.1 ∙ stops_below a.number a.words.now l.i (l.i - 1) i (lt-ltb _ _ (rw (row_number a.words.now (l.i - 1)) c.if-words-i.true)) ∙ i)

pub loop-i-preserved : goal.loop-i-preserved
loop-i-preserved c =
    let l = c.loop-i in
    let a = c.args in
    let i : l.i ≡ l.i - 1 + 1 = omega arith in
    (omega arith, l.invariant.1 ∙ stops_not a.number a.words.now l.i (l.i - 1) i (le-ltb _ _ (rw (row_number a.words.now (l.i - 1)) c.if-words-i.false)))

pub returns-clause-place : goal.returns-clause-place
returns-clause-place c =
    let l = c.loop-i in
    let none : l.i ≡ 0 = omega arith in
    sym (l.invariant.1 ∙ rw none refl)
