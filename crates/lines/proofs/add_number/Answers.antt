use Rattle.std.proofs.Common.{refl, sym, ◌∙◌, arith}
use borrow.Author.Tests.{not-true, not-false}
use Rattle.std.proofs.Math.Seq.{length-take-le}
use Rattle.lines.proofs.Memory.{put_kept, put_count, put_nothing, did_as, numbered_late, numbered_over, numbered_in}
use Rattle.lines.proofs.Figures.{recount_free}
use Rattle.lines.proofs.add_number.Goals as goal

pub returns-then-not-state : goal.returns-then-not-state
returns-then-not-state c = λ list s. did_as (numbered_late _ _ (not-true _ c.if-not-state.true)) (c.question.ensures _ list s)

pub returns-then-not-append : goal.returns-then-not-append
returns-then-not-append c = λ list s. rw (c.append.ensures.kept c.if-not-append.true) (did_as (numbered_over _ _ (sym c.append.ensures.allowed ∙ c.if-not-append.true)) (c.question-then-not-append.ensures _ list s))

pub returns : goal.returns
returns c =
    λ list s.
    did_as (numbered_in _ _ (not-false _ c.if-not-state.false) (sym c.append.ensures.allowed ∙ c.if-not-append.false)) (record {
      numbers = put_count _ (c.append.ensures.put c.if-not-append.false) (omega arith);
      subscribers = put_kept _ list s.subscribers;
      filling = refl;
      delay = refl;
      fresh = refl;
      figures = s.figures ∙ sym (recount_free _ _ (length-take-le _ _ s.numbers) _);
      printed = put_nothing _;
      more_numbers = omega arith;
      more_subscribers = omega arith;
    })
