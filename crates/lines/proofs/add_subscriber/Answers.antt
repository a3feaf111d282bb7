use Rattle.std.proofs.Common.{refl, sym, ◌∙◌, arith}
use borrow.Author.Tests.{not-true, not-false}
use Rattle.lines.proofs.Memory.{put_kept, put_count, put_nothing, did_as, subscribed_late, subscribed_over, subscribed_in}
use Rattle.lines.proofs.add_subscriber.Goals as goal

pub returns-then-not-state : goal.returns-then-not-state
returns-then-not-state c = λ table s. did_as (subscribed_late _ _ _ (not-true _ c.if-not-state.true)) (c.question.ensures table _ s)

pub returns-then-not-append : goal.returns-then-not-append
returns-then-not-append c = λ table s. rw (c.append.ensures.kept c.if-not-append.true) (did_as (subscribed_over _ _ _ (sym c.append.ensures.allowed ∙ c.if-not-append.true)) (c.question-then-not-append.ensures table _ s))

pub returns : goal.returns
returns c =
    λ table s.
    did_as (subscribed_in _ _ _ (not-false _ c.if-not-state.false) (sym c.append.ensures.allowed ∙ c.if-not-append.false)) (record {
      numbers = put_kept _ table s.numbers;
      subscribers = put_count _ (rw c.from.ensures at (c.append.ensures.put c.if-not-append.false)) (omega arith);
      filling = refl;
      delay = refl;
      fresh = refl;
      figures = s.figures;
      printed = put_nothing _;
      more_numbers = omega arith;
      more_subscribers = omega arith;
    })
