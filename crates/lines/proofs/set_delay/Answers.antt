use Rattle.std.proofs.Common.{Bool, ◌&&◌, refl, ap, sym, ◌∙◌, arith}
use Rattle.lines.proofs.Memory.{put_kept, put_nothing, did_as, delayed_not, delayed_so}
use Rattle.lines.proofs.set_delay.Goals as goal

pub returns-then-not-first-delay_allowed : goal.returns-then-not-first-delay_allowed
returns-then-not-first-delay_allowed c = λ table list s. did_as (delayed_not _ _ _ (ap (λ (x : Bool). c.args.first && x) (sym c.delay_allowed.ensures) ∙ c.if-not-first-delay_allowed.true)) (c.question.ensures table list s)

pub returns : goal.returns
returns c =
    λ table list s.
    did_as (delayed_so _ _ _ (ap (λ (x : Bool). c.args.first && x) (sym c.delay_allowed.ensures) ∙ c.if-not-first-delay_allowed.false)) (record {
      numbers = put_kept _ table s.numbers;
      subscribers = put_kept _ list s.subscribers;
      filling = refl;
      delay = refl;
      fresh = refl;
      figures = s.figures;
      printed = put_nothing _;
      more_numbers = omega arith;
      more_subscribers = omega arith;
    })
