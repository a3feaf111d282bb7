use Rattle.std.proofs.Common.{refl, ap, ◌∙◌, arith}
use Rattle.numbers.proofs.Lengths.{number_below}
use Rattle.states.specs.Lent.{state_in}
use Rattle.states.specs.States.{state_sound}
use Rattle.rules.specs.Requests.{Stepping}
use Rattle.rules.specs.Crews.{with_code}
use Rattle.rules.proofs.Sound.{step_keeps}
use Rattle.rules.specs.Singles.{plainly}
use Rattle.walks.proofs.Tallies.{step_succeeds, step_fails, succeeds, fails}
use Rattle.walks.proofs.step_on.Goals as goal

pub overflow_add-number : goal.overflow_add-number
overflow_add-number c = omega (arith, number_below c.args.lead.0 c.requires.lead_value.0)

pub returns-in-Registered-clause-answer : goal.returns-in-Registered-clause-answer
unfolding with_code
returns-in-Registered-clause-answer c =
    let a = c.args in (
      ap (λ (x : Stepping). state_sound x.state) c.step.ensures.answer
          ∙ (step_keeps (state_in a.lent.now) c.requires.figures_value.0 a.requester c.requires.figures_value.2 (plainly a.operation _) refl).sound,
      omega (arith, c.with_code.ensures.0),
      λ w stands. step_succeeds a.tally _ _ _ a.requester a.operation a.lead a.code c.step.ensures.answer w stands _ (succeeds _ c.in-Registered.is) (c.with_code.ensures.1 _ stands.successes),
    )

pub returns-in_default-clause-answer : goal.returns-in_default-clause-answer
unfolding with_code
returns-in_default-clause-answer c =
    let a = c.args in (
      ap (λ (x : Stepping). state_sound x.state) c.step.ensures.answer
          ∙ (step_keeps (state_in a.lent.now) c.requires.figures_value.0 a.requester c.requires.figures_value.2 (plainly a.operation _) refl).sound,
      omega (arith, c.with_code-in_default.ensures.0),
      λ w stands. step_fails a.tally _ _ _ a.requester a.operation a.lead a.code c.step.ensures.answer w stands _ (fails _ c.in_default.not-Registered c.in_default.not-Erased) (c.with_code-in_default.ensures.1 _ stands.failures),
    )
