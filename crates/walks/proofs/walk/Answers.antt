use Rattle.std.proofs.Common.{refl, ◌∙◌, arith}
use Rattle.crews.specs.Crews.{codes_in}
use Rattle.crews.proofs.Reading.{pair}
use Rattle.states.specs.Lent.{state_in}
use Rattle.rules.specs.Crews.{set_out}
use Rattle.walks.specs.Tallies.{Tallies}
use Rattle.walks.proofs.Tallies.{walk_on, walk_ends, walk_starts}
use Rattle.walks.proofs.walk.Goals as goal

pub step_on-tally-requires-in-loop-i-clause-lead_value : goal.step_on-tally-requires-in-loop-i-clause-lead_value
step_on-tally-requires-in-loop-i-clause-lead_value c =
    let p = pair c.args.digits.now c.loop-i.i c.requires.lead_value.1 (omega arith) in
    (c.requires.lead_value.0, omega (arith, p, c.code_at-code.ensures), omega (arith, c.requires.lead_value.2, c.loop-i.invariant.counted))

pub loop-i-preserved : goal.loop-i-preserved
loop-i-preserved c =
    let a = c.args in
    let done = c.step_on-tally-in-loop-i.ensures.answer in
    record {
      loans = (c.step_on-tally-in-loop-i.ensures.loans.0 ∙ c.loop-i.invariant.loans.0, c.step_on-tally-in-loop-i.ensures.loans.1 ∙ c.loop-i.invariant.loans.1);
      sound = done.0;
      counted = omega (arith, done.1, c.loop-i.invariant.counted);
      leads = λ first stands.
          let (w, t, e) = c.loop-i.invariant.leads first stands in
          (_, done.2 w t, walk_on a.requester a.operation a.lead a.digits.now c.loop-i.i w c.code_at-code.result (omega arith) c.code_at-code.ensures ∙ e);
    }

pub returns-clause-answer : goal.returns-clause-answer
returns-clause-answer c =
    let a = c.args in
    let out = set_out (state_in a.lent.now) in
    let none : Tallies (record { successes = c.no_codes.result; failures = c.no_codes-2.result }) (state_in a.lent.now) out = record { successes = c.no_codes.ensures; failures = c.no_codes-2.ensures; left = refl } in
    let (w, t, e) = c.loop-i.invariant.leads _ (c.step_on-tally.ensures.answer.2 out none) in (
      omega (arith, c.loop-i.invariant.counted, c.requires.lead_value.2),
      rw (walk_starts a.requester a.operation a.lead (codes_in a.digits.now) out, ← e, walk_ends a.requester a.operation a.lead a.digits.now c.loop-i.i w (omega arith)) t,
    )
