-- From where the loop stands, the codes that are left lead to the walk's end. Assumes nothing.
use Rattle.std.proofs.Common.{◌≡◌, ◌+◌, ◌*◌, true, drop}
use Rattle.crews.specs.Crews.{codes_in}
use Rattle.states.specs.Lent.{state_in, SameLoans}
use Rattle.states.specs.States.{state_sound}
use Rattle.rules.specs.Crews.{Walk, walked}
use Rattle.rules.specs.Singles.{plainly}
use Rattle.walks.specs.Tallies.{steps_counted, Tallies}
use Rattle.walks.proofs.walk.Given as goal

abbrev pub invariant-loop-i : goal.invariant-loop-i
invariant-loop-i l = record {
  loans : SameLoans l.initial.lent l.lent;
  sound : state_sound (state_in l.lent) ≡ true;
  counted : steps_counted l.tally ≡ l.i + 1;
  leads : (first : Walk) → Tallies l.initial.tally (state_in l.initial.lent) first
      → (w : Walk) × Tallies l.tally (state_in l.lent) w
      × (walked l.requester (plainly l.operation l.lead) (codes_in (drop (2 * l.i) l.digits)) w ≡ walked l.requester (plainly l.operation l.lead) (codes_in l.digits) first);
}
