-- A step by the papers' numbers is the step that an answer says; its outcome, said in the reply. Assumes nothing.
use mathlib.Core.Path.{◌≡◌, refl, ap, ◌∙◌}
use mathlib.Core.List.{List}
use Prim.Native.Nat.{ℕ}
use Rattle.std.specs.Prelude.{Result, Ok, Err}
use Rattle.answers.specs.Numbers.{outcome_number}
use Rattle.answers.specs.declared.Outcome.{Outcome}
use Rattle.numbers.specs.Numbers.{two_digits}
use Rattle.records.specs.declared.Record.{Record}
use Rattle.records.specs.Step.{Step, said_step}
use Rattle.states.specs.States.{State}
use Rattle.rules.specs.Answers.{Answer, outcome, made, packed_over, octet_count}
use Rattle.rules.specs.Requests.{comes_to, says, replying}
use Rattle.rules.specs.Visits.{step_at}
use Rattle.visits.specs.Settled.{step_by}

pub by_number : (step : Result Record Outcome) → step_by outcome_number step ≡ said_step step
by_number (Ok next) = refl
by_number (Err o) = refl

pub said_placed :
    (t new : State) (b after : List ℕ) (i success n : ℕ) (said : Answer) (step : Result Record Outcome) (p : Step) → comes_to (says n) new ≡ step_at t i success (step_by outcome_number step)
    → said_step step ≡ p → said ≡ outcome n (octet_count (two_digits n)) → after ≡ packed_over (two_digits n) b → made said new after ≡ replying b (step_at t i success p)
said_placed t new b after i success n said step p e h f g =
    rw (f, g) (ap (replying b) (e ∙ ap (λ (x : Step). step_at t i success x) (by_number step ∙ h)))
