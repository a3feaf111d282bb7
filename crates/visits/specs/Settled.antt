-- A step of a record whose outcomes have numbers, whatever tells them. Assumes nothing.
use Rattle.std.specs.Prelude.{ℕ, Result, Ok, Err}
use Rattle.records.specs.declared.Record.{Record}
use Rattle.records.specs.Step.{Step, Stays, Becomes}

abbrev pub step_by : {O : Type 0} → (O → ℕ) → Result Record O → Step
step_by number (Ok next) = Becomes next
step_by number (Err outcome) = Stays (number outcome)
