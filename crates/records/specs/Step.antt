-- What a request makes of a record, in the paper's numbers: it stays, by the outcome, or becomes the next record. Assumes nothing.
use Rattle.std.specs.Prelude.{ℕ, Result, Ok, Err}
use Rattle.answers.specs.Numbers.{outcome_number}
use Rattle.answers.specs.declared.Outcome.{Outcome}
use Rattle.records.specs.declared.Record.{Record}

pub data Step : Type 0 where
  Stays : ℕ → Step
  Becomes : Record → Step

-- which of them an answer is
abbrev pub said_step : Result Record Outcome → Step
said_step (Ok next) = Becomes next
said_step (Err outcome) = Stays (outcome_number outcome)
