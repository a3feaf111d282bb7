-- What an interrogation finds, in the paper's numbers: an outcome, or the holder. Assumes nothing.
use Rattle.std.specs.Prelude.{ℕ, Result, Ok, Err}
use Rattle.answers.specs.Numbers.{outcome_number}
use Rattle.answers.specs.declared.Outcome.{Outcome}
use Rattle.numbers.specs.declared.Msisdn.{Msisdn}

pub data Holder : Type 0 where
  Stays : ℕ → Holder
  Held : Msisdn → Holder

-- which of them an answer is
abbrev pub said_holder : Result Msisdn Outcome → Holder
said_holder (Ok holder) = Held holder
said_holder (Err outcome) = Stays (outcome_number outcome)
