-- What a sending makes of a record, in the paper's numbers: a refusal, or the record with its notice in flight. Assumes nothing.
use Rattle.std.specs.Prelude.{ℕ, Result, Ok, Err}
use Rattle.answers.specs.Numbers.{refusal_number}
use Rattle.answers.specs.declared.Refusal.{Refusal}
use Rattle.records.specs.declared.Record.{Record}

pub data Sending : Type 0 where
  Refused : ℕ → Sending
  Launched : Record → Sending

-- which of them an answer is
abbrev pub said_sending : Result Record Refusal → Sending
said_sending (Ok next) = Launched next
said_sending (Err refusal) = Refused (refusal_number refusal)
