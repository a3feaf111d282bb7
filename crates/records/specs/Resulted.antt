-- What a result makes of a record, in the paper's numbers: a refusal, or what it returns, with the next record. Assumes nothing.
use Rattle.std.specs.Prelude.{ℕ, Result, Ok, Err}
use Rattle.answers.specs.Numbers.{refusal_number}
use Rattle.answers.specs.declared.Refusal.{Refusal}
use Rattle.records.specs.declared.Fate.{Fate}
use Rattle.records.specs.declared.Fate.TheVariants as fate
use Rattle.records.specs.declared.Record.{Record}

pub data Resulted : Type 0 where
  Refused : ℕ → Resulted
  Delivered : Record → Resulted
  Dropped : Record → Resulted
  Again : Record → Resulted

-- the next record, with what became of its notice
abbrev pub fated : Fate → Record → Resulted
fated fate.Delivered next = Delivered next
fated fate.Dropped next = Dropped next
fated fate.Again next = Again next

-- which of them an answer is
abbrev pub said_resulted : Result (Fate × Record) Refusal → Resulted
said_resulted (Ok it) = fated it.0 it.1
said_resulted (Err refusal) = Refused (refusal_number refusal)
