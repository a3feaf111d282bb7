-- The numbers of the struct that the readers of messages return, from what a message reads as. Assumes nothing.
use Rattle.std.specs.Prelude.{ℕ, ◌-◌, List, length}
use Rattle.std.proofs.Math.Option.{Option, none, some}
use Rattle.strings.specs.Text.{coding_scheme}
use Rattle.frames.specs.Components.{Body, wrong, asks, Component, result, error, reject}
use Rattle.frames.specs.Messages.{version, unread_message, Register, Release}
use Rattle.rules.specs.Answers.{refusal_class, return_error_class, reject_class}
use Rattle.structs_read.specs.declared.FrameRead.{FrameRead}
use Rattle.structs.specs.Numbers.{read_class}

-- class, number, first octet and invoke number of a message without a string
abbrev pub stringless : ℕ → ℕ → ℕ → ℕ → FrameRead
stringless class number first invoke = record {
  class = class;
  number = number;
  first = first;
  invoke = invoke;
  scheme = 0;
  start = 0;
  length = 0;
}

-- first octet, invoke number and coding scheme of a message with a string, that by its place and its length
abbrev pub string_at : ℕ → ℕ → ℕ → ℕ → ℕ → FrameRead
string_at first invoke scheme start count = record {
  class = read_class;
  number = 0;
  first = first;
  invoke = invoke;
  scheme = scheme;
  start = start;
  length = count;
}

-- "11 for a message wrong anywhere up to its invoke number"; so is a Release Complete that reads as none
abbrev pub wrong_message : FrameRead
wrong_message = stringless refusal_class unread_message 0 0

-- ---- a Register

-- its string ends where the SS version starts
abbrev pub of_body : List ℕ → ℕ → ℕ → Body → FrameRead
of_body message first invoke (wrong problem) = stringless reject_class problem first invoke
of_body message first invoke (asks scheme string) = string_at first invoke scheme (length message - length version - length string) (length string)

abbrev pub of_register : List ℕ → Option Register → FrameRead
of_register message none = wrong_message
of_register message (some r) = of_body message r.first r.number r.body

-- ---- a Release Complete

-- the string of a result ends the message
abbrev pub of_component : List ℕ → ℕ → Component → FrameRead
of_component message first (result invoke string) = string_at first invoke coding_scheme (length message - length string) (length string)
of_component message first (error invoke code) = stringless return_error_class code first invoke
of_component message first (reject invoke problem) = stringless reject_class problem first invoke

abbrev pub of_release : List ℕ → Option Release → FrameRead
of_release message none = wrong_message
of_release message (some r) = of_component message r.first r.answer
