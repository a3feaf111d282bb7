-- Document 02, M-101: a Register written, "its string made by the request writer", and which component an error or a Reject is. Assumes nothing.
use Rattle.std.specs.Prelude.{ℕ, ◌+◌, ◌*◌, not, ◌||◌, List, length, ltb}
use Rattle.answers.specs.Writing.{WriteOutcome, writing}
use Rattle.packing.specs.Packing.{packed}
use Rattle.strings.specs.Text.{Request, request_sound, text_of, coding_scheme}
use Rattle.frames.specs.Components.{Component, error, reject}
use Rattle.frames.specs.Messages.{frame_room, protocol, register}
use Rattle.framers.specs.declared.Fault.{Fault}
use Rattle.framers.specs.declared.Fault.TheVariants as fault

-- the component that an answer without a result is written as
abbrev pub told_fault : ℕ → Fault → Component
told_fault number (fault.Error code) = error number code
told_fault number (fault.Reject problem) = reject number problem

-- the transaction identifier, flag and value, has four bits
abbrev pub most_transaction : ℕ
most_transaction = 15

abbrev pub first_for : ℕ → ℕ
first_for transaction = transaction * 16 + protocol

-- refusal 1 for a frame buffer under 120 octets, then 9 for an identifier above 15 or fields that break the string's rules
unfoldable pub writing_register : ℕ → ℕ → Request → List ℕ → WriteOutcome
writing_register transaction number f frame =
    writing (ltb (length frame) frame_room) (ltb most_transaction transaction || not (request_sound f))
    (register (first_for transaction) number coding_scheme (packed (text_of f))) frame
