-- What each C function returns and leaves in all the memory that it was lent, for every input. Assumes nothing.
use Rattle.std.specs.Prelude.{ℕ, true, List, [], length, ltb}
use Rattle.std.proofs.Math.Option.{Option, none, some}
use Rattle.answers.specs.Writing as writing
use Rattle.numbers.specs.declared.FunctionalNumber.{FunctionalNumber}
use Rattle.packing.specs.Packing.{unpacked}
use Rattle.packing.specs.Outcomes.{unpacking}
use Rattle.strings.specs.declared.Erasing.{Erasing}
use Rattle.strings.specs.Text.{Request, request_from}
use Rattle.strings.specs.Outcomes.{request_of, tell, writer_room, writing_request}
use Rattle.frames.specs.Messages.{frame_room}
use Rattle.framers.specs.Written.{writing_register}
use Rattle.image.specs.Images.{SaidRead, RestoreOutcome, leaving}
use Rattle.timetable.specs.Timetable as timetable
use Rattle.rules.specs.Answers as rules
use Rattle.structs.specs.declared.Answer.{Answer}
use Rattle.std.specs.Prelude as core
use Rattle.std.specs.Prelude.{Some, None}
use Rattle.strings.specs.declared.Operation.{Operation}
use Rattle.structs_read.specs.declared.RequestRead.{RequestRead}
use Rattle.structs.specs.declared.ImageCounts.{ImageCounts}
use Rattle.structs.specs.Numbers.{of_said}
use Rattle.structs_calls.specs.Answers.{of_answer}
use Rattle.structs_read.specs.Fields.{of_told}
use Rattle.structs.specs.Images.{of_image}
use Rattle.structs.specs.Changes.{of_change}

-- the struct, the table, the figures and the buffer afterwards; [] for what is not lent
pub record Returned (S : Type 0) : Type 0 where
  pub answer : S
  pub table : List ℕ
  pub figures : List ℕ
  pub buffer : List ℕ

abbrev pub returning : {S : Type 0} → S → List ℕ → List ℕ → List ℕ → Returned S
returning answer table figures buffer = record { answer = answer; table = table; figures = figures; buffer = buffer }

-- what a call of the node comes to
abbrev pub of_call : rules.Outcome → Returned Answer
of_call o = returning (of_answer o.answer) o.state.table o.state.figures o.buffer

-- what a writer comes to
abbrev pub of_writer : writing.WriteOutcome → Returned Answer
of_writer o = returning (of_said o.answer) [] [] o.buffer

-- ---- the writers of a request

-- "the request writer is given fields that break the string's rules": so does an operation that is none
abbrev pub writing_fields : core.Option Operation → FunctionalNumber → Erasing → List ℕ → List ℕ → writing.WriteOutcome
writing_fields None number erasing additional out = writing.writing (ltb (length out) writer_room) true [] out
writing_fields (Some operation) number erasing additional out =
    writing_request (record { operation = operation; number = number; erasing = erasing; additional = additional }) out

-- so it does of a Register
abbrev pub framing_fields : ℕ → ℕ → core.Option Operation → FunctionalNumber → Erasing → List ℕ → List ℕ → writing.WriteOutcome
framing_fields transaction invoke None number erasing additional frame = writing.writing (ltb (length frame) frame_room) true [] frame
framing_fields transaction invoke (Some operation) number erasing additional frame =
    writing_register transaction invoke (request_from operation number erasing additional) frame

-- ---- the request's reader

-- by what the octets read as. "Errors and refusals … touch no memory"; the characters of a string that reads go into the text, if it has room for them
abbrev pub reading_as : List ℕ → List ℕ → Option Request → Returned RequestRead
reading_as octets text none = returning (of_told (tell (unpacked octets) none)) [] [] text
reading_as octets text (some f) = returning (of_told (tell (unpacked octets) (some f))) [] [] (unpacking octets text).buffer

unfoldable pub reading_into : List ℕ → List ℕ → Returned RequestRead
reading_into octets text = reading_as octets text (request_of octets)

-- ---- the image's reader

-- the struct, and table, list and figures afterwards
abbrev pub of_reading : RestoreOutcome SaidRead → RestoreOutcome ImageCounts
of_reading o = leaving (of_image o.answer) o.table o.list o.figures

-- ---- closing, compacting and adding

abbrev pub of_timetable : timetable.Outcome → Returned Answer
of_timetable o = returning (of_change o.answer) o.words [] []
