-- What the reader and the writer of the packed request string answer and leave, for every input. Assumes nothing.
use Rattle.std.specs.Prelude as core
use Rattle.std.specs.Prelude.{ℕ, ◌-◌, not, List, length, take, drop, replicate, ltb, Some, None}
use Rattle.std.proofs.Math.Option.{Option, none, some}
use Rattle.answers.specs.Writing.{WriteOutcome, writing}
use Rattle.crews.specs.Crews.{count_of}
use Rattle.crews.specs.declared.Crew.{Crew}
use Rattle.packing.specs.Packing.{packed, unpacked}
use Rattle.packing.specs.Outcomes.{unpacking}
use Rattle.strings.specs.declared.Fields.{Fields}
use Rattle.strings.specs.declared.ReadRequest.{ReadRequest}
use Rattle.strings.specs.Text.{Request, request_sound, text_of, most_characters}
use Rattle.strings.specs.Reader.{unpacked_by, fields_of}

-- what the packed string reads as: nothing where its bits are unreadable or it breaks its rules
unfoldable pub request_of : List ℕ → Option Request
request_of os = unpacked_by fields_of os

-- in the paper's words: the fields, with the place of the additional field in the text and what it says of a crew, or an error by its number
pub data Told : Type 0 where
  fields : Request → ℕ → Crew → Told
  error : ℕ → Told

-- the fields of the code's answer, the additional field taken from the text
abbrev pub request_in : List ℕ → Fields → Request
request_in text f = record {
  operation = f.operation;
  number = f.number;
  erasing = f.erasing;
  additional = take f.count (drop f.start text);
}

-- the paper's class, number and values for each case of the answer
abbrev pub told : core.Option Fields → List ℕ → Told
told (Some f) text = fields (request_in text f) f.start f.crew
told None text = error 36

-- what was told, and the text beside it
pub record ReadOutcome : Type 0 where
  pub answer : Told
  pub text : List ℕ

abbrev pub made_read : ReadRequest → ReadOutcome
made_read r = record { answer = told r.reading r.text; text = r.text }

-- the additional field stands before the last character
abbrev pub tell : List ℕ → Option Request → Told
tell text none = error 36
tell text (some f) = fields f (length text - 1 - length f.additional) (count_of f.additional)

-- the text beside the answer: the characters, if they can be unpacked into it, and zeros behind them
unfoldable pub text_beside : List ℕ → List ℕ
text_beside os = (unpacking os (replicate most_characters 0)).buffer

-- the fields, or error 36
unfoldable pub reading : List ℕ → ReadOutcome
reading os = record { answer = tell (unpacked os) (request_of os); text = text_beside os }

-- "the request writer is given fields that break the string's rules (checked after 1, here a buffer under 160 octets)"
abbrev pub writer_room : ℕ
writer_room = 160

unfoldable pub writing_request : Request → List ℕ → WriteOutcome
writing_request f out = writing (ltb (length out) writer_room) (not (request_sound f)) (packed (text_of f)) out
