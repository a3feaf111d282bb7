-- The numbers of the struct that the C functions return, from the answers in document 01's words. Assumes nothing.
use Rattle.std.specs.Prelude.{ℕ}
use Rattle.answers.specs.Writing as writing
use Rattle.rules.specs.Answers as rules
use Rattle.structs.specs.declared.Answer.{Answer}

-- the classes of answers that are no call's: a writer's count, and fields that were read
abbrev pub written_class : ℕ
written_class = 0

abbrev pub read_class : ℕ
read_class = 8

abbrev pub struct_of : ℕ → ℕ → ℕ → ℕ → Answer
struct_of class number count value = record { class = class; number = number; count = count; value = value }

-- what a packer, an unpacker or a request's writer answers
abbrev pub of_said : writing.Said → Answer
of_said (writing.count n) = struct_of written_class 0 n 0
of_said (writing.refusal n) = struct_of rules.refusal_class n 0 0
