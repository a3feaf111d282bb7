-- The numbers of the struct that closing, compacting and adding return. Assumes nothing.
use Rattle.std.specs.Prelude.{ℕ}
use Rattle.rules.specs.Answers.{refusal_class}
use Rattle.timetable.specs.Timetable as timetable
use Rattle.structs.specs.declared.Answer.{Answer}
use Rattle.structs.specs.Numbers.{struct_of}

-- a number closed; rows in use
abbrev pub closed_class : ℕ
closed_class = 12

abbrev pub rows_class : ℕ
rows_class = 13

-- the count of rows now in use, and how many went
abbrev pub of_change : timetable.Said → Answer
of_change (timetable.refusal n) = struct_of refusal_class n 0 0
of_change timetable.shut = struct_of closed_class 0 0 0
of_change (timetable.went gone left) = struct_of rows_class 0 left gone
of_change (timetable.rows n) = struct_of rows_class 0 n 0
