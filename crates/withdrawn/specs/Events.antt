-- Document 02, M-110: calls of demand 3 and closings, one after the other over one table and its figures. Assumes nothing.
use Rattle.std.specs.Prelude.{List, [], ◌∷◌, ℕ}
use Rattle.numbers.specs.declared.FunctionalNumber.{FunctionalNumber}
use Rattle.states.specs.States.{State, beside}
use Rattle.timetable.specs.Timetable.{closing_number}
use Rattle.rules.specs.Calls.{Call, call}

pub data Event : Type 0 where
  called : Call → Event
  closes : FunctionalNumber → Event

-- what an event leaves; closing changes no figure
abbrev pub left_by : List ℕ → ℕ → Event → State → State
left_by list delay (called c) state = (call list delay c state).1
left_by list delay (closes number) state = beside (closing_number state number.0).words state.figures

abbrev pub left_by_all : List ℕ → ℕ → List Event → State → State
left_by_all list delay [] state = state
left_by_all list delay (e ∷ es) state = left_by_all list delay es (left_by list delay e state)
