-- Table and figures as the code holds them while a call is lent them. Assumes nothing.
use Rattle.std.specs.Prelude.{◌≡◌}
use Rattle.states.specs.declared.Lent.{Lent}
use Rattle.states.specs.States.{State, beside}

-- the words that are lent
abbrev pub state_in : Lent → State
state_in lent = beside lent.table.now lent.figures.now

-- the same memory is lent afterwards
abbrev pub SameLoans : Lent → Lent → Type 0
SameLoans before after = (after.table.ghost_name ≡ before.table.ghost_name) × (after.figures.ghost_name ≡ before.figures.ghost_name)
