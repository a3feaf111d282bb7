-- `ffn_add` meets its contract: the numbers of what the timetable's function ensures. Assumes nothing.
use mathlib.Core.Path.{ap}
use borrow.Author.Rules.{rules}
use Rattle.ffn_c.specs.Calls.{of_timetable}
use Rattle.ffn_c.proofs.ffn_add.Statement.{statement}
use Rattle.ffn_c.proofs.ffn_add.Tie as tie

add-requires : tie.Need-add-requires
add-requires c κs = search rules

of_added-requires : tie.Need-of_added-requires
of_added-requires c κs = search rules

shape_of-words : tie.Need-shape_of-words
shape_of-words c = search rules

returns : tie.Need-returns
returns c = rw c.of_added.ensures (ap of_timetable c.add.ensures)

pub ffn_add_spec : {M : Type 1} → statement M
ffn_add_spec = tie.close (tie.spec add-requires of_added-requires shape_of-words returns)
