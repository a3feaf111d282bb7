-- `ffn_close` meets its contract: the numbers of what the timetable's function ensures. Assumes nothing.
use mathlib.Core.Path.{ap}
use borrow.Author.Rules.{rules}
use Rattle.ffn_c.specs.Calls.{of_timetable}
use Rattle.ffn_c.proofs.ffn_close.Statement.{statement}
use Rattle.ffn_c.proofs.ffn_close.Tie as tie

close-requires : tie.Need-close-requires
close-requires c κs = search rules

of_closed-requires : tie.Need-of_closed-requires
of_closed-requires c κs = search rules

shape_of-table : tie.Need-shape_of-table
shape_of-table c = search rules

returns : tie.Need-returns
returns c = rw c.of_closed.ensures (ap of_timetable c.close.ensures)

pub ffn_close_spec : {M : Type 1} → statement M
ffn_close_spec = tie.close (tie.spec close-requires of_closed-requires shape_of-table returns)
