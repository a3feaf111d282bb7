-- `ffn_compact` meets its contract: the numbers of what the timetable's function ensures. Assumes nothing.
use mathlib.Core.Path.{ap}
use borrow.Author.Rules.{rules}
use Rattle.ffn_c.specs.Calls.{of_timetable}
use Rattle.ffn_c.proofs.ffn_compact.Statement.{statement}
use Rattle.ffn_c.proofs.ffn_compact.Tie as tie

compact-requires : tie.Need-compact-requires
compact-requires c κs = search rules

of_compacted-requires : tie.Need-of_compacted-requires
of_compacted-requires c κs = search rules

shape_of-words : tie.Need-shape_of-words
shape_of-words c = search rules

returns : tie.Need-returns
returns c = rw c.of_compacted.ensures (ap of_timetable c.compact.ensures)

pub ffn_compact_spec : {M : Type 1} → statement M
ffn_compact_spec = tie.close (tie.spec compact-requires of_compacted-requires shape_of-words returns)
