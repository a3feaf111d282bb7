-- `ffn_result` meets its contract: the numbers of what the node ensures. Assumes nothing.
use mathlib.Core.Path.{ap}
use borrow.Author.Rules.{rules}
use Rattle.ffn_c.specs.Calls.{of_call}
use Rattle.ffn_c.proofs.ffn_result.Statement.{statement}
use Rattle.ffn_c.proofs.ffn_result.Tie as tie

result-requires : tie.Need-result-requires
result-requires c κs = search rules

of_result-requires : tie.Need-of_result-requires
of_result-requires c κs = search rules

shape_of-table : tie.Need-shape_of-table
shape_of-table c = search rules

shape_of-figures : tie.Need-shape_of-figures
shape_of-figures c = search rules

returns : tie.Need-returns
returns c = rw c.of_result.ensures (ap of_call c.result.ensures)

pub ffn_result_spec : {M : Type 1} → statement M
ffn_result_spec = tie.close (tie.spec result-requires of_result-requires shape_of-table shape_of-figures returns)
