-- `ffn_finding` meets its contract: the numbers of what the node ensures. Assumes nothing.
use mathlib.Core.Path.{ap}
use borrow.Author.Rules.{rules}
use Rattle.structs_calls.specs.Answers.{of_answer}
use Rattle.ffn_c.proofs.ffn_finding.Statement.{statement}
use Rattle.ffn_c.proofs.ffn_finding.Tie as tie

finding-requires : tie.Need-finding-requires
finding-requires c κs = search rules

of_finding-requires : tie.Need-of_finding-requires
of_finding-requires c κs = search rules

returns : tie.Need-returns
returns c = rw c.of_finding.ensures (ap of_answer c.finding.ensures)

pub ffn_finding_spec : {M : Type 1} → statement M
ffn_finding_spec = tie.close (tie.spec finding-requires of_finding-requires returns)
