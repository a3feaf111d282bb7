-- `ffn_request` meets its contract: the numbers of what the node ensures. Assumes nothing.
use mathlib.Core.Path.{ap}
use borrow.Author.Rules.{rules}
use Rattle.ffn_c.specs.Calls.{of_call}
use Rattle.ffn_c.proofs.ffn_request.Statement.{statement}
use Rattle.ffn_c.proofs.ffn_request.Tie as tie

request-answer-requires : tie.Need-request-answer-requires
request-answer-requires c κs = search rules

of_request-requires : tie.Need-of_request-requires
of_request-requires c κs = search rules

shape_of-table : tie.Need-shape_of-table
shape_of-table c = search rules

shape_of-figures : tie.Need-shape_of-figures
shape_of-figures c = search rules

shape_of-reply : tie.Need-shape_of-reply
shape_of-reply c = search rules

returns : tie.Need-returns
returns c = rw c.of_request.ensures (ap of_call c.request-answer.ensures)

pub ffn_request_spec : {M : Type 1} → statement M
ffn_request_spec =
    tie.close (tie.spec request-answer-requires of_request-requires shape_of-table shape_of-figures shape_of-reply returns)
