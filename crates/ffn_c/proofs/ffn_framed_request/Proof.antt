-- `ffn_framed_request` meets its contract: the numbers of what the exchange ensures. Assumes nothing.
use mathlib.Core.Path.{ap}
use borrow.Author.Rules.{rules}
use Rattle.ffn_c.specs.Calls.{of_call}
use Rattle.ffn_c.proofs.ffn_framed_request.Statement.{statement}
use Rattle.ffn_c.proofs.ffn_framed_request.Tie as tie

framed_request-requires : tie.Need-framed_request-requires
framed_request-requires c κs = search rules

of_framed-requires : tie.Need-of_framed-requires
of_framed-requires c κs = search rules

shape_of-table : tie.Need-shape_of-table
shape_of-table c = search rules

shape_of-figures : tie.Need-shape_of-figures
shape_of-figures c = search rules

shape_of-frame : tie.Need-shape_of-frame
shape_of-frame c = search rules

returns : tie.Need-returns
returns c = rw c.of_framed.ensures (ap of_call c.framed_request.ensures)

pub ffn_framed_request_spec : {M : Type 1} → statement M
ffn_framed_request_spec =
    tie.close (tie.spec framed_request-requires of_framed-requires shape_of-table shape_of-figures shape_of-frame returns)
