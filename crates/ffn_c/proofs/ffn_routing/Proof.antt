-- `ffn_routing` meets its contract: the numbers and octets of what `routes` ensures. Assumes nothing.
use mathlib.Core.Path.{ap}
use borrow.Author.Rules.{rules}
use Rattle.structs_calls.specs.Routes.{of_route}
use Rattle.ffn_c.proofs.ffn_routing.Statement.{statement}
use Rattle.ffn_c.proofs.ffn_routing.Tie as tie

routing-requires : tie.Need-routing-requires
routing-requires c κs = search rules

of_routing-requires : tie.Need-of_routing-requires
of_routing-requires c κs = search rules

returns : tie.Need-returns
returns c = rw c.of_routing.ensures (ap of_route c.routing.ensures)

pub ffn_routing_spec : {M : Type 1} → statement M
ffn_routing_spec = tie.close (tie.spec routing-requires of_routing-requires returns)
