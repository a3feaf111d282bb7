-- By what the last octet tells. Assumes nothing.
use Rattle.std.proofs.Common.{sym, ◌∙◌, arith}
use Rattle.packing.proofs.Laws.{readable_is}
use Rattle.packing.proofs.is_readable.Goals as goal

pub returns : goal.returns
returns c = sym (readable_is c.args.octets.now (λ i. omega (arith, c.type_inv.octets i)) c.from-last.result (c.from-last.ensures ∙ c.last_octet.ensures))
