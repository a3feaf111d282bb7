use Rattle.std.proofs.Common.{ap}
use Rattle.answers.specs.Writing.{WriteOutcome}
use Rattle.ffn_c.proofs.Reader.{reads_error, reads_fields}
use Rattle.ffn_c.proofs.ffn_read_request.Goals as goal

pub returns-in_default : goal.returns-in_default
returns-in_default c = rw (c.from-in_default.ensures, c.from.ensures) (reads_error _ _ c.read_request.result c.read_request.ensures c.in_default.is)

pub returns : goal.returns
returns c =
    rw (c.of_fields.ensures, ap (λ (x : WriteOutcome). x.buffer) c.unpack.ensures)
    (reads_fields _ _ c.read_request.result c.read_request.ensures _ c.in-Some.is)
