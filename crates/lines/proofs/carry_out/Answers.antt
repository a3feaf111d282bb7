use Rattle.answers.proofs.Parts.{rest_of}
use Rattle.lines.proofs.Calls.{octets_behind}
use Rattle.lines.proofs.carry_out.Goals as goal

pub request_line-requires-clause-string_in_bounds : goal.request_line-requires-clause-string_in_bounds
request_line-requires-clause-string_in_bounds c = (rw rest_of (octets_behind c.in-Request.start _ c.args.rest.now c.requires.rest_in_bounds.0), c.requires.rest_in_bounds.1)

pub returns-in-Delay : goal.returns-in-Delay
returns-in-Delay c = rw c.in-Delay.is (c.set_delay.ensures _ _ c.requires.line_in_bounds.1)
