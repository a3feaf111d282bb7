-- Assumes nothing.
use Rattle.std.proofs.Common.{zero-le, arith}
use borrow.Author.Tests.{ne_eqb}
use Rattle.forms.specs.Lines.{lettered}
use Rattle.forms.proofs.Reading.{reads_as}
use Rattle.forms.proofs.read_form.Goals as goal

pub returns-in-78 : goal.returns-in-78
unfolding lettered
returns-in-78 c = reads_as c.read_number.ensures (rw c.in-78.is)

pub returns-in-83 : goal.returns-in-83
unfolding lettered
returns-in-83 c = reads_as c.read_subscriber.ensures (rw c.in-83.is)

pub returns-in-82 : goal.returns-in-82
unfolding lettered
returns-in-82 c = reads_as c.read_request.ensures (rw c.in-82.is)

pub returns-in-84 : goal.returns-in-84
unfolding lettered
returns-in-84 c = reads_as c.read_sending.ensures (rw c.in-84.is)

pub returns-in-68 : goal.returns-in-68
unfolding lettered
returns-in-68 c = reads_as c.read_result.ensures (rw c.in-68.is)

pub returns-in-87 : goal.returns-in-87
unfolding lettered
returns-in-87 c = reads_as c.read_delay.ensures (rw c.in-87.is)

pub returns-in_default : goal.returns-in_default
unfolding lettered
returns-in_default c = record { form = rw (ne_eqb c.args.letter 78 (λ e. omega arith), ne_eqb c.args.letter 83 (λ e. omega arith), ne_eqb c.args.letter 82 (λ e. omega arith), ne_eqb c.args.letter 84 (λ e. omega arith), ne_eqb c.args.letter 68 (λ e. omega arith), ne_eqb c.args.letter 87 (λ e. omega arith)); within = zero-le }
