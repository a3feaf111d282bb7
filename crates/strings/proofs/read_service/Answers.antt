-- Assumes nothing.
use Rattle.std.proofs.Common.{sym, ◌∙◌}
use Rattle.answers.proofs.Begins.{begins_within}
use Rattle.strings.specs.Reader.{service_at}
use Rattle.strings.proofs.read_service.Goals as goal

pub returns-then-begins_with : goal.returns-then-begins_with
unfolding service_at
returns-then-begins_with c =
    let yes = sym c.begins_with.ensures ∙ c.if-begins_with.true in
    record { within = begins_within _ _ yes; found = rw yes }

pub returns : goal.returns
unfolding service_at
returns c = rw (sym c.begins_with.ensures ∙ c.if-begins_with.false)
