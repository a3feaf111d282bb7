-- Assumes nothing.
use mathlib.Core.Path.{◌∙◌}
use Rattle.answers.proofs.Begins.{begins_starts}
use Rattle.answers.proofs.begins_with.Goals as goal

pub returns : goal.returns
returns c = c.starts_with.ensures.value ∙ begins_starts _ _
