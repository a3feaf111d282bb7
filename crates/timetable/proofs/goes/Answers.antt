use Rattle.std.proofs.Common.{ap, ◌∙◌}
use Rattle.records.specs.Steps.{has_run_out}
use Rattle.timetable.specs.Moving.{goes}
use Rattle.timetable.proofs.goes.Goals as goal

pub returns : goal.returns
unfolding goes
returns c = c.has_run_out.ensures ∙ ap has_run_out c.load.ensures
