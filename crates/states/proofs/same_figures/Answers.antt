use Rattle.std.proofs.Common.{◌∙◌}
use Rattle.tables.specs.Figures.{figure_words}
use Rattle.states.proofs.Words.{same_pointwise}
use Rattle.states.proofs.same_figures.Goals as goal

pub returns : goal.returns
returns c = c.eq.ensures ∙ rw (c.as_slice.ensures, c.from.ensures) (same_pointwise c.args.figures.now (figure_words c.args.counted))
