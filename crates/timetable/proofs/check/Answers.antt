use Rattle.timetable.proofs.Using.{refuses_beyond, refuses_within}
use Rattle.timetable.proofs.check.Goals as goal

pub returns-then-words-used : goal.returns-then-words-used
returns-then-words-used c = refuses_beyond c.args.words.now c.args.used c.args.figures.now c.if-words-used.true

pub returns : goal.returns
returns c = refuses_within c.args.words.now c.args.used c.args.figures.now c.if-words-used.false _ c.check.ensures
