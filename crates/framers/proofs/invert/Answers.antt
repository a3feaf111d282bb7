-- `framers::invert` meets its contract. Assumes nothing.
use mathlib.Core.Path.{sym}
use Rattle.frames.proofs.Flags.{flag_set, flag_cleared}
use Rattle.framers.proofs.invert.Goals as goal

pub returns-then-first-lt-FLAG : goal.returns-then-first-lt-FLAG
returns-then-first-lt-FLAG c = sym (flag_set _ c.if-first-lt-FLAG.true)

pub returns : goal.returns
returns c = sym (flag_cleared _ c.if-first-lt-FLAG.false)
