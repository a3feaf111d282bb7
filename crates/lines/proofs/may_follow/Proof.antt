-- `lines::may_follow` meets its contract. Assumes nothing.
use Rattle.lines.specs.Program.{may_follow}
use borrow.Author.Rules.{rules}
use Rattle.lines.proofs.may_follow.Statement.{statement}
use Rattle.lines.proofs.may_follow.Tie as tie

nonzero_div-rows : tie.Need-nonzero_div-rows
nonzero_div-rows c = search rules

last_key-last-requires : tie.Need-last_key-last-requires
last_key-last-requires c κs = search rules

returns : tie.Need-returns
unfolding may_follow
returns c = rw c.last_key-last.ensures

pub may_follow_spec : {M : Type 1} → statement M
may_follow_spec = tie.close (tie.spec nonzero_div-rows last_key-last-requires returns)
