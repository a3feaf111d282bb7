-- `answers::stands_at` meets its contract. Assumes nothing.
use borrow.Author.Rules.{rules}
use Rattle.answers.proofs.Begins.{stands_not, stands_if}
use Rattle.answers.proofs.stands_at.Statement.{statement}
use Rattle.answers.proofs.stands_at.Tie as tie

returns-then-text-at : tie.Need-returns-then-text-at
returns-then-text-at c = stands_not _ _ _ c.if-text-at.true

bounds-text-at : tie.Need-bounds-text-at
bounds-text-at c = search rules

returns : tie.Need-returns
returns c = stands_if _ _ _ c.if-text-at.false

pub stands_at_spec : {M : Type 1} → statement M
stands_at_spec = tie.close (tie.spec returns-then-text-at bounds-text-at returns)
