-- The rows passed stand, `before` is the number of the last, the words above it up to `end` are numbers, and so are those from `near` on; the figures are those of the rows passed. Assumes nothing.
use Rattle.tables.proofs.Passed.{Passed}
use Rattle.tables.proofs.recount.Given as goal

abbrev pub invariant-loop-words : goal.invariant-loop-words
invariant-loop-words l = Passed l.table l.words-iterator.rest.now l.words-iterator.size l.figures l.before l.end l.near
