use Rattle.std.proofs.Common.{arith, sym, ◌∙◌}
use Rattle.tables.proofs.Sound.{table_row}
use Rattle.visits.proofs.Due.{due_here, due_later, due_nowhere}
use Rattle.visits.proofs.first_due.Goals as goal

pub row_due-requires : goal.row_due-requires
row_due-requires c = (omega arith, table_row _ c.requires _ (omega arith))

pub returns-then-row_due : goal.returns-then-row_due
returns-then-row_due c =
    sym (c.loop-row.invariant ∙ due_here _ _ _ _ c.loop-row.row c.loop-row-test.true (sym c.row_due.ensures ∙ c.if-row_due.true))

pub loop-row-preserved : goal.loop-row-preserved
loop-row-preserved c =
    c.loop-row.invariant ∙ due_later _ _ _ _ c.loop-row.row c.loop-row-test.true (sym c.row_due.ensures ∙ c.if-row_due.false)

pub returns : goal.returns
returns c = sym (c.loop-row.invariant ∙ due_nowhere _ _ _ _ c.loop-row.row c.loop-row-test.false)
