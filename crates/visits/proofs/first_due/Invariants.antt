use Rattle.std.proofs.Common.{◌≡◌, ◌-◌}
use Rattle.tables.specs.Tables.{rows_in}
use Rattle.rules.specs.Notices.{first_due}
use Rattle.visits.proofs.first_due.Given as goal

abbrev pub invariant-loop-row : goal.invariant-loop-row
invariant-loop-row l = first_due l.table l.delay l.clock (rows_in l.table) 0 ≡ first_due l.table l.delay l.clock (rows_in l.table - l.row) l.row
