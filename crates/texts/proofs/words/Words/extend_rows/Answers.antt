use Rattle.std.proofs.Common.{arith}
use Rattle.std.proofs.lemmas.Grind.{common_steps}
use Rattle.texts.specs.Words.{in_use, rows_of}
use Rattle.texts.proofs.Rows.{row_more, rows_full}
use Rattle.texts.proofs.words.Words.extend_rows.Goals as goal

pub loop-row-init : goal.loop-row-init
unfolding rows_of
loop-row-init g c = grind (arith, common_steps, c.args.self.now.within)

pub returns-then-is_full : goal.returns-then-is_full
returns-then-is_full g c = rows_full g.row.N (in_use c.args.self.now) c.args.others.now (in_use c.loop-row.self) c.args.first c.loop-row.row c.args.rows c.loop-row.auto.row-end c.loop-row.invariant (grind (arith, common_steps))

pub loop-row-preserved : goal.loop-row-preserved
loop-row-preserved g c = rw c.extend.ensures (rw c.push.ensures (rw (c.loop-row.invariant) (row_more g.row.N (in_use c.args.self.now) c.args.others.now c.args.first c.loop-row.row)))
