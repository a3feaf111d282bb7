use Rattle.std.proofs.Common.{◌≡◌, ◌++◌, take}
use Rattle.texts.specs.Words.{in_use, rows_of}
use Rattle.texts.proofs.words.Words.extend_rows.Given as goal

abbrev pub invariant-loop-row : goal.invariant-loop-row
invariant-loop-row g l = in_use l.self ≡ take g.row.N (in_use l.fn.self ++ rows_of l.row l.first l.others)
