use Rattle.std.proofs.Common.{◌≡◌, ◌++◌, take}
use Rattle.texts.specs.Words.{in_use}
use Rattle.texts.proofs.words.Words.extend.Given as goal

abbrev pub invariant-loop-word : goal.invariant-loop-word
invariant-loop-word g l = in_use l.self ≡ take g.row.N (in_use l.fn.self ++ take l.word-index l.words)
