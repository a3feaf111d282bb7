use Rattle.std.proofs.Common.{◌≡◌, ◌++◌, take, drop, length}
use Rattle.image.specs.Images.{words_from}
use Rattle.image.proofs.load_words.Given as goal

abbrev pub invariant-loop-i : goal.invariant-loop-i
invariant-loop-i l = l.words ≡ take l.i (words_from l.octets l.start (length l.initial.words)) ++ drop l.i l.initial.words
