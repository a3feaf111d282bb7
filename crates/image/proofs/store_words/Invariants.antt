use Rattle.std.proofs.Common.{◌*◌, take}
use Rattle.answers.specs.Writing.{Stands}
use Rattle.image.specs.Images.{word_octets, octets_of}
use Rattle.image.proofs.store_words.Given as goal

abbrev pub invariant-loop-i : goal.invariant-loop-i
invariant-loop-i l = Stands (octets_of (take l.i l.words)) l.initial.out (word_octets * l.i) l.out
