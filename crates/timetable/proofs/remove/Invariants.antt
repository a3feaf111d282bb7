-- The kept of the rows passed stand in front, and what is not yet written over is as it was. Assumes nothing.
use Rattle.timetable.specs.Moving.{goes}
use Rattle.timetable.proofs.Packing.{Packed}
use Rattle.timetable.proofs.remove.Given as goal

abbrev pub invariant-loop-i : goal.invariant-loop-i
invariant-loop-i l = Packed goes l.fn.words l.i l.words l.kept
