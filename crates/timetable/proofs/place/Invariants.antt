-- No row from i on is below the number. Assumes nothing.
use Rattle.std.proofs.Common.{◌≡◌, ◌≤◌}
use Rattle.timetable.specs.Moving.{place}
use Rattle.timetable.proofs.place.Given as goal

abbrev pub invariant-loop-i : goal.invariant-loop-i
invariant-loop-i l = (l.i ≤ l.used) × (place l.number l.words l.used ≡ place l.number l.words l.i)
