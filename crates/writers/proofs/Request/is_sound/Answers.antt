-- Assumes nothing.
use Rattle.std.proofs.Common.{sym, arith}
use Rattle.strings.specs.Text.{request_from}
use Rattle.strings.proofs.Text.{unsound_many, sound_few}
use Rattle.writers.proofs.Request.is_sound.Goals as goal

pub returns-then-count-gt-MOST_ADDITIONAL : goal.returns-then-count-gt-MOST_ADDITIONAL
returns-then-count-gt-MOST_ADDITIONAL c =
    let a = c.args.self in
    sym (unsound_many (request_from a.operation a.number a.erasing a.additional.now) (omega arith))

pub returns : goal.returns
returns c =
    let a = c.args.self in
    rw (c.is_number.ensures, c.erasing_sound.ensures, c.leading_additional-leading.ensures, c.crew_allowed.ensures, c.read_crew-crew.ensures)
    (sym (sound_few (request_from a.operation a.number a.erasing a.additional.now) (omega arith)))
