-- Assumes nothing.
use Rattle.std.proofs.Common.{◌≡◌, sym, ◌∙◌}
use Rattle.timetable.specs.Moving.{place}
use Rattle.timetable.proofs.Opening.{Opened, place_again, opened_end, moved_up}
use Rattle.timetable.proofs.insert.Goals as goal

pub returns : goal.returns
returns c =
    let a = c.args in
    let at = c.place-at in
    let again : place a.number a.words.now at.result ≡ at.result = rw at.ensures.place (place_again a.number a.words.now a.used) in
    let up : Opened a.number a.used a.words.now at.result c.copy_within.new.self = record {
      within = at.ensures.bound;
      placed = sym at.ensures.place ∙ sym again;
      long = c.copy_within.ensures.len;
      are = c.copy_within.ensures.after ∙ moved_up a.used a.words.now at.result at.ensures.bound c.requires;
    } in
    c.put_row.ensures ∙ opened_end a.number a.used a.words.now at.result c.copy_within.new.self c.requires up again
