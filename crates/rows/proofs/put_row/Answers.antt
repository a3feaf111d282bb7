-- A row put over seven words is a run of stores. Assumes nothing.
use Rattle.std.proofs.Common.{◌≡◌, ◌+◌, ◌-◌, ◌*◌, arith, length, rules}
use Rattle.std.proofs.lemmas.List.{append_assoc, drop-drop}
use Rattle.std.proofs.lemmas.List.Edits.{sets-eq}
use Rattle.rows.specs.Rows.{row_words}
use Rattle.rows.proofs.put_row.Goals as goal

pub returns : goal.returns
returns c =
    let a = c.args in
    let long : length a.words ≡ row_words = search rules in
    let end : row_words * a.i + row_words - row_words * a.i ≡ row_words = omega arith in
    rw (sets-eq a.words a.table.now (row_words * a.i) (omega arith), c.copy_from_slice.ensures.after, drop-drop, long, append_assoc, end)
