use Rattle.std.proofs.lemmas.Result.{err_from_is_err_and}
use Rattle.image.proofs.Reading.{reading_refused}
use Rattle.image.proofs.read_image.Goals as goal

pub returns-in_err-counted : goal.returns-in_err-counted
returns-in_err-counted c =
    let a = c.args in
    let (y, e, q) = err_from_is_err_and c.from_residual.result c.from_residual.ensures.1 in
    rw (e, q) (reading_refused a.image.now a.table.now a.list.now a.figures.now _ c.in_err-counted.ensures)
