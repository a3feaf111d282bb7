use Rattle.std.proofs.Common.{sym, ◌∙◌}
use Rattle.std.proofs.lemmas.Result.{err_from_is_err_and}
use Rattle.tables.proofs.Counts.{said_unsound, said_counted}
use Rattle.image.proofs.Reading.{unsound_table, unsound_list, sound_contents}
use Rattle.image.proofs.put_contents.Goals as goal

pub returns-in_err-counted : goal.returns-in_err-counted
returns-in_err-counted c =
    let a = c.args in
    let (y, e, q) = err_from_is_err_and c.from_residual.result c.from_residual.ensures.1 in
    rw (e, q, c.in_err-counted.ensures.refusal) (unsound_table a.rows.now a.subscribers.now a.table.now a.list.now a.figures.now (said_unsound _ _ c.recount.ensures.figures _ c.in_err-counted.was))

pub returns-then-not-list_sound : goal.returns-then-not-list_sound
returns-then-not-list_sound c =
    let a = c.args in
    let counts = said_counted _ _ c.recount.ensures.figures _ (c.in_ok-counted.was) in
    unsound_list a.rows.now a.subscribers.now a.table.now a.list.now a.figures.now counts.0
    (sym c.list_sound.ensures ∙ c.if-not-list_sound.true)

pub returns : goal.returns
returns c =
    let a = c.args in
    let counts = said_counted _ _ c.recount.ensures.figures _ (c.in_ok-counted.was) in
    sound_contents a.rows.now a.subscribers.now a.table.now a.list.now a.figures.now counts.0 (sym c.list_sound.ensures ∙ c.if-not-list_sound.false) _ _ _ _ counts.1
    (rw c.copy_from_slice.ensures.after) (rw c.copy_from_slice-2.ensures.after) (rw (c.copy_from_slice-3.ensures.after, c.from-words.ensures))
