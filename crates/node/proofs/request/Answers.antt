use Rattle.std.proofs.Common.{sym, ◌∙◌}
use Rattle.std.proofs.lemmas.Result.{err_from_is_err_and}
use Rattle.states.specs.States.{beside}
use Rattle.node.proofs.Checks.{refused_1, refused_8, refused_state}
use Rattle.node.proofs.request.Goals as goal

pub returns-then-reply-lt-BUFFER_ROOM : goal.returns-then-reply-lt-BUFFER_ROOM
returns-then-reply-lt-BUFFER_ROOM c =
    let a = c.args in
    sym (refused_1 (beside a.table.now a.figures.now) a.list.now a.reply.now a.requester _ a.string.now c.if-reply-lt-BUFFER_ROOM.true)

pub returns-then-not-list_sound : goal.returns-then-not-list_sound
returns-then-not-list_sound c =
    let a = c.args in
    sym (refused_8 (beside a.table.now a.figures.now) a.list.now a.reply.now a.requester _ a.string.now c.if-reply-lt-BUFFER_ROOM.false (sym c.list_sound.ensures ∙ c.if-not-list_sound.true))

pub returns-in_err-check : goal.returns-in_err-check
returns-in_err-check c =
    let a = c.args in
    let (y, e, q) = err_from_is_err_and c.from_residual.result c.from_residual.ensures.1 in
    rw (e, q) (refused_state (beside a.table.now a.figures.now) a.list.now a.reply.now a.requester _ a.string.now c.if-reply-lt-BUFFER_ROOM.false (sym c.list_sound.ensures ∙ c.if-not-list_sound.false) c.check.result _ c.check.ensures c.in_err-check.was)
