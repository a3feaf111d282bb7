use Rattle.rules.specs.Answers.{made}
use Rattle.rules.specs.Terminal.{terminal_erasure}
use Rattle.states.specs.Lent.{state_in}
use Rattle.visits.specs.Said.{said_reply}
use Rattle.std.proofs.Common.{rules, ◌≡◌, ◌&&◌, sym, ◌∙◌}
use Rattle.std.proofs.lemmas.Result.{err_from_is_err_and}
use Rattle.states.specs.States.{beside}
use Rattle.states.proofs.States.{check_passes}
use Rattle.rules.specs.Terminal.{both_numbers}
use Rattle.node.proofs.Checks.{terminal_1, terminal_state, terminal_7, terminal_asks}
use Rattle.node.proofs.terminal_erasure.Goals as goal

pub returns-then-reply-lt-BUFFER_ROOM : goal.returns-then-reply-lt-BUFFER_ROOM
returns-then-reply-lt-BUFFER_ROOM c =
    let a = c.args in
    sym (terminal_1 (beside a.table.now a.figures.now) a.reply.now a.number a.holder c.if-reply-lt-BUFFER_ROOM.true)

pub returns-in_err-check : goal.returns-in_err-check
returns-in_err-check c =
    let a = c.args in
    let (y, e, q) = err_from_is_err_and c.from_residual.result c.from_residual.ensures.1 in
    rw (e, q) (terminal_state (beside a.table.now a.figures.now) a.reply.now a.number a.holder c.if-reply-lt-BUFFER_ROOM.false c.check.result _ c.check.ensures c.in_err-check.was)

pub returns-then-not-is_number : goal.returns-then-not-is_number
returns-then-not-is_number c =
    let a = c.args in
    let said : both_numbers a.number a.holder ≡ (c.is_number.result && c.is_number-2.result) = rw (c.is_number.ensures, c.is_number-2.ensures) in
    sym (terminal_7 (beside a.table.now a.figures.now) a.reply.now a.number a.holder c.if-reply-lt-BUFFER_ROOM.false (check_passes (beside a.table.now a.figures.now) c.check.result c.check.ensures c.in_ok-check.was) (said ∙ c.if-not-is_number.true))

pub returns : goal.returns
returns c =
    let a = c.args in
    let said : both_numbers a.number a.holder ≡ (c.is_number.result && c.is_number-2.result) = rw (c.is_number.ensures, c.is_number-2.ensures) in
    let e : made (said_reply c.ask_single.result) (state_in c.ask_single.new.lent) c.ask_single.new.reply ≡ terminal_erasure (beside a.table.now a.figures.now) a.reply.now a.number a.holder =
    c.ask_single.ensures.answer ∙ sym (terminal_asks (beside a.table.now a.figures.now) a.reply.now a.number a.holder c.if-reply-lt-BUFFER_ROOM.false (check_passes (beside a.table.now a.figures.now) c.check.result c.check.ensures c.in_ok-check.was) (said ∙ c.if-not-is_number.false)) in
    search (rules, e)
