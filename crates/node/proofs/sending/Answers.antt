use Rattle.std.proofs.Common.{rules, ◌≡◌, sym, ◌∙◌}
use Rattle.rules.specs.Answers.{made}
use Rattle.rules.specs.Notices.{sending_notice}
use Rattle.states.specs.Lent.{state_in}
use Rattle.visits.specs.Said.{said_sending}
use Rattle.std.proofs.lemmas.Result.{err_from_is_err_and}
use Rattle.tables.proofs.Stored.{row_found}
use Rattle.states.specs.States.{beside}
use Rattle.states.proofs.States.{check_passes}
use Rattle.rules.proofs.Visits.{sending_visits, sending_misses}
use Rattle.node.proofs.Checks.{sending_1, sending_state, sending_7, passed_visit, passed_miss}
use Rattle.node.proofs.sending.Goals as goal

pub returns-then-buffer-lt-BUFFER_ROOM : goal.returns-then-buffer-lt-BUFFER_ROOM
returns-then-buffer-lt-BUFFER_ROOM c =
    let a = c.args in
    sym (sending_1 (beside a.table.now a.figures.now) a.buffer.now a.number _ _ c.if-buffer-lt-BUFFER_ROOM.true)

pub returns-in_err-check : goal.returns-in_err-check
returns-in_err-check c =
    let a = c.args in
    let (y, e, q) = err_from_is_err_and c.from_residual.result c.from_residual.ensures.1 in
    rw (e, q) (sending_state (beside a.table.now a.figures.now) a.buffer.now a.number a.delay a.clock c.if-buffer-lt-BUFFER_ROOM.false c.check.result _ c.check.ensures c.in_err-check.was)

pub returns-then-not-is_number : goal.returns-then-not-is_number
returns-then-not-is_number c =
    let a = c.args in
    sym (sending_7 (beside a.table.now a.figures.now) a.buffer.now a.number _ _ c.if-buffer-lt-BUFFER_ROOM.false (check_passes (beside a.table.now a.figures.now) c.check.result c.check.ensures c.in_ok-check.was) (sym c.is_number.ensures ∙ c.if-not-is_number.true))

pub returns-in_default : goal.returns-in_default
returns-in_default c =
    let a = c.args in
    sym (sending_misses (beside a.table.now a.figures.now) a.buffer.now a.number _ _ (check_passes (beside a.table.now a.figures.now) c.check.result c.check.ensures c.in_ok-check.was) (sym c.row_of.ensures ∙ c.in_default.is) ∙ passed_miss (beside a.table.now a.figures.now) a.buffer.now c.if-buffer-lt-BUFFER_ROOM.false)

pub send_at-requires-clause-figures_value : goal.send_at-requires-clause-figures_value
send_at-requires-clause-figures_value c =
    let a = c.args in
    ((check_passes (beside a.table.now a.figures.now) c.check.result c.check.ensures c.in_ok-check.was), (row_found _ _ _ (sym c.row_of.ensures ∙ c.in-Some.is)).0)

pub returns : goal.returns
returns c =
    let a = c.args in
    let e : made (said_sending c.send_at.result) (state_in c.send_at.new.lent) c.send_at.new.buffer ≡ sending_notice (beside a.table.now a.figures.now) a.buffer.now a.number a.delay a.clock =
    c.send_at.ensures.answer
    ∙ sym (sending_visits (beside a.table.now a.figures.now) a.buffer.now a.number _ _ (check_passes (beside a.table.now a.figures.now) c.check.result c.check.ensures c.in_ok-check.was) _ (sym c.row_of.ensures ∙ c.in-Some.is) ∙ passed_visit (beside a.table.now a.figures.now) _ a.buffer.now a.number _ _ c.if-buffer-lt-BUFFER_ROOM.false) in
    search (rules, e)
