use Rattle.std.proofs.Common.{sym, ap, ◌∙◌}
use Rattle.rows.proofs.Kept.{few_sendings}
use Rattle.std.proofs.lemmas.Result.{err_from_is_err_and}
use Rattle.records.specs.Steps.{sent}
use Rattle.states.specs.Lent.{state_in}
use Rattle.visits.proofs.Placed.{sent_supervisor, sending_refused, sending_placed}
use Rattle.visits.proofs.send_at.Goals as goal

pub send-requires : goal.send-requires
send-requires c = few_sendings _ c.load-held.ensures.sound

pub returns-in_err-launched-clause-answer : goal.returns-in_err-launched-clause-answer
returns-in_err-launched-clause-answer c =
    let a = c.args in
    let (y, e, q) = err_from_is_err_and c.from_residual.result c.from_residual.ensures.1 in
    rw (e, q)
    (sending_refused (state_in a.lent.now) a.row _ a.number _ _ c.requires.figures_value.0 c.requires.figures_value.1 (ap (sent a.delay a.clock) (sym c.load-held.ensures.record) ∙ sym c.in_err-launched.ensures))

pub write_notice-octets-requires-clause-number_value : goal.write_notice-octets-requires-clause-number_value
write_notice-octets-requires-clause-number_value c =
    let a = c.args in
    (c.requires.number_value.0, sent_supervisor a.delay a.clock c.load-held.result _ c.load-held.ensures.sound (sym c.in_ok-launched.ensures))

pub returns-clause-answer : goal.returns-clause-answer
returns-clause-answer c =
    let a = c.args in
    sending_placed (state_in a.lent.now) a.row a.buffer.now a.number _ _ c.load-held.result _ _ _
    (ap (sent a.delay a.clock) (sym c.load-held.ensures.record) ∙ sym c.in_ok-launched.ensures)
    c.load-held.ensures.record c.store.ensures.stored c.write_notice-octets.ensures
