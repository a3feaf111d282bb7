-- `exchange::framed_request` meets its contract: each check, and then the Reject or the request inside. Assumes nothing.
use mathlib.Core.Path.{◌≡◌, sym, ap, ◌∙◌}
use mathlib.Core.List.{List}
use Prim.Native.Nat.{ℕ, ◌-◌}
use lib.ListN.{length, take}
use Rattle.std.specs.Prelude.{Result}
use Rattle.std.proofs.lemmas.Result.{err_from_is_err_and}
use Rattle.frames.specs.declared.Asked.{Asked}
use Rattle.frames.specs.declared.Problem.{Problem}
use Rattle.frames.specs.Messages.{version}
use Rattle.frames.specs.Read.{told_body}
use Rattle.states.specs.States.{beside}
use Rattle.states.proofs.States.{check_passes}
use Rattle.rules.specs.Crews.{requesting}
use Rattle.rules.specs.Answers.{made}
use Rattle.rules.specs.Frames.{in_frame, own_reply, framed_request}
use Rattle.exchange.specs.Said.{said_framed}
use Rattle.states.specs.Lent.{state_in}
use Rattle.std.proofs.Common.{rules}
use Rattle.frames.proofs.Inside.{version_within, count_within}
use Rattle.exchange.proofs.InFrame.{was_numbered, string_place, refused_1, refused_11, refused_8, refused_state, rejected, asked}
use Rattle.exchange.proofs.framed_request.Goals as goal

pub returns-then-frame-lt-FRAME_ROOM : goal.returns-then-frame-lt-FRAME_ROOM
returns-then-frame-lt-FRAME_ROOM c =
    refused_1 (beside c.args.table.now c.args.figures.now) c.args.list.now c.args.frame.now c.args.requester c.args.message.now c.if-frame-lt-FRAME_ROOM.true

pub returns-in_err-first : goal.returns-in_err-first
returns-in_err-first c =
    let p = err_from_is_err_and c.from_residual.result c.from_residual.ensures.1 in
    rw (p.1, p.2)
    (refused_11 (beside c.args.table.now c.args.figures.now) c.args.list.now c.args.frame.now c.args.requester c.args.message.now c.if-frame-lt-FRAME_ROOM.false
    c.in_err-first.field-0.0 c.read_register.ensures c.in_err-first.was)

pub returns-then-not-list_sound : goal.returns-then-not-list_sound
returns-then-not-list_sound c =
    refused_8 (beside c.args.table.now c.args.figures.now) c.args.list.now c.args.frame.now c.args.requester c.args.message.now c.if-frame-lt-FRAME_ROOM.false
    _ (was_numbered c.args.message.now c.read_register.ensures c.in_ok-first.field-0 c.in_ok-first.was) (sym c.if-not-list_sound.ensures)

pub returns-in_err-check : goal.returns-in_err-check
returns-in_err-check c =
    let p = err_from_is_err_and c.from_residual-in_err-check.result c.from_residual-in_err-check.ensures.1 in
    rw (p.1, p.2)
    (refused_state (beside c.args.table.now c.args.figures.now) c.args.list.now c.args.frame.now c.args.requester c.args.message.now c.if-frame-lt-FRAME_ROOM.false
    _ (was_numbered c.args.message.now c.read_register.ensures c.in_ok-first.field-0 c.in_ok-first.was) (sym c.if-not-list_sound.ensures)
    c.in_err-check.field-0.0 c.check.ensures c.in_err-check.was)

pub overflow_sub-end : goal.overflow_sub-end
overflow_sub-end c = version_within c.args.message.now c.read_register.ensures c.in_ok-first.field-0 c.in_ok-first.was c.in-Ok.asked c.in-Ok.is

pub overflow_sub-string : goal.overflow_sub-string
overflow_sub-string c = count_within c.args.message.now c.read_register.ensures c.in_ok-first.field-0 c.in_ok-first.was c.in-Ok.asked c.in-Ok.is

pub returns-in-Err : goal.returns-in-Err
returns-in-Err c =
    let m = c.args.message.now in
    rejected (beside c.args.table.now c.args.figures.now) c.args.list.now c.args.frame.now c.args.requester m c.if-frame-lt-FRAME_ROOM.false
    _ (was_numbered m c.read_register.ensures c.in_ok-first.field-0 c.in_ok-first.was) (sym c.if-not-list_sound.ensures)
    (check_passes _ _ c.check.ensures c.in_ok-check.was) _ _ _
    (ap (λ (x : Result Asked Problem). told_body x (take (length m - length version) m)) c.in-Err.is)
    (rw c.from.ensures at c.write_fault-count.ensures)

pub returns-in-Ok : goal.returns-in-Ok
returns-in-Ok c =
    let m = c.args.message.now in
    let v = c.in_ok-first.field-0 in
    let place = string_place m c.read_register.ensures v c.in_ok-first.was c.in-Ok.asked c.in-Ok.is in
    let e : made (said_framed c.ask_inside.result) (state_in c.ask_inside.new.lent) c.ask_inside.new.frame ≡ framed_request (beside c.args.table.now c.args.figures.now) c.args.list.now c.args.frame.now c.args.requester m =
    c.ask_inside.ensures.answer
    ∙ ap (λ (x : List ℕ). in_frame v.first v.number c.args.frame.now (requesting (beside c.args.table.now c.args.figures.now) c.args.list.now own_reply c.args.requester c.in-Ok.asked.scheme x)) place
    ∙ asked (beside c.args.table.now c.args.figures.now) c.args.list.now c.args.frame.now c.args.requester m c.if-frame-lt-FRAME_ROOM.false
    _ (was_numbered m c.read_register.ensures v c.in_ok-first.was) (sym c.if-not-list_sound.ensures)
    (check_passes _ _ c.check.ensures c.in_ok-check.was) c.in-Ok.asked.scheme _
    (ap (λ (x : Result Asked Problem). told_body x (take (length m - length version) m)) c.in-Ok.is) in
    search (rules, e)
