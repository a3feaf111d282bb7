-- `framers::write_register` meets its contract: the checks, the string by the request's writer, and the Register around it. Assumes nothing.
use Rattle.std.proofs.Common.{length, arith}
use mathlib.Core.Path.{sym, ap}
use Rattle.std.proofs.lemmas.Result.{err_from_is_err_and}
use lib.Seq.{length-take-le}
use Rattle.packing.proofs.Laws.{length_packed}
use Rattle.strings.specs.Text.{request_from, text_of}
use Rattle.strings.proofs.Text.{octets_short}
use Rattle.strings.proofs.Answered.{string_counted}
use Rattle.framers.proofs.Registers.{register_short, register_identifier, register_refused, register_written}
use Rattle.framers.proofs.write_register.Goals as goal

pub returns-then-frame-lt-FRAME_ROOM : goal.returns-then-frame-lt-FRAME_ROOM
returns-then-frame-lt-FRAME_ROOM c = register_short _ _ _ _ c.if-frame-lt-FRAME_ROOM.true

pub returns-then-transaction-gt-MOST_TRANSACTION : goal.returns-then-transaction-gt-MOST_TRANSACTION
returns-then-transaction-gt-MOST_TRANSACTION c =
    register_identifier _ _ (request_from c.args.operation c.args.number c.args.erasing c.args.additional.now) c.args.frame.now
    c.if-frame-lt-FRAME_ROOM.false c.if-transaction-gt-MOST_TRANSACTION.true

pub returns-in_err-n : goal.returns-in_err-n
returns-in_err-n c =
    let f = request_from c.args.operation c.args.number c.args.erasing c.args.additional.now in
    let p = err_from_is_err_and c.from_residual.result c.from_residual.ensures.1 in
    rw (p.1, p.2) (register_refused _ _ f c.args.frame.now c.if-frame-lt-FRAME_ROOM.false c.in_err-n.field-0.0 _ _ (omega arith) c.in_err-n.ensures)

pub slice_bounds-string-end : goal.slice_bounds-string-end
slice_bounds-string-end c =
    let f = request_from c.args.operation c.args.number c.args.erasing c.args.additional.now in
    (string_counted f _ _ _ c.write_request.ensures _ c.in_ok-n.was).within

pub slice_bounds-put_register-end : goal.slice_bounds-put_register-end
slice_bounds-put_register-end c =
    let f = request_from c.args.operation c.args.number c.args.erasing c.args.additional.now in
    sym (length-take-le _ _ (string_counted f _ _ _ c.write_request.ensures _ c.in_ok-n.was).within)

pub put_register-requires : goal.put_register-requires
put_register-requires c =
    let f = request_from c.args.operation c.args.number c.args.erasing c.args.additional.now in
    let k = string_counted f _ _ _ c.write_request.ensures _ c.in_ok-n.was in
    (omega (arith, ap length k.start, length_packed (text_of f), octets_short f k.sound), c.if-frame-lt-FRAME_ROOM.false)

pub returns : goal.returns
returns c =
    let f = request_from c.args.operation c.args.number c.args.erasing c.args.additional.now in
    let k = string_counted f _ _ _ c.write_request.ensures _ c.in_ok-n.was in
    register_written _ _ f c.args.frame.now c.if-frame-lt-FRAME_ROOM.false c.if-transaction-gt-MOST_TRANSACTION.false k.sound _ _
    (rw (← k.start) c.put_register.ensures)
