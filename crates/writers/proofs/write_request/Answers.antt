-- The room is tested first, and then the fields. Assumes nothing.
use Rattle.std.proofs.Common.{sym, ◌∙◌, arith}
use Rattle.strings.specs.Text.{request_from}
use Rattle.strings.proofs.Text.{sound_writable}
use Rattle.strings.proofs.Answered.{short, unsound, written}
use Rattle.writers.proofs.write_request.Goals as goal

pub returns-then-out-lt-WRITER_ROOM : goal.returns-then-out-lt-WRITER_ROOM
returns-then-out-lt-WRITER_ROOM c = short (request_from c.args.operation c.args.number c.args.erasing c.args.additional.now) c.args.out.now (omega arith)

pub returns-then-not-is_sound : goal.returns-then-not-is_sound
returns-then-not-is_sound c = unsound (request_from c.args.operation c.args.number c.args.erasing c.args.additional.now) c.args.out.now (omega arith) (sym c.is_sound.ensures ∙ c.if-not-is_sound.true)

pub write_packed-requires-clause-writable : goal.write_packed-requires-clause-writable
write_packed-requires-clause-writable c = sound_writable _ (sym c.is_sound.ensures ∙ c.if-not-is_sound.false)

pub returns : goal.returns
returns c = written (request_from c.args.operation c.args.number c.args.erasing c.args.additional.now) c.args.out.now (omega arith) (sym c.is_sound.ensures ∙ c.if-not-is_sound.false) c.write_packed.ensures
