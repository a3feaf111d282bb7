-- `frames::element_end` meets its contract: a message passes each of its tests. Assumes nothing.
use Rattle.std.proofs.Common.{arith}
use Rattle.frames.proofs.Messages.{end_few, end_other, end_beyond, end_found}
use Rattle.frames.proofs.element_end.Goals as goal

pub returns-then-message-lt-HEADER : goal.returns-then-message-lt-HEADER
returns-then-message-lt-HEADER c = end_few _ _ (omega arith)

pub returns-then-message-kind : goal.returns-then-message-kind
returns-then-message-kind c = end_other _ _ c.if-message-kind.true

pub returns-then-message-end : goal.returns-then-message-end
returns-then-message-end c = end_beyond _ _ (omega arith)

pub returns : goal.returns
returns c = end_found _ _ (omega arith) c.if-message-kind.false (omega arith)
