-- `frames::read_release` meets its contract: the element ends the message, and is read as a component. Assumes nothing.
use Rattle.frames.proofs.Messages.{end_none, end_some, release_none, release_more, release_unreadable, release_read}
use Rattle.frames.proofs.read_release.Goals as goal

pub returns-in_default : goal.returns-in_default
returns-in_default c = release_none _ (end_none _ _ c.element_end.ensures c.in_default.is)

pub returns-then-end-message : goal.returns-then-end-message
returns-then-end-message c = release_more _ _ (end_some _ _ c.element_end.ensures c.in-Some.is) c.if-end-message.true

pub returns-in_default-read_answer : goal.returns-in_default-read_answer
returns-in_default-read_answer c =
    release_unreadable _ (rw c.if-end-message.false at (end_some _ _ c.element_end.ensures c.in-Some.is)) c.in_default-read_answer.ensures

pub returns : goal.returns
returns c =
    release_read _ (rw c.if-end-message.false at (end_some _ _ c.element_end.ensures c.in-Some.is)) _ c.in-Some-read_answer.ensures
