-- `of_release` meets its contract: the string of a result ends the message. Assumes nothing.
use mathlib.Core.Path.{◌∙◌}
use Rattle.frames.proofs.Inside.{result_within}
use Rattle.structs_read.proofs.Messages.{release_result}
use Rattle.structs_read.proofs.of_release.Goals as goal

pub overflow_sub-message : goal.overflow_sub-message
overflow_sub-message c = result_within c.args.message.now c.requires c.in-Ok.field-0 c.in-Ok.is _ _ c.in-Result.is

pub returns-in-Result : goal.returns-in-Result
returns-in-Result c = c.string_at.ensures ∙ release_result c.args.message.now c.requires c.in-Ok.field-0 c.in-Ok.is _ _ c.in-Result.is
