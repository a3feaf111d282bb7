-- `of_register` meets its contract: the string of a request has its place in the message. Assumes nothing.
use mathlib.Core.Path.{◌∙◌}
use Rattle.frames.proofs.Inside.{version_within, count_within}
use Rattle.structs_read.proofs.Messages.{register_asks}
use Rattle.structs_read.proofs.of_register.Goals as goal

pub overflow_sub-start : goal.overflow_sub-start
overflow_sub-start c = version_within c.args.message.now c.requires c.in-Ok.register c.in-Ok.is c.in-Ok-body.asked c.in-Ok-body.is

pub overflow_sub-start-in-Ok-body : goal.overflow_sub-start-in-Ok-body
overflow_sub-start-in-Ok-body c = count_within c.args.message.now c.requires c.in-Ok.register c.in-Ok.is c.in-Ok-body.asked c.in-Ok-body.is

pub returns-in-Ok-body : goal.returns-in-Ok-body
returns-in-Ok-body c = c.string_at.ensures ∙ register_asks c.args.message.now c.requires c.in-Ok.register c.in-Ok.is c.in-Ok-body.asked c.in-Ok-body.is
