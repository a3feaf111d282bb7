-- `framers::put_argument` meets its contract. Assumes nothing.
use Rattle.answers.proofs.Parts.{stands_behind}
use Rattle.framers.proofs.Heads.{argument_is}
use Rattle.framers.proofs.put_argument.Goals as goal

pub returns : goal.returns
returns c = rw (argument_is c.args.string.now c.requires.0) (stands_behind c.put-at.ensures c.put.ensures)
