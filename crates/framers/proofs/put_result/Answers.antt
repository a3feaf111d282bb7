-- `framers::put_result` meets its contract. Assumes nothing.
use Rattle.answers.proofs.Parts.{stands_behind}
use Rattle.framers.proofs.Heads.{result_is}
use Rattle.framers.proofs.put_result.Goals as goal

pub returns : goal.returns
returns c = rw (result_is c.args.string.now c.requires.0 c.args.number) (stands_behind c.put-at.ensures c.put_argument.ensures)
