-- `framers::put_invoke` meets its contract. Assumes nothing.
use Rattle.std.proofs.Common.{arith}
use Rattle.answers.proofs.Parts.{stands_behind}
use Rattle.framers.proofs.Heads.{invoke_is}
use Rattle.framers.proofs.put_invoke.Goals as goal

pub returns : goal.returns
returns c =
    rw (invoke_is c.args.string.now (omega (arith, c.requires.0)) c.args.number) (stands_behind c.put-at.ensures c.put_argument.ensures)
