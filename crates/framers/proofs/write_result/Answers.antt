-- `framers::write_result` meets its contract: the header, and the component behind it. Assumes nothing.
use Rattle.std.proofs.Common.{◌+◌, length, arith}
use Rattle.answers.proofs.Parts.{stands_behind}
use Rattle.frames.specs.Messages.{inverted}
use Rattle.frames.specs.Components.{result}
use Rattle.frames.proofs.Lengths.{result_length}
use Rattle.framers.proofs.Heads.{release_is}
use Rattle.framers.proofs.write_result.Goals as goal

pub returns : goal.returns
returns c =
    let x = c.args.string.now in
    let l = result_length c.args.number x c.requires.0 in
    rw (release_is (inverted c.args.first) (length x + 17) (result c.args.number x) (omega arith))
    (stands_behind (rw c.invert.ensures at c.put_header-at.ensures) c.put_result.ensures)
