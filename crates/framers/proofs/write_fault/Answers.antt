-- `framers::write_fault` meets its contract: the header, and the component behind it. Assumes nothing.
use Rattle.answers.proofs.Parts.{stands_behind}
use Rattle.frames.specs.Messages.{inverted}
use Rattle.framers.specs.Written.{told_fault}
use Rattle.framers.proofs.Heads.{release_is, fault_length}
use Rattle.framers.proofs.write_fault.Goals as goal

pub returns : goal.returns
returns c =
    rw (release_is (inverted c.args.first) 8 (told_fault c.args.number c.args.fault) (fault_length _ _))
    (stands_behind (rw c.invert.ensures at c.put_header-at.ensures) c.put_fault.ensures)
