-- Assumes nothing.
use Rattle.packing.specs.Packing.{unpacked}
use Rattle.answers.proofs.Parts.{counted_stands}
use Rattle.replies.proofs.Writing.{text_unpacked}
use Rattle.replies.proofs.put_text.Goals as goal

pub unwrap-requires : goal.unwrap-requires
unwrap-requires c = rw (text_unpacked c.args.octets.now c.args.out.now c.unpack.new.out c.unpack.result c.requires.0 c.requires.1 c.unpack.ensures).0

pub returns : goal.returns
returns c = counted_stands (unpacked c.args.octets.now) c.args.out.now (text_unpacked c.args.octets.now c.args.out.now c.unpack.new.out c.unpack.result c.requires.0 c.requires.1 c.unpack.ensures) c.unwrap.ensures
