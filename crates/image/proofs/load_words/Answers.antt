use Rattle.std.proofs.Common.{refl, arith}
use Rattle.image.proofs.Words.{loaded_more, loaded_done}
use Rattle.image.proofs.load_words.Goals as goal

pub loop-i-init : goal.loop-i-init
loop-i-init c = refl

pub loop-i-preserved : goal.loop-i-preserved
loop-i-preserved c =
    loaded_more c.args.octets.now c.args.start c.args.words.now c.loop-i.words c.loop-i.i c.load.result c.loop-i-test.true c.load.ensures.0 c.loop-i.invariant

pub returns : goal.returns
returns c = loaded_done c.args.octets.now c.args.start c.args.words.now c.loop-i.words c.loop-i.i (omega arith) c.loop-i-test.false c.loop-i.invariant
