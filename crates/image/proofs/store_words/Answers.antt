use Rattle.std.proofs.Common.{arith, ◌≡◌, ◌*◌, length}
use Rattle.image.specs.Images.{word_octets}
use Rattle.image.proofs.Words.{stored_none, stored_more, stored_done}
use Rattle.image.proofs.store_words.Goals as goal

pub loop-i-init : goal.loop-i-init
loop-i-init c = stored_none c.args.words.now c.args.out.now

pub loop-i-preserved : goal.loop-i-preserved
loop-i-preserved c =
    stored_more c.args.words.now c.args.out.now c.loop-i.out c.store.new.out c.loop-i.i c.loop-i-test.true c.requires c.loop-i.auto.out c.loop-i.invariant c.store.ensures

pub returns : goal.returns
returns c =
    let all : c.loop-i.i ≡ length c.args.words.now = omega arith in
    stored_done c.args.words.now c.args.out.now c.loop-i.out c.loop-i.i (word_octets * length c.args.words.now) (omega arith) (omega arith) (rw (← all) c.loop-i.invariant)
