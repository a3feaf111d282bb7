-- Fields that can be written and room leave the packer nothing to refuse. Assumes nothing.
use Rattle.std.proofs.Common.{◌≡◌, take, arith}
use Rattle.answers.proofs.Parts.{stands_front}
use Rattle.packing.proofs.Outcomes.{pack_good, pack_count}
use Rattle.strings.specs.Text.{request_from, text_of}
use Rattle.strings.proofs.Text.{text_taken, writable_octets}
use Rattle.writers.proofs.Request.write_packed.Goals as goal

pub unwrap-requires : goal.unwrap-requires
unwrap-requires c =
    let f = (request_from c.args.self.operation c.args.self.number c.args.self.erasing c.args.self.additional.now) in
    let short = writable_octets f c.requires.writable in
    let front = take c.write_text-n.result c.write_text-n.new.text in
    let whole : front ≡ text_of f = stands_front c.write_text-n.ensures in
    rw (pack_good front c.args.out.now c.pack.result c.pack.new.out c.pack.ensures (rw whole (omega arith)) (rw whole (text_taken f c.requires.writable))).0

pub returns : goal.returns
returns c =
    let front = take c.write_text-n.result c.write_text-n.new.text in
    let whole : front ≡ text_of (request_from c.args.self.operation c.args.self.number c.args.self.erasing c.args.self.additional.now) = stands_front c.write_text-n.ensures in
    let k = pack_count front c.args.out.now c.pack.result c.pack.new.out c.pack.ensures c.unwrap.result c.unwrap.ensures in
    rw (← whole) (record { count = k.count; buffer = k.buffer })
