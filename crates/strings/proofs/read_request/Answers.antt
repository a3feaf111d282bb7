-- By the unpacker's answer. Assumes nothing.
use Rattle.std.proofs.Common.{sym, ap, drop, replicate, length-take-le}
use Rattle.answers.specs.Writing.{WriteOutcome}
use Rattle.packing.proofs.Outcomes.{unpack_count}
use Rattle.strings.specs.Text.{most_characters}
use Rattle.strings.specs.Outcomes.{request_of, text_beside}
use Rattle.strings.proofs.Octets.{requests, uncounted}
use Rattle.strings.proofs.Answered.{unread, read}
use Rattle.strings.proofs.read_request.Goals as goal

pub returns-in_default : goal.returns-in_default
unfolding request_of text_beside
returns-in_default c =
    unread c.args.octets.now c.unpack.new.out (uncounted requests c.args.octets.now c.unpack.new.out c.unpack.result _ c.unpack.ensures c.in_default.is) (ap (λ (x : WriteOutcome). x.buffer) c.unpack.ensures)

pub slice_bounds-text-end : goal.slice_bounds-text-end
slice_bounds-text-end c = (unpack_count c.args.octets.now _ c.unpack.result c.unpack.new.out c.unpack.ensures c.in-Ok.n c.in-Ok.is).within

pub slice_bounds-read_fields-end : goal.slice_bounds-read_fields-end
slice_bounds-read_fields-end c = sym (length-take-le _ _ (unpack_count c.args.octets.now _ c.unpack.result c.unpack.new.out c.unpack.ensures c.in-Ok.n c.in-Ok.is).within)

pub returns : goal.returns
unfolding text_beside
returns c =
    let k = unpack_count c.args.octets.now _ c.unpack.result c.unpack.new.out c.unpack.ensures c.in-Ok.n c.in-Ok.is in
    read c.args.octets.now c.unpack.new.out (drop c.in-Ok.n (replicate most_characters 0)) c.read_fields-reading.result k.sound
    (rw k.start at c.read_fields-reading.ensures) k.buffer (ap (λ (x : WriteOutcome). x.buffer) c.unpack.ensures)
