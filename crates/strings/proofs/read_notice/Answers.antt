-- By the unpacker's answer. Assumes nothing.
use Rattle.std.proofs.Common.{sym, ap, ◌∙◌, length-take-le}
use Rattle.packing.proofs.Outcomes.{unpack_count}
use Rattle.strings.specs.Notices.{notice_string_at, notice_string_of, notice_read}
use Rattle.strings.proofs.Octets.{bits_good, uncounted}
use Rattle.strings.proofs.Notices.{notices}
use Rattle.strings.proofs.read_notice.Goals as goal

pub returns-in_default : goal.returns-in_default
unfolding notice_string_of
returns-in_default c = sym (ap notice_read (uncounted notices c.args.octets.now c.unpack.new.out c.unpack.result _ c.unpack.ensures c.in_default.is))

pub slice_bounds-text-end : goal.slice_bounds-text-end
slice_bounds-text-end c = (unpack_count c.args.octets.now _ c.unpack.result c.unpack.new.out c.unpack.ensures c.in-Ok.n c.in-Ok.is).within

pub slice_bounds-read_notice_fields-end : goal.slice_bounds-read_notice_fields-end
slice_bounds-read_notice_fields-end c = sym (length-take-le _ _ (unpack_count c.args.octets.now _ c.unpack.result c.unpack.new.out c.unpack.ensures c.in-Ok.n c.in-Ok.is).within)

pub returns : goal.returns
unfolding notice_string_of
returns c =
    let k = unpack_count c.args.octets.now _ c.unpack.result c.unpack.new.out c.unpack.ensures c.in-Ok.n c.in-Ok.is in
    rw k.start at c.read_notice_fields.ensures ∙ sym (ap notice_read (bits_good notice_string_at c.args.octets.now k.sound))
