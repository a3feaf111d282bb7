use Rattle.std.proofs.Common.{arith, sym, ◌∙◌, length}
use Rattle.answers.proofs.Writing.{wrote_count}
use Rattle.packing.specs.Packing.{unpacked}
use Rattle.packing.proofs.Laws.{chars_count, kept_le, length_unpacked}
use Rattle.packing.proofs.Outcomes.{unpacking_short, unpacking_unfit, unpacking_good}
use Rattle.packing.proofs.unpack.Goals as goal

pub returns-then-out-room : goal.returns-then-out-room
returns-then-out-room c = sym (unpacking_short c.args.octets.now _ (rw chars_count c.if-out-room.true))

pub returns-then-not-is_readable : goal.returns-then-not-is_readable
returns-then-not-is_readable c = sym (unpacking_unfit _ _ (rw chars_count c.if-out-room.false) (sym c.is_readable.ensures ∙ c.if-not-is_readable.true))

pub write_chars-requires-clause-n_in_bounds : goal.write_chars-requires-clause-n_in_bounds
write_chars-requires-clause-n_in_bounds c =
    let os = c.args.octets.now in
    omega (arith, c.kept_count-n.ensures, kept_le os, chars_count (length os))

pub returns : goal.returns
returns c =
    let a = c.args in
    wrote_count (unpacked a.octets.now) a.out.now c.write_chars.new.out _ (length_unpacked a.octets.now ∙ sym c.kept_count-n.ensures) c.write_chars.ensures
    ∙ sym (unpacking_good a.octets.now a.out.now (rw chars_count c.if-out-room.false) (sym c.is_readable.ensures ∙ c.if-not-is_readable.false))
