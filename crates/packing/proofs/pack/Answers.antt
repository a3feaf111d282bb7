use Rattle.std.proofs.Common.{sym, ◌∙◌, length}
use Rattle.answers.proofs.Writing.{wrote_count}
use Rattle.packing.specs.Packing.{packed}
use Rattle.packing.proofs.Laws.{octets_count, length_packed}
use Rattle.packing.proofs.Outcomes.{packing_short, packing_unfit, packing_good}
use Rattle.packing.proofs.pack.Goals as goal

pub returns-then-out-count : goal.returns-then-out-count
returns-then-out-count c = sym (packing_short c.args.chars.now _ (rw octets_count c.if-out-count.true))

pub returns-then-not-takes_all : goal.returns-then-not-takes_all
returns-then-not-takes_all c = sym (packing_unfit _ _ (rw octets_count c.if-out-count.false) (sym c.takes_all.ensures ∙ c.if-not-takes_all.true))

pub write_octets-requires-clause-chars_in_bounds :
    goal.write_octets-requires-clause-chars_in_bounds
write_octets-requires-clause-chars_in_bounds c = rw octets_count c.if-out-count.false

pub returns : goal.returns
returns c =
    let a = c.args in
    wrote_count (packed a.chars.now) a.out.now c.write_octets.new.out _ (length_packed a.chars.now ∙ octets_count (length a.chars.now)) (rw octets_count at c.write_octets.ensures)
    ∙ sym (packing_good a.chars.now a.out.now (rw octets_count c.if-out-count.false) (sym c.takes_all.ensures ∙ c.if-not-takes_all.false))
