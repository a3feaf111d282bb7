-- Assumes nothing.
use Rattle.std.proofs.Common.{◌≡◌, sym, ap, ◌∙◌, ⊎_elim, arith}
use Rattle.rows.specs.Rows.{row}
use Rattle.timetable.specs.Moving.{goes}
use Rattle.timetable.proofs.Using.{use_fits, use_sound}
use Rattle.timetable.proofs.Packing.{compacted_by_lem, Packed, packed_row, packed_out, packed_in, packed_end}
use Rattle.timetable.proofs.remove.Goals as goal

pub goes-requires : goal.goes-requires
goes-requires c =
    let l = c.loop-i in
    let t = c.args.words.now in
    let fits = use_fits t _ c.requires.0 in
    rw (c.row_at-r.ensures, packed_row goes t l.i l.words l.kept (omega arith) l.invariant (omega arith)) (use_sound t c.args.used c.requires.0 c.requires.1 l.i (omega arith))

pub loop-i-preserved : goal.loop-i-preserved
loop-i-preserved c =
    let l = c.loop-i in
    let t = c.args.words.now in
    let fits = use_fits t _ c.requires.0 in
    let at = packed_row goes t l.i l.words l.kept (omega arith) l.invariant (omega arith) in
    let r : c.row_at-r.result ≡ row t l.i = c.row_at-r.ensures ∙ at in
    let tested : c.goes.result ≡ goes (row t l.i) = c.goes.ensures ∙ ap goes r in
    ⊎_elim
    (λ w. rw (w.words-is, w.kept-is, w.put_row.ensures, r) (packed_in goes t l.i l.words l.kept (omega arith) l.invariant (omega arith) (sym tested ∙ w.if-not-goes.true)))
    (λ w. rw (w.words-is, w.kept-is) (packed_out goes t l.i l.words l.kept (omega arith) l.invariant (omega arith) (sym tested ∙ w.if-not-goes.false)))
    c.if-not-goes.branch-raw

pub returns : goal.returns
returns c =
    let t = c.args.words.now in
    let l = c.loop-i in
    let all : l.i ≡ c.args.used = omega arith in
    let p : Packed goes t c.args.used l.words l.kept = rw all at l.invariant in
    (p.counted, packed_end goes _ _ _ _ (use_fits t _ c.requires.0) p _ (c.fill.ensures.after (λ y e. e)) ∙ sym (compacted_by_lem _ _))
