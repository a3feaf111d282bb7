-- `lines::result_line` meets its contract. Assumes nothing.
use mathlib.Core.Path.{sym, ◌∙◌}
use Prim.Native.Nat.{◌+◌, ◌-◌, ◌<◌}
use native.Mathlib.Omega.{arith}
use lib.ListN.{length}
use lib.Seq.{length-take-le}
use borrow.Rule.Slice.PartMut.{put_mid}
use Rattle.rules.specs.Notices as notices
use Rattle.lines.specs.Program.{reported}
use Rattle.lines.proofs.Memory.{line_room_lem, line_did}
use Rattle.lines.proofs.Figures.{result_right}
use borrow.Author.Rules.{rules}
use Rattle.lines.proofs.result_line.Statement.{statement}
use Rattle.lines.proofs.result_line.Tie as tie

-- the letter and the space are put
abbrev head : tie.After-report-n → tie.After-put-at
head c = c.before.before.before.before.before.before

abbrev start : tie.After-put-at → tie.Start
start c = c.before.before.before.before.before.before.before.before

room : (c : tie.After-report-n) → (head c).put-at.result + c.report-n.result < length (put_mid (head c).put-at.result (length (head c).put-at.new.out - (head c).put-at.result) (head c).put-at.new.out c.report-n.new.out)
room c = line_room_lem (head c).put-at.ensures c.report-n.ensures c.report-n.auto.out (omega arith)

overflow_mul-words : tie.Need-overflow_mul-words
overflow_mul-words c = search rules

put-at-requires : tie.Need-put-at-requires
put-at-requires c κs = search rules

slice_bounds-report-end : tie.Need-slice_bounds-report-end
slice_bounds-report-end c = search rules

slice_bounds-report-end-2 : tie.Need-slice_bounds-report-end-2
slice_bounds-report-end-2 c = sym (length-take-le _ _ (start c.before.before.before).requires.0)

slice_bounds-report-end-3 : tie.Need-slice_bounds-report-end-3
slice_bounds-report-end-3 c = search rules

slice_bounds-report-count : tie.Need-slice_bounds-report-count
slice_bounds-report-count c = search rules

slice_bounds-report-start : tie.Need-slice_bounds-report-start
slice_bounds-report-start c = search rules

slice_bounds-report-end-4 : tie.Need-slice_bounds-report-end-4
slice_bounds-report-end-4 c = search rules

report-n-requires : tie.Need-report-n-requires
report-n-requires c κs = search rules

overflow_add-at : tie.Need-overflow_add-at
overflow_add-at c = search rules

end_line-requires : tie.Need-end_line-requires
end_line-requires c κs = room c.before.before.before.before.before.before

shape_of-table : tie.Need-shape_of-table
shape_of-table c = search rules

shape_of-out : tie.Need-shape_of-out
shape_of-out c = search rules

returns : tie.Need-returns
unfolding reported
returns c = λ list s.
    let a = start (head c.before.before.before.before.before.before.before.before.before) in
    line_did (λ state. notices.taking_result state a.args.number a.args.kind a.args.clock) s (λ t. result_right a.args.number a.args.clock a.ranges.clock.fits t a.args.kind) (head c.before.before.before.before.before.before.before.before.before).put-at.ensures c.report-n.ensures (c.report-n.auto.table ∙ length-take-le _ _ s.numbers) (room c.before.before.before.before.before.before.before.before.before) c.end_line.ensures.0 c.end_line.ensures.1

pub result_line_spec : {M : Type 1} → statement M
result_line_spec =
    tie.close
    (tie.spec
    overflow_mul-words
    put-at-requires
    slice_bounds-report-end
    slice_bounds-report-end-2
    slice_bounds-report-end-3
    slice_bounds-report-count
    slice_bounds-report-start
    slice_bounds-report-end-4
    report-n-requires
    overflow_add-at
    end_line-requires
    shape_of-table
    shape_of-out
    returns)
