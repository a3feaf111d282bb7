-- `lines::request_line` meets its contract. Assumes nothing.
use mathlib.Core.Path.{sym, ◌∙◌}
use Prim.Native.Nat.{◌+◌, ◌-◌, ◌*◌, ◌<◌}
use native.Mathlib.Omega.{arith}
use lib.ListN.{length, take}
use lib.Seq.{length-take-le}
use borrow.Rule.Slice.PartMut.{put_mid}
use Rattle.tables.specs.Tables.{subscriber_words}
use Rattle.lines.specs.Program.{asked, requested}
use Rattle.lines.proofs.Memory.{line_room_lem, line_did}
use Rattle.lines.proofs.Figures.{asked_right}
use borrow.Author.Rules.{rules}
use Rattle.lines.proofs.request_line.Statement.{statement}
use Rattle.lines.proofs.request_line.Tie as tie

-- the letter and the space are put
abbrev head : tie.After-ask-n → tie.After-put-at
head c = c.before.before.before.before.before.before.before

abbrev start : tie.After-put-at → tie.Start
start c = c.before.before.before.before.before.before.before.before.before.before.before.before

room : (c : tie.After-ask-n) → (head c).put-at.result + c.ask-n.result < length (put_mid (head c).put-at.result (length (head c).put-at.new.out - (head c).put-at.result) (head c).put-at.new.out c.ask-n.new.out)
room c = line_room_lem (head c).put-at.ensures c.ask-n.ensures c.ask-n.auto.out (omega arith)

overflow_mul-words : tie.Need-overflow_mul-words
overflow_mul-words c = search rules

overflow_mul-entries : tie.Need-overflow_mul-entries
overflow_mul-entries c = search rules

put-at-requires : tie.Need-put-at-requires
put-at-requires c κs = search rules

slice_bounds-ask-end : tie.Need-slice_bounds-ask-end
slice_bounds-ask-end c = search rules

slice_bounds-ask-end-2 : tie.Need-slice_bounds-ask-end-2
slice_bounds-ask-end-2 c = sym (length-take-le _ _ (start c.before.before.before).requires.0.numbers)

slice_bounds-ask-end-3 : tie.Need-slice_bounds-ask-end-3
slice_bounds-ask-end-3 c = search rules

slice_bounds-ask-end-4 : tie.Need-slice_bounds-ask-end-4
slice_bounds-ask-end-4 c = sym (length-take-le _ _ (start c.before.before.before.before).requires.0.subscribers)

slice_bounds-ask-count : tie.Need-slice_bounds-ask-count
slice_bounds-ask-count c = search rules

slice_bounds-ask-start : tie.Need-slice_bounds-ask-start
slice_bounds-ask-start c = search rules

slice_bounds-ask-end-5 : tie.Need-slice_bounds-ask-end-5
slice_bounds-ask-end-5 c = search rules

ask-n-requires : tie.Need-ask-n-requires
ask-n-requires c κs = search rules

overflow_add-at : tie.Need-overflow_add-at
overflow_add-at c = omega (arith, c.ask-n.ensures.short, (head c.before.before.before.before.before.before.before).put-at.ensures.count)

end_line-requires : tie.Need-end_line-requires
end_line-requires c κs = room c.before.before.before.before.before.before.before.before

shape_of-table : tie.Need-shape_of-table
shape_of-table c = search rules

shape_of-packed : tie.Need-shape_of-packed
shape_of-packed c = search rules

shape_of-out : tie.Need-shape_of-out
shape_of-out c = search rules

returns : tie.Need-returns
unfolding requested
returns c =
    let s = start (head c.before.before.before.before.before.before.before.before.before.before.before) in
    let list = take (subscriber_words * s.args.state.subscribers) s.args.list.now in
    line_did (λ state. asked s.args.requester s.args.string.now state list) s.requires.0 (asked_right s.args.requester s.args.string.now list) (head c.before.before.before.before.before.before.before.before.before.before.before).put-at.ensures c.ask-n.ensures (c.ask-n.auto.table ∙ length-take-le _ _ s.requires.0.numbers) (room c.before.before.before.before.before.before.before.before.before.before.before) c.end_line.ensures.0 c.end_line.ensures.1

pub request_line_spec : {M : Type 1} → statement M
request_line_spec =
    tie.close
    (tie.spec
    overflow_mul-words
    overflow_mul-entries
    put-at-requires
    slice_bounds-ask-end
    slice_bounds-ask-end-2
    slice_bounds-ask-end-3
    slice_bounds-ask-end-4
    slice_bounds-ask-count
    slice_bounds-ask-start
    slice_bounds-ask-end-5
    ask-n-requires
    overflow_add-at
    end_line-requires
    shape_of-table
    shape_of-packed
    shape_of-out
    returns)
