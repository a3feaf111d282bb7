-- `walks::write_reply` meets its contract: part behind part, each in the room that is left. Assumes nothing.
use mathlib.Core.List.{List, ◌++◌}
use Prim.Native.Nat.{ℕ, ◌+◌, ◌-◌}
use native.Mathlib.Omega.{arith}
use lib.ListN.{length}
use borrow.Author.Rules.{rules}
use borrow.Rule.Slice.PartMut.{put_mid}
use Rattle.answers.specs.Writing.{Stands}
use Rattle.answers.proofs.Parts.{stands_within, stands_room, stands_behind}
use Rattle.numbers.specs.Numbers.{numeral}
use Rattle.writers.proofs.Numerals.{numeral_short}
use Rattle.walks.specs.Tallies.{part_of}
use Rattle.walks.proofs.Replies.{part_short}
use Rattle.walks.proofs.write_reply.Statement.{statement}
use Rattle.walks.proofs.write_reply.Tie as tie

-- ---- the way back from each writer

abbrev start : tie.After-put_numeral-at → tie.Start
start c = c.before.before.before.before.before

abbrev past : tie.After-put_part → tie.After-put_numeral-at
past c = c.before.before.before.before

-- ---- the text with the successes

abbrev count : tie.After-put_part → ℕ
count c = (past c).put_numeral-at.result + c.put_part.result

abbrev text : tie.After-put_part → List ℕ
text c =
    let o = (past c).put_numeral-at in
    put_mid o.result (length o.new.out - o.result) o.new.out c.put_part.new.out

two :
    (c : tie.After-put_part)
    → Stands (numeral (start (past c)).args.n ++ part_of (start (past c)).args.tally.successes) (start (past c)).args.text.now (count c) (text c)
two c = stands_behind (past c).put_numeral-at.ensures c.put_part.ensures

-- ---- the needs

put_numeral-at-requires : tie.Need-put_numeral-at-requires
put_numeral-at-requires c κs = search rules

slice_bounds-put_part-count : tie.Need-slice_bounds-put_part-count
slice_bounds-put_part-count c = stands_within c.put_numeral-at.ensures

slice_bounds-put_part-start : tie.Need-slice_bounds-put_part-start
slice_bounds-put_part-start c = stands_within c.put_numeral-at.ensures

slice_bounds-put_part-end : tie.Need-slice_bounds-put_part-end
slice_bounds-put_part-end c = search rules

put_part-requires : tie.Need-put_part-requires
put_part-requires c κs =
    let s = start c.before.before.before in
    let fits = s.requires.0 in
    let few = fits.few in
    (omega arith, fits.successes, omega (arith, stands_room c.put_numeral-at.ensures, c.put_numeral-at.ensures.count, numeral_short s.args.n, s.requires.1))

overflow_add-at : tie.Need-overflow_add-at
overflow_add-at c =
    let s = start (past c.before.before) in
    let few = s.requires.0.few in
    omega (arith, (past c.before.before).put_numeral-at.ensures.count, numeral_short s.args.n, c.put_part.ensures.count, part_short s.args.tally.successes)

slice_bounds-put_part-count-2 : tie.Need-slice_bounds-put_part-count-2
slice_bounds-put_part-count-2 c = stands_within (two c.before.before)

slice_bounds-put_part-start-2 : tie.Need-slice_bounds-put_part-start-2
slice_bounds-put_part-start-2 c = stands_within (two c.before.before)

slice_bounds-put_part-end-2 : tie.Need-slice_bounds-put_part-end-2
slice_bounds-put_part-end-2 c = search rules

put_part-requires-2 : tie.Need-put_part-requires-2
put_part-requires-2 c κs =
    let p = past c.before.before.before in
    let s = start p in
    let fits = s.requires.0 in
    let few = fits.few in
    (omega arith, fits.failures, omega (arith, stands_room (two c.before.before.before), p.put_numeral-at.ensures.count, numeral_short s.args.n, c.put_part.ensures.count, part_short s.args.tally.successes, s.requires.1))

overflow_add-result : tie.Need-overflow_add-result
overflow_add-result c =
    let p = past c.before.before.before.before.before.before in
    let s = start p in
    let few = s.requires.0.few in
    omega
    (arith, p.put_numeral-at.ensures.count, numeral_short s.args.n, c.put_part.ensures.count, part_short s.args.tally.successes, c.put_part-2.ensures.count, part_short s.args.tally.failures)

shape_of-text : tie.Need-shape_of-text
shape_of-text c = search rules

returns : tie.Need-returns
returns c = stands_behind (two c.before.before.before.before.before.before) c.put_part-2.ensures

pub write_reply_spec : {M : Type 1} → statement M
write_reply_spec =
    tie.close
    (tie.spec
    put_numeral-at-requires
    slice_bounds-put_part-count
    slice_bounds-put_part-start
    slice_bounds-put_part-end
    put_part-requires
    overflow_add-at
    slice_bounds-put_part-count-2
    slice_bounds-put_part-start-2
    slice_bounds-put_part-end-2
    put_part-requires-2
    overflow_add-result
    shape_of-text
    returns)
