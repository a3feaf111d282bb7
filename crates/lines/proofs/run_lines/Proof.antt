-- `lines::run_lines` meets its contract. The loop's invariant: the rows in use and the lines that are left make the whole effect. Assumes nothing.
use mathlib.Core.Path.{◌≡◌, sym, ◌∙◌}
use Prim.Native.Nat.{◌+◌, ◌*◌, ◌-◌, ◌≤◌}
use native.Mathlib.Omega.{arith}
use lib.ListN.{length, take, drop, length-take, length-drop}
use lib.Seq.{length-take-le}
use Rattle.answers.proofs.Parts.{rest_of}
use Rattle.octets.specs.Octets.{index_of}
use Rattle.packing.specs.Packing.{octets_for}
use Rattle.forms.specs.Lines.{line_feed}
use Rattle.lines.specs.Program.{line_effect}
use Rattle.lines.specs.Memory.{program_in, Did, most_input}
use Rattle.lines.proofs.Running.{Run, run_start, so_far, printed_most, run_step, run_end}
use borrow.Author.Rules.{rules}
use Rattle.lines.proofs.run_lines.Statement.{statement}
use Rattle.lines.proofs.run_lines.Tie as tie

abbrev invariant-loop-at : tie.invariant-loop-at
invariant-loop-at input table₀ list₀ packed₀ out₀ state₀ at₀ n₀ table list packed out state at n =
    Run input table₀ list₀ out₀ state at n table list out × (length packed ≡ length packed₀)

abbrev decreases-loop-at : tie.decreases-loop-at
decreases-loop-at input table₀ list₀ packed₀ out₀ state₀ at₀ n₀ table list packed out state at n = length input - at

abbrev start : tie.At-loop-at invariant-loop-at decreases-loop-at → tie.Start invariant-loop-at decreases-loop-at
start c = c.before.before.before.before.before.before

-- where the line ends
found :
    (c : tie.After-place_of-end invariant-loop-at decreases-loop-at)
    → (c.place_of-end.result ≡ index_of line_feed (drop c.loop-at.at (start c.before.before.before).args.input.now))
    × (c.place_of-end.result ≤ length (drop c.loop-at.at (start c.before.before.before).args.input.now))
found c = rw rest_of at c.place_of-end.ensures

room : (c : tie.In-loop-at invariant-loop-at decreases-loop-at) → c.loop-at.n + 61 ≤ length c.loop-at.out
room c = so_far c.loop-at.invariant.0 (start c.before).requires.0 c.loop-at-test.true

abbrev head : tie.After-do_line-done invariant-loop-at decreases-loop-at → tie.At-loop-at invariant-loop-at decreases-loop-at
head c = c.before.before.before.before.before.before.before.before

did :
    (c : tie.After-do_line-done invariant-loop-at decreases-loop-at)
    → Did (line_effect (take c.place_of-end.result (drop (head c).loop-at.at (start (head c)).args.input.now)) (program_in (head c).loop-at.state (head c).loop-at.table (head c).loop-at.list))
    (head c).loop-at.state (head c).loop-at.table (head c).loop-at.list (take (length (head c).loop-at.out - (head c).loop-at.n) (drop (head c).loop-at.n (head c).loop-at.out))
    c.do_line-done.result c.do_line-done.new.table c.do_line-done.new.list c.do_line-done.new.out
did c = rw (rest_of (head c).loop-at.at (start (head c)).args.input.now) at c.do_line-done.ensures

printed : (c : tie.After-do_line-done invariant-loop-at decreases-loop-at) → c.do_line-done.result.printed ≤ 7 * (c.place_of-end.result + 1)
printed c =
    printed_most (head c).loop-at.invariant.0 (start (head c)).requires.0 c.loop-at-test.true (found c.before.before.before.before.before) (did c) c.do_line-done.auto.table c.do_line-done.auto.list c.do_line-done.auto.out

-- the line ends within the input, which is short
ends : (c : tie.After-do_line-done invariant-loop-at decreases-loop-at) → (head c).loop-at.at + (c.place_of-end.result + 1) ≤ most_input + 1
ends c =
    let s = start (head c) in
    omega (arith, c.loop-at-test.true, (found c.before.before.before.before.before).1, length-drop (head c).loop-at.at s.args.input.now, s.requires.0.short)

loop-at-init : tie.Need-loop-at-init invariant-loop-at decreases-loop-at
loop-at-init c = (run_start _ _ _ _ c.requires.0, omega arith)

slice_bounds-rest-count : tie.Need-slice_bounds-rest-count invariant-loop-at decreases-loop-at
slice_bounds-rest-count c = search rules

slice_bounds-rest-start : tie.Need-slice_bounds-rest-start invariant-loop-at decreases-loop-at
slice_bounds-rest-start c = search rules

slice_bounds-rest-end : tie.Need-slice_bounds-rest-end invariant-loop-at decreases-loop-at
slice_bounds-rest-end c = search rules

place_of-end-requires : tie.Need-place_of-end-requires invariant-loop-at decreases-loop-at
place_of-end-requires c κs = search rules

slice_bounds-do_line-end : tie.Need-slice_bounds-do_line-end invariant-loop-at decreases-loop-at
slice_bounds-do_line-end c = sym (length-take-le _ _ c.place_of-end.ensures.1)

slice_bounds-do_line-count : tie.Need-slice_bounds-do_line-count invariant-loop-at decreases-loop-at
slice_bounds-do_line-count c = omega (arith, room c.before.before.before.before.before)

slice_bounds-do_line-start : tie.Need-slice_bounds-do_line-start invariant-loop-at decreases-loop-at
slice_bounds-do_line-start c = omega (arith, room c.before.before.before.before.before)

slice_bounds-do_line-end-in-loop-at : tie.Need-slice_bounds-do_line-end-in-loop-at invariant-loop-at decreases-loop-at
slice_bounds-do_line-end-in-loop-at c = search rules

do_line-done-requires : tie.Need-do_line-done-requires invariant-loop-at decreases-loop-at
unfolding octets_for
do_line-done-requires c κs =
    let s = start c.before.before.before.before.before.before.before in
    (c.loop-at.invariant.0.stands, (simp (length-take, length-drop) (omega (arith, s.requires.1, c.loop-at.invariant.1)), simp (length-take, length-drop) (omega (arith, room c.before.before.before.before.before.before))))

overflow_add-n : tie.Need-overflow_add-n invariant-loop-at decreases-loop-at
overflow_add-n c = omega (arith, printed c.before.before.before.before.before.before.before.before.before.before, (head c.before.before.before.before.before.before.before.before.before.before).loop-at.invariant.0.most, ends c.before.before.before.before.before.before.before.before.before.before)

overflow_add-at : tie.Need-overflow_add-at invariant-loop-at decreases-loop-at
overflow_add-at c = omega (arith, ends c.before.before.before.before.before.before.before.before.before.before)

overflow_add-at-in-loop-at : tie.Need-overflow_add-at-in-loop-at invariant-loop-at decreases-loop-at
overflow_add-at-in-loop-at c = omega (arith, ends c.before.before.before.before.before.before.before.before.before.before)

loop-at-smaller : tie.Need-loop-at-smaller invariant-loop-at decreases-loop-at
loop-at-smaller c = search rules

loop-at-preserved : tie.Need-loop-at-preserved invariant-loop-at decreases-loop-at
loop-at-preserved c =
    (run_step (head c.before.before.before.before.before.before.before.before.before.before).loop-at.invariant.0 (start (head c.before.before.before.before.before.before.before.before.before.before)).requires.0 c.loop-at-test.true (found c.before.before.before.before.before.before.before.before.before.before.before.before.before.before.before) (did c.before.before.before.before.before.before.before.before.before.before) c.do_line-done.auto.table c.do_line-done.auto.list c.do_line-done.auto.out, c.do_line-done.auto.packed ∙ (head c.before.before.before.before.before.before.before.before.before.before).loop-at.invariant.1)

shape_of-table : tie.Need-shape_of-table invariant-loop-at decreases-loop-at
shape_of-table c = c.loop-at.invariant.0.table_long

shape_of-list : tie.Need-shape_of-list invariant-loop-at decreases-loop-at
shape_of-list c = c.loop-at.invariant.0.list_long

shape_of-packed : tie.Need-shape_of-packed invariant-loop-at decreases-loop-at
shape_of-packed c = c.loop-at.invariant.1

shape_of-out : tie.Need-shape_of-out invariant-loop-at decreases-loop-at
shape_of-out c = c.loop-at.invariant.0.out_long

returns : tie.Need-returns invariant-loop-at decreases-loop-at
returns c = run_end _ _ _ _ _ _ _ _ _ _ c.loop-at.invariant.0 (start c.before).requires.0 c.loop-at-test.false

pub run_lines_spec : {M : Type 1} → statement M
run_lines_spec =
    tie.close
    (tie.spec
    invariant-loop-at
    decreases-loop-at
    loop-at-init
    slice_bounds-rest-count
    slice_bounds-rest-start
    slice_bounds-rest-end
    place_of-end-requires
    slice_bounds-do_line-end
    slice_bounds-do_line-count
    slice_bounds-do_line-start
    slice_bounds-do_line-end-in-loop-at
    do_line-done-requires
    overflow_add-n
    overflow_add-at
    overflow_add-at-in-loop-at
    loop-at-smaller
    loop-at-preserved
    shape_of-table
    shape_of-list
    shape_of-packed
    shape_of-out
    returns)
