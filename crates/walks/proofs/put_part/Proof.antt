-- `walks::put_part` meets its contract: the count, and the codes behind it if there are any. Assumes nothing.
use mathlib.Core.Path.{◌≡◌, sym}
use Prim.Native.Nat.{◌*◌}
use native.Mathlib.Omega.{arith}
use lib.Seq.{length-take-le}
use lib.ListN.{length, take}
use borrow.Author.Rules.{rules}
use Rattle.answers.proofs.Parts.{stands_within, stands_room, stands_behind}
use Rattle.writers.proofs.Numerals.{numeral_short}
use Rattle.walks.proofs.Replies.{part_none, part_some}
use Rattle.walks.proofs.put_part.Statement.{statement}
use Rattle.walks.proofs.put_part.Tie as tie

abbrev start : tie.After-put_numbered-at → tie.Start
start c = c.before.before.before.before.before

abbrev past : tie.After-digits-1 → tie.After-put_numbered-at
past c = c.before.before.before.before

-- the digits have room for every code
whole : (c : tie.After-digits-1) → length (start (past c)).args.codes.digits ≡ 20
whole c = (start (past c)).requires.1

-- so their front is there
front : (c : tie.After-digits-1) → length (take (2 * (start (past c)).args.codes.count) (start (past c)).args.codes.digits) ≡ 2 * (start (past c)).args.codes.count
front c = let few = (start (past c)).requires.0 in length-take-le _ _ (omega (arith, whole c))

overflow_cast-count : tie.Need-overflow_cast-count
overflow_cast-count c = search rules

put_numbered-at-requires : tie.Need-put_numbered-at-requires
put_numbered-at-requires c κs = search rules

shape_of-out-then-count-eq0 : tie.Need-shape_of-out-then-count-eq0
shape_of-out-then-count-eq0 c = search rules

returns-then-count-eq0 : tie.Need-returns-then-count-eq0
returns-then-count-eq0 c = rw (part_none (start c.before.before.before).args.codes c.if-count-eq0.true) c.put_numbered-at.ensures

overflow_mul-digits : tie.Need-overflow_mul-digits
overflow_mul-digits c = search rules

slice_bounds-digits-end : tie.Need-slice_bounds-digits-end
slice_bounds-digits-end c = omega (arith, whole c, (start (past c)).requires.0)

slice_bounds-put_spaced-end : tie.Need-slice_bounds-put_spaced-end
slice_bounds-put_spaced-end c = sym (front c.before)

slice_bounds-put_spaced-count : tie.Need-slice_bounds-put_spaced-count
slice_bounds-put_spaced-count c = stands_within (past c.before).put_numbered-at.ensures

slice_bounds-put_spaced-start : tie.Need-slice_bounds-put_spaced-start
slice_bounds-put_spaced-start c = stands_within (past c.before).put_numbered-at.ensures

slice_bounds-put_spaced-end-2 : tie.Need-slice_bounds-put_spaced-end-2
slice_bounds-put_spaced-end-2 c = search rules

put_spaced-requires : tie.Need-put_spaced-requires
put_spaced-requires c κs =
    let p = past c.before.before in
    let s = start p in
    omega
    (arith, s.requires.0, s.requires.2, stands_room p.put_numbered-at.ensures, p.put_numbered-at.ensures.count, numeral_short s.args.codes.count, front c.before.before)

overflow_add-result : tie.Need-overflow_add-result
overflow_add-result c =
    let p = past c.before.before.before.before.before in
    let s = start p in
    omega
    (arith, s.requires.0, s.requires.2, p.put_numbered-at.ensures.count, numeral_short s.args.codes.count, c.put_spaced.ensures.count, front c.before.before.before.before.before)

shape_of-out : tie.Need-shape_of-out
shape_of-out c = search rules

returns : tie.Need-returns
returns c =
    let p = past c.before.before.before.before.before in
    rw (part_some (start p).args.codes c.if-count-eq0.false) (stands_behind p.put_numbered-at.ensures c.put_spaced.ensures)

pub put_part_spec : {M : Type 1} → statement M
put_part_spec =
    tie.close
    (tie.spec
    overflow_cast-count
    put_numbered-at-requires
    shape_of-out-then-count-eq0
    returns-then-count-eq0
    overflow_mul-digits
    slice_bounds-digits-end
    slice_bounds-put_spaced-end
    slice_bounds-put_spaced-count
    slice_bounds-put_spaced-start
    slice_bounds-put_spaced-end-2
    put_spaced-requires
    overflow_add-result
    shape_of-out
    returns)
