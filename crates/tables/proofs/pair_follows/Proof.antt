use Prim.Native.Nat.{◌+◌, ◌*◌}
use native.Mathlib.Omega.{arith}
use lib.ListN.{length}
use borrow.Author.Tests.{le-leb, lt-leb}
use Rattle.tables.specs.Tables.{subscriber_words}
use Rattle.tables.specs.Ends.{pair_within}
use borrow.Author.Rules.{rules}
use Rattle.tables.proofs.pair_follows.Statement.{statement}
use Rattle.tables.proofs.pair_follows.Tie as tie

overflow_sub-list : tie.Need-overflow_sub-list
overflow_sub-list c = search rules

overflow_mul-t-12 : tie.Need-overflow_mul-t-12
overflow_mul-t-12 c = search rules

returns-then-list-at : tie.Need-returns-then-list-at
unfolding pair_within
returns-then-list-at c = let a = c.args in rw (lt-leb (a.at + 2 * subscriber_words) (length a.list.now) (omega arith))

overflow_add-next : tie.Need-overflow_add-next
overflow_add-next c = search rules

offset_bounds-list-at : tie.Need-offset_bounds-list-at
offset_bounds-list-at c = search rules

bounds-list-at : tie.Need-bounds-list-at
bounds-list-at c = search rules

offset_bounds-list-next : tie.Need-offset_bounds-list-next
offset_bounds-list-next c = search rules

bounds-list-next : tie.Need-bounds-list-next
bounds-list-next c = search rules

overflow_add-flags : tie.Need-overflow_add-flags
overflow_add-flags c = search rules

offset_bounds-list-at-2 : tie.Need-offset_bounds-list-at-2
offset_bounds-list-at-2 c = search rules

bounds-list-at-2 : tie.Need-bounds-list-at-2
bounds-list-at-2 c = search rules

overflow_add-others : tie.Need-overflow_add-others
overflow_add-others c = search rules

offset_bounds-list-next-2 : tie.Need-offset_bounds-list-next-2
offset_bounds-list-next-2 c = search rules

bounds-list-next-2 : tie.Need-bounds-list-next-2
bounds-list-next-2 c = search rules

follows-requires : tie.Need-follows-requires
follows-requires c κs = search rules

follows-requires-2 : tie.Need-follows-requires-2
follows-requires-2 c κs = search rules

returns : tie.Need-returns
unfolding pair_within
returns c =
    let a = c.args in
    rw (le-leb (a.at + 2 * subscriber_words) (length a.list.now) (omega arith), ← c.follows.ensures, ← c.follows-2.ensures)

pub pair_follows_spec : {M : Type 1} → statement M
pair_follows_spec =
    tie.close
    (tie.spec
    overflow_sub-list
    overflow_mul-t-12
    returns-then-list-at
    overflow_add-next
    offset_bounds-list-at
    bounds-list-at
    offset_bounds-list-next
    bounds-list-next
    overflow_add-flags
    offset_bounds-list-at-2
    bounds-list-at-2
    overflow_add-others
    offset_bounds-list-next-2
    bounds-list-next-2
    follows-requires
    follows-requires-2
    returns)
