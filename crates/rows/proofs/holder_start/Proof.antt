use Rattle.rows.specs.Starts.{holder_start}
use borrow.Author.Rules.{rules}
use Rattle.rows.proofs.holder_start.Statement.{statement}
use Rattle.rows.proofs.holder_start.Tie as tie

overflow_mul-holder : tie.Need-overflow_mul-holder
overflow_mul-holder c = search rules

overflow_add-holder : tie.Need-overflow_add-holder
overflow_add-holder c = search rules

offset_bounds-table-row : tie.Need-offset_bounds-table-row
offset_bounds-table-row c = search rules

bounds-table-row : tie.Need-bounds-table-row
bounds-table-row c = search rules

is_from-requires : tie.Need-is_from-requires
is_from-requires c κs = search rules

returns-then-holder-is_from : tie.Need-returns-then-holder-is_from
unfolding holder_start
returns-then-holder-is_from c = rw (rw c.is_from.ensures at c.if-holder-is_from.true)

least_for-requires : tie.Need-least_for-requires
least_for-requires c κs = search rules

returns : tie.Need-returns
unfolding holder_start
returns c = rw (rw c.is_from.ensures at c.if-holder-is_from.false) c.least_for.ensures

pub holder_start_spec : {M : Type 1} → statement M
holder_start_spec =
    tie.close
    (tie.spec
    overflow_mul-holder
    overflow_add-holder
    offset_bounds-table-row
    bounds-table-row
    is_from-requires
    returns-then-holder-is_from
    least_for-requires
    returns)
