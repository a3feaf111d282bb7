-- `walks::put_spaced` meets its contract. Assumes nothing.
use borrow.Author.Rules.{rules}
use Rattle.answers.proofs.Parts.{stands_behind}
use Rattle.walks.proofs.put_spaced.Statement.{statement}
use Rattle.walks.proofs.put_spaced.Tie as tie

put-at-requires : tie.Need-put-at-requires
put-at-requires c κs = search rules

slice_bounds-put-count : tie.Need-slice_bounds-put-count
slice_bounds-put-count c = search rules

slice_bounds-put-start : tie.Need-slice_bounds-put-start
slice_bounds-put-start c = search rules

slice_bounds-put-end-2 : tie.Need-slice_bounds-put-end-2
slice_bounds-put-end-2 c = search rules

put-requires : tie.Need-put-requires
put-requires c κs = search rules

overflow_add-result : tie.Need-overflow_add-result
overflow_add-result c = search rules

shape_of-out : tie.Need-shape_of-out
shape_of-out c = search rules

returns : tie.Need-returns
returns c = stands_behind c.put-at.ensures c.put.ensures

pub put_spaced_spec : {M : Type 1} → statement M
put_spaced_spec =
    tie.close
    (tie.spec
    put-at-requires
    slice_bounds-put-count
    slice_bounds-put-start
    slice_bounds-put-end-2
    put-requires
    overflow_add-result
    shape_of-out
    returns)
