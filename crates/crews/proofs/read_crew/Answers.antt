-- Its tests are the definition's, in the same order. Assumes nothing.
use Rattle.std.proofs.Common.{sym, ap, ◌∙◌}
use Rattle.answers.proofs.Begins.{begins_within}
use Rattle.answers.proofs.Parts.{rest_of}
use Rattle.crews.specs.declared.Crew.TheVariants.{Codes}
use Rattle.crews.proofs.Steps.{no_bulk, bulk_broken, bulk_crew}
use Rattle.crews.proofs.read_crew.Goals as goal

pub returns-then-not-begins_with : goal.returns-then-not-begins_with
returns-then-not-begins_with c = sym (no_bulk _ (sym c.begins_with.ensures ∙ c.if-not-begins_with.true))

pub slice_bounds-read_counted-count : goal.slice_bounds-read_counted-count
slice_bounds-read_counted-count c = begins_within _ _ (sym c.begins_with.ensures ∙ c.if-not-begins_with.false)

pub slice_bounds-read_counted-start : goal.slice_bounds-read_counted-start
slice_bounds-read_counted-start c = begins_within _ _ (sym c.begins_with.ensures ∙ c.if-not-begins_with.false)

pub returns-in-None : goal.returns-in-None
returns-in-None c = sym (bulk_broken _ (sym c.begins_with.ensures ∙ c.if-not-begins_with.false) (rw rest_of at (rw c.in-None.is at c.read_counted.ensures)))

pub returns-in-Some : goal.returns-in-Some
returns-in-Some c =
    let k = rw rest_of at (rw c.in-Some.is at c.read_counted.ensures) in
    ap Codes k.2 ∙ sym (bulk_crew _ (sym c.begins_with.ensures ∙ c.if-not-begins_with.false) k.1)
