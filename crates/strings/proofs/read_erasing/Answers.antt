-- Its tests are the definition's, in the same order. Assumes nothing.
use Rattle.std.proofs.Common.{sym, ◌∙◌, arith}
use Rattle.answers.proofs.Begins.{begins_within}
use Rattle.answers.proofs.Parts.{rest_of}
use Rattle.strings.specs.Reader.{number_field_at}
use Rattle.strings.proofs.Cursor.{found_at}
use Rattle.strings.proofs.Steps.{erasing_empty, erasing_not, erasing_open, erasing_none, erasing_forced}
use Rattle.strings.proofs.read_erasing.Goals as goal

pub returns-then-begins_with : goal.returns-then-begins_with
returns-then-begins_with c = erasing_empty _ _ (sym c.begins_with.ensures ∙ c.if-begins_with.true)

pub returns-then-not-may_force : goal.returns-then-not-may_force
returns-then-not-may_force c = erasing_not _ _ (sym c.begins_with.ensures ∙ c.if-begins_with.false) (sym c.may_force.ensures ∙ c.if-not-may_force.true)

pub returns-then-not-begins_with : goal.returns-then-not-begins_with
returns-then-not-begins_with c = erasing_open _ _ (sym c.begins_with.ensures ∙ c.if-begins_with.false) (sym c.may_force.ensures ∙ c.if-not-may_force.false) (sym c.begins_with-2.ensures ∙ c.if-not-begins_with.true)

pub slice_bounds-read_number_field-count : goal.slice_bounds-read_number_field-count
slice_bounds-read_number_field-count c = begins_within _ _ (sym c.begins_with-2.ensures ∙ c.if-not-begins_with.false)

pub slice_bounds-read_number_field-start : goal.slice_bounds-read_number_field-start
slice_bounds-read_number_field-start c = begins_within _ _ (sym c.begins_with-2.ensures ∙ c.if-not-begins_with.false)

pub returns-in_default : goal.returns-in_default
returns-in_default c = erasing_none _ _ (sym c.begins_with.ensures ∙ c.if-begins_with.false) (sym c.may_force.ensures ∙ c.if-not-may_force.false) (sym c.begins_with-2.ensures ∙ c.if-not-begins_with.false) (rw rest_of at (rw c.in_default.is at c.read_number_field.ensures))

pub overflow_add-result : goal.overflow_add-result
overflow_add-result c = omega (arith, (found_at number_field_at c.args.part.now 3 _ _ (begins_within _ _ (sym c.begins_with-2.ensures ∙ c.if-not-begins_with.false)) (rw c.in-Some.is at c.read_number_field.ensures)).within)

pub returns : goal.returns
returns c = erasing_forced _ _ (sym c.begins_with.ensures ∙ c.if-begins_with.false) (sym c.may_force.ensures ∙ c.if-not-may_force.false) _ _ (sym c.begins_with-2.ensures ∙ c.if-not-begins_with.false) (found_at number_field_at c.args.part.now 3 _ _ (begins_within _ _ (sym c.begins_with-2.ensures ∙ c.if-not-begins_with.false)) (rw c.in-Some.is at c.read_number_field.ensures))
