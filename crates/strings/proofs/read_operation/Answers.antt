-- Its tests are the definition's, in the same order. Assumes nothing.
use Rattle.std.proofs.Common.{sym, ◌∙◌}
use Rattle.answers.proofs.Begins.{begins_within}
use Rattle.strings.specs.Reader.{operation_at}
use Rattle.strings.proofs.read_operation.Goals as goal

pub returns-then-begins_with : goal.returns-then-begins_with
unfolding operation_at
returns-then-begins_with c =
    let yes = sym c.begins_with.ensures ∙ c.if-begins_with.true in
    record { within = begins_within _ _ yes; found = rw yes }

pub returns-then-begins_with-2 : goal.returns-then-begins_with-2
unfolding operation_at
returns-then-begins_with-2 c =
    let first = sym c.begins_with.ensures ∙ c.if-begins_with.false in
    let yes = sym c.begins_with-2.ensures ∙ c.if-begins_with-2.true in
    record { within = begins_within _ _ yes; found = rw (first, yes) }

pub returns-then-begins_with-3 : goal.returns-then-begins_with-3
unfolding operation_at
returns-then-begins_with-3 c =
    let first = sym c.begins_with.ensures ∙ c.if-begins_with.false in
    let second = sym c.begins_with-2.ensures ∙ c.if-begins_with-2.false in
    let yes = sym c.begins_with-3.ensures ∙ c.if-begins_with-3.true in
    record { within = begins_within _ _ yes; found = rw (first, second, yes) }

pub returns : goal.returns
unfolding operation_at
returns c =
    let first = sym c.begins_with.ensures ∙ c.if-begins_with.false in
    let second = sym c.begins_with-2.ensures ∙ c.if-begins_with-2.false in
    let third = sym c.begins_with-3.ensures ∙ c.if-begins_with-3.false in
    rw (first, second, third)
