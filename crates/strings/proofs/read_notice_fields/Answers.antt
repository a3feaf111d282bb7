-- Each field is found in the rest behind the one before. Assumes nothing.
use Rattle.std.proofs.Common.{◌+◌, ◌≤◌, length, sym, ap, ◌∙◌, arith, length-drop}
use Rattle.answers.proofs.Begins.{begins_within}
use Rattle.answers.proofs.Parts.{rest_of}
use Rattle.strings.specs.Reader.{number_field_at}
use Rattle.strings.specs.Notices.{supervisor_field_at, notice_read}
use Rattle.strings.proofs.Cursor.{found_at, notice_other, notice_no_number, notice_no_88, notice_no_supervisor, notice_no_additional, notice_read_lem}
use Rattle.strings.proofs.read_notice_fields.Goals as goal

pub returns-then-not-begins_with : goal.returns-then-not-begins_with
returns-then-not-begins_with c = sym (ap notice_read (notice_other _ (sym c.begins_with.ensures ∙ c.if-not-begins_with.true)))

pub slice_bounds-read_number_field-count : goal.slice_bounds-read_number_field-count
slice_bounds-read_number_field-count c = begins_within _ _ (sym c.begins_with.ensures ∙ c.if-not-begins_with.false)

pub slice_bounds-read_number_field-start : goal.slice_bounds-read_number_field-start
slice_bounds-read_number_field-start c = begins_within _ _ (sym c.begins_with.ensures ∙ c.if-not-begins_with.false)

pub returns-in_default : goal.returns-in_default
returns-in_default c =
    let begun = sym c.begins_with.ensures ∙ c.if-not-begins_with.false in
    sym (ap notice_read (notice_no_number _ begun (rw rest_of at (rw c.in_default.is at c.read_number_field.ensures))))

pub slice_bounds-begins_with-count : goal.slice_bounds-begins_with-count
slice_bounds-begins_with-count c =
    let begun = sym c.begins_with.ensures ∙ c.if-not-begins_with.false in
    let number = found_at number_field_at c.args.text.now 6 _ _ (begins_within _ _ begun) (rw c.in-Some.is at c.read_number_field.ensures) in
    number.within

pub slice_bounds-begins_with-start : goal.slice_bounds-begins_with-start
slice_bounds-begins_with-start c =
    let begun = sym c.begins_with.ensures ∙ c.if-not-begins_with.false in
    let number = found_at number_field_at c.args.text.now 6 _ _ (begins_within _ _ begun) (rw c.in-Some.is at c.read_number_field.ensures) in
    number.within

pub returns-then-not-begins_with-2 : goal.returns-then-not-begins_with-2
returns-then-not-begins_with-2 c =
    let begun = sym c.begins_with.ensures ∙ c.if-not-begins_with.false in
    let number = found_at number_field_at c.args.text.now 6 _ _ (begins_within _ _ begun) (rw c.in-Some.is at c.read_number_field.ensures) in
    let other = sym (rw rest_of at c.begins_with-2.ensures) ∙ c.if-not-begins_with-2.true in
    sym (ap notice_read (notice_no_88 _ begun _ _ number other))

pub slice_bounds-read_supervisor-count : goal.slice_bounds-read_supervisor-count
slice_bounds-read_supervisor-count c =
    let begun = sym c.begins_with.ensures ∙ c.if-not-begins_with.false in
    let number = found_at number_field_at c.args.text.now 6 _ _ (begins_within _ _ begun) (rw c.in-Some.is at c.read_number_field.ensures) in
    let forced = sym (rw rest_of at c.begins_with-2.ensures) ∙ c.if-not-begins_with-2.false in
    let within : 6 + c.in-Some.n + 3 ≤ length c.args.text.now = omega (arith, begins_within _ _ forced, length-drop (6 + c.in-Some.n) c.args.text.now, number.within) in
    within

pub slice_bounds-read_supervisor-start : goal.slice_bounds-read_supervisor-start
slice_bounds-read_supervisor-start c =
    let begun = sym c.begins_with.ensures ∙ c.if-not-begins_with.false in
    let number = found_at number_field_at c.args.text.now 6 _ _ (begins_within _ _ begun) (rw c.in-Some.is at c.read_number_field.ensures) in
    let forced = sym (rw rest_of at c.begins_with-2.ensures) ∙ c.if-not-begins_with-2.false in
    let within : 6 + c.in-Some.n + 3 ≤ length c.args.text.now = omega (arith, begins_within _ _ forced, length-drop (6 + c.in-Some.n) c.args.text.now, number.within) in
    within

pub returns-in_default-read_supervisor : goal.returns-in_default-read_supervisor
returns-in_default-read_supervisor c =
    let begun = sym c.begins_with.ensures ∙ c.if-not-begins_with.false in
    let number = found_at number_field_at c.args.text.now 6 _ _ (begins_within _ _ begun) (rw c.in-Some.is at c.read_number_field.ensures) in
    let forced = sym (rw rest_of at c.begins_with-2.ensures) ∙ c.if-not-begins_with-2.false in
    let within : 6 + c.in-Some.n + 3 ≤ length c.args.text.now = omega (arith, begins_within _ _ forced, length-drop (6 + c.in-Some.n) c.args.text.now, number.within) in
    sym (ap notice_read (notice_no_supervisor _ begun _ _ number forced (rw rest_of at (rw c.in_default-read_supervisor.is at c.read_supervisor.ensures))))

pub slice_bounds-read_additional-count : goal.slice_bounds-read_additional-count
slice_bounds-read_additional-count c =
    let begun = sym c.begins_with.ensures ∙ c.if-not-begins_with.false in
    let number = found_at number_field_at c.args.text.now 6 _ _ (begins_within _ _ begun) (rw c.in-Some.is at c.read_number_field.ensures) in
    let forced = sym (rw rest_of at c.begins_with-2.ensures) ∙ c.if-not-begins_with-2.false in
    let within : 6 + c.in-Some.n + 3 ≤ length c.args.text.now = omega (arith, begins_within _ _ forced, length-drop (6 + c.in-Some.n) c.args.text.now, number.within) in
    let supervisor = found_at supervisor_field_at c.args.text.now _ _ _ within (rw c.in-Some-read_supervisor.is at c.read_supervisor.ensures) in
    supervisor.within

pub slice_bounds-read_additional-start : goal.slice_bounds-read_additional-start
slice_bounds-read_additional-start c =
    let begun = sym c.begins_with.ensures ∙ c.if-not-begins_with.false in
    let number = found_at number_field_at c.args.text.now 6 _ _ (begins_within _ _ begun) (rw c.in-Some.is at c.read_number_field.ensures) in
    let forced = sym (rw rest_of at c.begins_with-2.ensures) ∙ c.if-not-begins_with-2.false in
    let within : 6 + c.in-Some.n + 3 ≤ length c.args.text.now = omega (arith, begins_within _ _ forced, length-drop (6 + c.in-Some.n) c.args.text.now, number.within) in
    let supervisor = found_at supervisor_field_at c.args.text.now _ _ _ within (rw c.in-Some-read_supervisor.is at c.read_supervisor.ensures) in
    supervisor.within

pub returns-in_default-read_additional : goal.returns-in_default-read_additional
returns-in_default-read_additional c =
    let begun = sym c.begins_with.ensures ∙ c.if-not-begins_with.false in
    let number = found_at number_field_at c.args.text.now 6 _ _ (begins_within _ _ begun) (rw c.in-Some.is at c.read_number_field.ensures) in
    let forced = sym (rw rest_of at c.begins_with-2.ensures) ∙ c.if-not-begins_with-2.false in
    let within : 6 + c.in-Some.n + 3 ≤ length c.args.text.now = omega (arith, begins_within _ _ forced, length-drop (6 + c.in-Some.n) c.args.text.now, number.within) in
    let supervisor = found_at supervisor_field_at c.args.text.now _ _ _ within (rw c.in-Some-read_supervisor.is at c.read_supervisor.ensures) in
    sym (ap notice_read (notice_no_additional _ begun _ _ number forced _ _ supervisor (rw rest_of at (rw c.in_default-read_additional.is at c.read_additional.ensures))))

pub returns-then-not-crew_allowed : goal.returns-then-not-crew_allowed
returns-then-not-crew_allowed c =
    let begun = sym c.begins_with.ensures ∙ c.if-not-begins_with.false in
    let number = found_at number_field_at c.args.text.now 6 _ _ (begins_within _ _ begun) (rw c.in-Some.is at c.read_number_field.ensures) in
    let forced = sym (rw rest_of at c.begins_with-2.ensures) ∙ c.if-not-begins_with-2.false in
    let within : 6 + c.in-Some.n + 3 ≤ length c.args.text.now = omega (arith, begins_within _ _ forced, length-drop (6 + c.in-Some.n) c.args.text.now, number.within) in
    let supervisor = found_at supervisor_field_at c.args.text.now _ _ _ within (rw c.in-Some-read_supervisor.is at c.read_supervisor.ensures) in
    let additional = rw rest_of at (rw c.in-Some-read_additional.is at c.read_additional.ensures) in
    let reads = rw (← c.crew_allowed.ensures) at (notice_read_lem _ begun _ _ number forced _ _ supervisor _ additional.1 _ additional.2) in
    sym (ap notice_read (rw c.if-not-crew_allowed.true at reads))

pub returns : goal.returns
returns c =
    let begun = sym c.begins_with.ensures ∙ c.if-not-begins_with.false in
    let number = found_at number_field_at c.args.text.now 6 _ _ (begins_within _ _ begun) (rw c.in-Some.is at c.read_number_field.ensures) in
    let forced = sym (rw rest_of at c.begins_with-2.ensures) ∙ c.if-not-begins_with-2.false in
    let within : 6 + c.in-Some.n + 3 ≤ length c.args.text.now = omega (arith, begins_within _ _ forced, length-drop (6 + c.in-Some.n) c.args.text.now, number.within) in
    let supervisor = found_at supervisor_field_at c.args.text.now _ _ _ within (rw c.in-Some-read_supervisor.is at c.read_supervisor.ensures) in
    let additional = rw rest_of at (rw c.in-Some-read_additional.is at c.read_additional.ensures) in
    let reads = rw (← c.crew_allowed.ensures) at (notice_read_lem _ begun _ _ number forced _ _ supervisor _ additional.1 _ additional.2) in
    sym (ap notice_read (rw c.if-not-crew_allowed.false at reads))
