-- Each field is found in the rest behind the one before, and the first that is not ends the reading. Assumes nothing.
use Rattle.std.proofs.Common.{ℕ, sym, ◌∙◌, arith, length-drop}
use Rattle.answers.proofs.Parts.{rest_of}
use Rattle.strings.specs.Reader.{number_field_at, erasing_at}
use Rattle.strings.proofs.Cursor.{found_at, served_at, ended, no_operation, no_service, no_number, no_erasing, no_additional, no_crew, all_read, told_read}
use Rattle.strings.proofs.read_fields.Goals as goal

pub returns-in_default : goal.returns-in_default
returns-in_default c = ended _ (no_operation _ (rw c.in_default.is at c.read_operation.ensures))

pub returns-in_default-read_service : goal.returns-in_default-read_service
returns-in_default-read_service c =
    let operation = rw c.in-Some.is at c.read_operation.ensures in
    ended _ (no_service _ _ _ operation (rw rest_of at (rw c.in_default-read_service.is at c.read_service.ensures)))

pub returns-in_default-read_number_field : goal.returns-in_default-read_number_field
returns-in_default-read_number_field c =
    let operation = rw c.in-Some.is at c.read_operation.ensures in
    let service = served_at c.args.text.now _ _ operation.within (rw c.in-Some-read_service.is at c.read_service.ensures) in
    ended _ (no_number _ _ _ operation _ service (rw rest_of at (rw c.in_default-read_number_field.is at c.read_number_field.ensures)))

pub returns-in_default-read_erasing : goal.returns-in_default-read_erasing
returns-in_default-read_erasing c =
    let operation = rw c.in-Some.is at c.read_operation.ensures in
    let service = served_at c.args.text.now _ _ operation.within (rw c.in-Some-read_service.is at c.read_service.ensures) in
    let number = found_at number_field_at c.args.text.now _ _ _ service.within (rw c.in-Some-read_number_field.is at c.read_number_field.ensures) in
    ended _ (no_erasing _ _ _ operation _ service _ _ number (rw rest_of at (rw c.in_default-read_erasing.is at c.read_erasing.ensures)))

pub returns-in_default-read_additional : goal.returns-in_default-read_additional
returns-in_default-read_additional c =
    let operation = rw c.in-Some.is at c.read_operation.ensures in
    let service = served_at c.args.text.now _ _ operation.within (rw c.in-Some-read_service.is at c.read_service.ensures) in
    let number = found_at number_field_at c.args.text.now _ _ _ service.within (rw c.in-Some-read_number_field.is at c.read_number_field.ensures) in
    let erasing = found_at (erasing_at c.in-Some.operation) c.args.text.now _ _ _ number.within (rw c.in-Some-read_erasing.is at c.read_erasing.ensures) in
    ended _ (no_additional _ _ _ operation _ service _ _ number _ _ erasing (rw rest_of at (rw c.in_default-read_additional.is at c.read_additional.ensures)))

pub returns-then-not-crew_allowed : goal.returns-then-not-crew_allowed
returns-then-not-crew_allowed c =
    let operation = rw c.in-Some.is at c.read_operation.ensures in
    let service = served_at c.args.text.now _ _ operation.within (rw c.in-Some-read_service.is at c.read_service.ensures) in
    let number = found_at number_field_at c.args.text.now _ _ _ service.within (rw c.in-Some-read_number_field.is at c.read_number_field.ensures) in
    let erasing = found_at (erasing_at c.in-Some.operation) c.args.text.now _ _ _ number.within (rw c.in-Some-read_erasing.is at c.read_erasing.ensures) in
    let additional = rw rest_of at (rw c.in-Some-read_additional.is at c.read_additional.ensures) in
    let crew = sym c.crew_allowed.ensures ∙ c.if-not-crew_allowed.true in
    ended _ (no_crew _ _ _ operation _ service _ _ number _ _ erasing _ additional.1 (rw additional.2 at crew))

pub returns : goal.returns
returns c =
    let operation = rw c.in-Some.is at c.read_operation.ensures in
    let service = served_at c.args.text.now _ _ operation.within (rw c.in-Some-read_service.is at c.read_service.ensures) in
    let number = found_at number_field_at c.args.text.now _ _ _ service.within (rw c.in-Some-read_number_field.is at c.read_number_field.ensures) in
    let erasing = found_at (erasing_at c.in-Some.operation) c.args.text.now _ _ _ number.within (rw c.in-Some-read_erasing.is at c.read_erasing.ensures) in
    let additional = rw rest_of at (rw c.in-Some-read_additional.is at c.read_additional.ensures) in
    let crew = sym c.crew_allowed.ensures ∙ c.if-not-crew_allowed.false in
    let all = all_read _ _ _ operation _ service _ _ number _ _ erasing _ additional.1 (rw additional.2 at crew) in
    told_read _ _ all (omega (arith, additional.0, length-drop {A = ℕ}, erasing.within)) additional.2
