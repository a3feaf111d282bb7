-- Field behind field, each in the room that is left. Assumes nothing.
use Rattle.std.proofs.Common.{length, arith, leb-true}
use Rattle.answers.proofs.Parts.{stands_room, stands_behind}
use Rattle.strings.specs.Text.{request_from, most_additional}
use Rattle.strings.proofs.Text.{text_grows, before_erasing_lem, before_additional_lem}
use Rattle.writers.proofs.Request.write_text.Goals as goal

pub put_erasing-requires-clause-most_digits_in_bounds : goal.put_erasing-requires-clause-most_digits_in_bounds
put_erasing-requires-clause-most_digits_in_bounds c =
    let two = stands_behind c.put_operation-at.ensures c.put_number.ensures in
    omega (arith, stands_room two, two.count, before_erasing_lem (request_from c.args.self.operation c.args.self.number c.args.self.erasing c.args.self.additional.now) c.requires.writable)

pub put_additional-requires : goal.put_additional-requires
put_additional-requires c =
    let three = stands_behind (stands_behind c.put_operation-at.ensures c.put_number.ensures) c.put_erasing.ensures in
    omega (arith, stands_room three, three.count, before_additional_lem (request_from c.args.self.operation c.args.self.number c.args.self.erasing c.args.self.additional.now) c.requires.writable, leb-true (length c.args.self.additional.now) most_additional c.requires.writable.few)

pub returns : goal.returns
returns c =
    let three = stands_behind (stands_behind c.put_operation-at.ensures c.put_number.ensures) c.put_erasing.ensures in
    rw (text_grows (request_from c.args.self.operation c.args.self.number c.args.self.erasing c.args.self.additional.now)) (stands_behind three c.put_additional.ensures)
