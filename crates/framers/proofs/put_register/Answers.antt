-- `framers::put_register` meets its contract: the header, the component behind it and the SS version behind that. Assumes nothing.
use Rattle.std.proofs.Common.{◌≡◌, ◌+◌, length, arith}
use Rattle.answers.proofs.Parts.{stands_room, stands_behind}
use Rattle.strings.specs.Text.{coding_scheme}
use Rattle.frames.specs.Components.{invoke}
use Rattle.frames.proofs.Lengths.{invoke_length}
use Rattle.framers.proofs.Heads.{register_is}
use Rattle.framers.proofs.put_register.Goals as goal

pub put-requires : goal.put-requires
put-requires c =
    let x = c.args.string.now in
    let l = invoke_length c.args.number coding_scheme x (omega (arith, c.requires.0)) in
    omega (arith, c.requires.0, c.requires.1, stands_room (stands_behind c.put_header-at.ensures c.put_invoke.ensures), c.put_header-at.ensures.count, c.put_invoke.ensures.count)

pub returns : goal.returns
returns c =
    let x = c.args.string.now in
    let l : length (invoke c.args.number coding_scheme x) ≡ length x + 15 = omega (arith, invoke_length c.args.number coding_scheme x (omega (arith, c.requires.0))) in
    rw (register_is c.args.first c.args.number _ x l) (stands_behind (stands_behind c.put_header-at.ensures c.put_invoke.ensures) c.put.ensures)
