use Rattle.std.proofs.Common.{arith, ◌∙◌, sym, refl}
use Rattle.std.proofs.lemmas.Result.{err_from_is_err_and}
use Rattle.states.specs.States.{beside}
use Rattle.states.proofs.States.{state_table, state_passes}
use Rattle.image.proofs.Images.{length_image}
use Rattle.image.proofs.Writing.{size_fits, refuses_list, refuses_state, refuses_room, writes_image}
use Rattle.image.proofs.write_image.Goals as goal

pub returns-then-not-list_sound : goal.returns-then-not-list_sound
returns-then-not-list_sound c =
    let a = c.args in
    refuses_list (beside a.table.now a.figures.now) a.list.now a.out.now (sym c.list_sound.ensures ∙ c.if-not-list_sound.true)

pub returns-in_err-check : goal.returns-in_err-check
returns-in_err-check c =
    let a = c.args in
    let (y, e, q) = err_from_is_err_and c.from_residual.result c.from_residual.ensures.1 in
    rw (e, q) (refuses_state (beside a.table.now a.figures.now) a.list.now a.out.now (sym c.list_sound.ensures ∙ c.if-not-list_sound.false) _ c.in_err-check.ensures)

pub overflow_add-size-2 : goal.overflow_add-size-2
overflow_add-size-2 c =
    let a = c.args in
    omega (arith, size_fits a.table.now a.list.now (state_table _ (state_passes (beside a.table.now a.figures.now) 0 c.in_ok-check.ensures refl)) (sym c.list_sound.ensures ∙ c.if-not-list_sound.false))

pub returns-then-out-size : goal.returns-then-out-size
returns-then-out-size c =
    let a = c.args in
    refuses_room (beside a.table.now a.figures.now) a.list.now a.out.now (sym c.list_sound.ensures ∙ c.if-not-list_sound.false) (state_passes (beside a.table.now a.figures.now) 0 c.in_ok-check.ensures refl) (omega (arith, c.if-out-size.true, length_image a.table.now a.list.now))

pub put_image-requires : goal.put_image-requires
put_image-requires c = omega (arith, c.if-out-size.false, length_image c.args.table.now c.args.list.now)

pub returns : goal.returns
returns c =
    let a = c.args in
    writes_image (beside a.table.now a.figures.now) a.list.now a.out.now (sym c.list_sound.ensures ∙ c.if-not-list_sound.false) (state_passes (beside a.table.now a.figures.now) 0 c.in_ok-check.ensures refl) _ _ (omega (arith, c.if-out-size.false, length_image a.table.now a.list.now)) c.put_image.ensures
