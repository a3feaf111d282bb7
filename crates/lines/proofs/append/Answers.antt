use Rattle.std.proofs.Common.{◌≡◌, ◌≤◌, ◌+◌, ◌*◌, length, sym, ◌∙◌, arith}
use Rattle.lines.proofs.Memory.{room_behind}
use Rattle.lines.proofs.append.Goals as goal

pub slice_bounds-copy_from_slice-end : goal.slice_bounds-copy_from_slice-end
slice_bounds-copy_from_slice-end c =
    let a = c.args in
    let h = room_behind (length a.row.now) a.most _ a.rows a.words.now c.requires.row_in_bounds c.requires.rows_in_bounds.0 (sym c.may_follow.ensures ∙ c.if-not-may_follow.false) in
    let e : length a.row.now * (a.rows + 1) ≡ length a.row.now * a.rows + length a.row.now = grind arith in
    let k : length a.row.now * a.rows + length a.row.now ≤ length a.words.now = omega (arith, h, e, c.requires.rows_in_bounds.1) in
    k
