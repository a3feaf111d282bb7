-- `lines::question` meets its contract. Assumes nothing.
use mathlib.Core.Path.{refl}
use native.Mathlib.Omega.{arith}
use Rattle.lines.proofs.Memory.{put_kept}
use borrow.Author.Rules.{rules}
use Rattle.lines.proofs.question.Statement.{statement}
use Rattle.lines.proofs.question.Tie as tie

put-printed-requires : tie.Need-put-printed-requires
put-printed-requires c κs = search rules

shape_of-out : tie.Need-shape_of-out
shape_of-out c = search rules

returns : tie.Need-returns
returns c = λ table list s.
    record { numbers = put_kept _ table s.numbers; subscribers = put_kept _ list s.subscribers; filling = refl; delay = refl; fresh = refl; figures = s.figures; printed = c.put-printed.ensures; more_numbers = omega arith; more_subscribers = omega arith }

pub question_spec : {M : Type 1} → statement M
question_spec = tie.close (tie.spec put-printed-requires shape_of-out returns)
