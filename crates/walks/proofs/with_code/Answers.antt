use mathlib.Core.Path.{refl}
use Rattle.walks.proofs.Tallies.{one_more}
use Rattle.walks.proofs.with_code.Goals as goal

pub returns : goal.returns
returns c =
    (refl, λ l h. rw c.two_digits.ensures (one_more c.args.codes c.args.code l c.requires.0 c.requires.1 h))
