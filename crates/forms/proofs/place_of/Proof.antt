-- `forms::place_of` meets its contract: the whole part is searched. Assumes nothing.
use mathlib.Core.Path.{◌∙◌}
use native.Mathlib.Omega.{arith}
use borrow.Author.Rules.{rules}
use Rattle.forms.proofs.Places.{whole_slice}
use Rattle.forms.proofs.place_of.Statement.{statement}
use Rattle.forms.proofs.place_of.Tie as tie

find-requires : tie.Need-find-requires
find-requires c κs = search rules

returns : tie.Need-returns
returns c = (rw whole_slice at c.find.ensures.0 ∙ omega arith, c.find.ensures.1)

pub place_of_spec : {M : Type 1} → statement M
place_of_spec = tie.close (tie.spec find-requires returns)
