-- `walks::no_codes` meets its contract. Assumes nothing.
use mathlib.Core.Path.{refl}
use Rattle.answers.specs.Leading.{each}
use Rattle.walks.proofs.no_codes.Statement.{statement}
use Rattle.walks.proofs.no_codes.Tie as tie

returns : tie.Need-returns
unfolding each
returns c = record { room = refl; count = refl; text = refl; digits = refl }

pub no_codes_spec : {M : Type 1} → statement M
no_codes_spec = tie.close (tie.spec returns)
