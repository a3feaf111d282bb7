use Rattle.std.proofs.Common.{◌∙◌, rules}
use Rattle.numbers.proofs.Least.{starts_for, least_tells}
use Rattle.numbers.proofs.is_number.Statement.{statement}
use Rattle.numbers.proofs.is_number.Tie as tie

least_for-requires : tie.Need-least_for-requires
least_for-requires c κs = search rules

is_from-requires : tie.Need-is_from-requires
is_from-requires c κs = rw c.least_for.ensures (starts_for _).small

returns : tie.Need-returns
returns c =
    c.is_from.ensures ∙ rw c.least_for.ensures (least_tells c.args.word)

pub is_number_spec : {M : Type 1} → statement M
is_number_spec = tie.close (tie.spec least_for-requires is_from-requires returns)
