use Rattle.std.proofs.Common.{rules}
use Rattle.records.specs.Steps.{elapsed}
use Rattle.records.proofs.elapsed.Statement.{statement}
use Rattle.records.proofs.elapsed.Tie as tie

wrapping_sub_u32-requires : tie.Need-wrapping_sub_u32-requires
wrapping_sub_u32-requires c κs = search rules

returns : tie.Need-returns
unfolding elapsed
returns c = search rules

pub elapsed_spec : {M : Type 1} → statement M
elapsed_spec = tie.close (tie.spec wrapping_sub_u32-requires returns)
