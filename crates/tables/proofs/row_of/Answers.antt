-- Assumes nothing.
use Rattle.tables.specs.Tables.{row_of}
use Rattle.tables.proofs.Sound.{table_ascends}
use Rattle.tables.proofs.row_of.Goals as goal

pub place_of-requires-clause-width_value : goal.place_of-requires-clause-width_value
place_of-requires-clause-width_value c = table_ascends _ c.requires

pub returns : goal.returns
unfolding row_of
returns c = c.place_of.ensures
