-- Assumes nothing.
use Rattle.rows.proofs.Rows.{record_sound_lem}
use Rattle.states.specs.Lent.{state_in}
use Rattle.states.proofs.States.{state_row}
use Rattle.states.proofs.Lent.load.Goals as goal

pub load-requires-clause-row_value : goal.load-requires-clause-row_value
load-requires-clause-row_value c = state_row (state_in c.args.self.now) c.args.row c.requires.0 c.requires.1

pub returns-clause-sound : goal.returns-clause-sound
returns-clause-sound c = rw c.load.ensures (record_sound_lem _ _ (state_row (state_in c.args.self.now) c.args.row c.requires.0 c.requires.1))
