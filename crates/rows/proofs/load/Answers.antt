use Rattle.rows.specs.Rows.{phase_at, addressee_at, supervisor_at, second_at, record_at}
use Rattle.rows.proofs.Notices.{notice_bounds}
use Rattle.rows.proofs.Rows.{sound_row}
use Rattle.rows.proofs.load.Goals as goal

pub notice_of-requires-clause-phase_le_last_phase : goal.notice_of-requires-clause-phase_le_last_phase
notice_of-requires-clause-phase_le_last_phase c =
    let t = c.args.table.now in
    let i = c.args.row in
    rw c.words_at-words.ensures (notice_bounds (phase_at t i) (addressee_at t i) (supervisor_at t i) (second_at t i) (sound_row t i c.requires.row_value).notice).0

pub notice_of-requires-clause-second_bound : goal.notice_of-requires-clause-second_bound
notice_of-requires-clause-second_bound c =
    let t = c.args.table.now in
    let i = c.args.row in
    rw c.words_at-words.ensures (notice_bounds (phase_at t i) (addressee_at t i) (supervisor_at t i) (second_at t i) (sound_row t i c.requires.row_value).notice).1

pub returns : goal.returns
unfolding record_at
returns c = rw (c.notice_of.ensures, c.words_at-words.ensures)
