-- A helper: how a scan of many rows tests one, the start of the length that it saw last telling most holders; proved equal to `row_sound` (proofs/Starts). Assumes nothing.
use Rattle.std.specs.Prelude.{ℕ, Bool, cond, ◌&&◌, ◌||◌, List, eqb}
use Rattle.numbers.specs.Least.{least_for, is_from}
use Rattle.rows.specs.declared.Words.{Words}
use Rattle.rows.specs.Rows.{addressee_at, supervisor_at, words_at, parties_sound, notice_by, closed_sound}

-- the start by which a holder is tested: one that was found before, where that tells already, else the least number as long as she is
unfoldable pub holder_start : ℕ → ℕ → ℕ
holder_start near holder = cond (eqb holder 0 || is_from near holder) near (least_for holder)

-- what stands behind a row's number, the holder by a start
abbrev pub rest_by : ℕ → Bool → Words → Bool
rest_by start parties w =
    (eqb w.holder 0 || is_from start w.holder)
    && (notice_by parties w.phase w.addressee w.supervisor w.second && closed_sound w.closed)

-- of row i
unfoldable pub rest_from : ℕ → List ℕ → ℕ → Bool
rest_from start t i = rest_by start (parties_sound (addressee_at t i) (supervisor_at t i)) (words_at t i)

-- addressee and supervisor by the same start; a notice from the terminal is not told so
unfoldable pub near_from : ℕ → List ℕ → ℕ → Bool
near_from start t i = rest_by start (is_from start (addressee_at t i) && is_from start (supervisor_at t i)) (words_at t i)
