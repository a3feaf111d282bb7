-- "returns the lowest due number, or none exactly if none is due", by every row at once: a second definition, proved of `finding`, which goes from row to row (proofs/Finding). Assumes nothing.
use Rattle.std.specs.Prelude.{◌≡◌, Bool, true, false, List, ℕ, ◌≤◌, ◌<◌}
use Rattle.records.specs.Steps.{is_due}
use Rattle.rows.specs.Rows.{number_at, record_at}
use Rattle.tables.specs.Tables.{rows_in}

module _ (table : List ℕ) (delay clock : ℕ) where
  -- the notice of row i is due
  abbrev pub due_at : ℕ → Bool
  due_at i = is_due delay clock (record_at table i).notice

  -- k is the number of a row whose notice is due, and every row with a due notice has a number at least k
  pub record LowestDue (k : ℕ) : Type 0 where
    pub row : ℕ
    pub within : row < rows_in table
    pub number : number_at table row ≡ k
    pub due : due_at row ≡ true
    pub lowest : (i : ℕ) → i < rows_in table → due_at i ≡ true → k ≤ number_at table i

  -- no row's notice is due
  abbrev pub NothingDue : Type 0
  NothingDue = (i : ℕ) → i < rows_in table → due_at i ≡ false
