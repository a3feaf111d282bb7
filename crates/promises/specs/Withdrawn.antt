-- Document 02, M-110: a closed number along a list of calls. Assumes nothing.
use Rattle.std.specs.Prelude.{◌≡◌, ◌⊎◌, Bool, true, false, ℕ}
use Rattle.std.proofs.Math.Option.{Option, none, some}
use Rattle.records.specs.declared.Record.{Record}
use Rattle.records.specs.Steps.{has_run_out}
use Rattle.states.specs.States.{State, record_for}
use Rattle.rules.specs.Requests.{is_closed}
use Rattle.rules.specs.Demand.{holder_of}

-- "closed rows with no holder and no notice"
abbrev pub run_out : Option Record → Bool
run_out none = false
run_out (some r) = has_run_out r

-- from one state to another: the number k stays closed, "never gets a new holder", and once it has neither holder nor notice nothing changes it
pub record Withdrawn (k : ℕ) (before after : State) : Type 0 where
  pub closed : is_closed (record_for after k) ≡ true
  pub holder : (holder_of after k ≡ holder_of before k) ⊎ (holder_of after k ≡ 0)
  pub unchanged : run_out (record_for before k) ≡ true → record_for after k ≡ record_for before k
