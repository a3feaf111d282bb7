-- Document 02, M-110: two lists of calls with a closing, a compacting or an adding between them, and M-108's equation over both. Assumes nothing.
use Rattle.std.specs.Prelude.{◌≡◌, List, ◌++◌, ℕ}
use Rattle.states.specs.States.{State}
use Rattle.rules.specs.Run.{log, end}
use Rattle.rules.specs.Calls.{Call, Reply, call}
use Rattle.rules.specs.Demand.{got_by}
use Rattle.promises.specs.Accounts.{pending_for, pending_in, Balanced}

-- as many notices are pending after it as before, of all numbers and of each
pub record Unbroken (before after : State) : Type 0 where
  pub all : pending_in after ≡ pending_in before
  pub each : (k : ℕ) → pending_for after k ≡ pending_for before k

-- calls from `start` on, and more calls from `next` on
module _ (list : List ℕ) (delay : ℕ) (calls : List Call) (start : State) (more : List Call) (next : State) where
  abbrev pub both : List (Call × Reply)
  both = log (call list delay) calls start ++ log (call list delay) more next

  abbrev last : State
  last = end (call list delay) more next

  -- M-108's equation, over both lists
  pub record Across : Type 0 where
    pub all_numbers : Balanced both (pending_in start) (pending_in last)
    pub each_number : (k : ℕ) → Balanced (got_by list k both) (pending_for start k) (pending_for last k)
