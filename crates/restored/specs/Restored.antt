-- Document 02, M-109: "Restoring ends demand 3's and M-108's lists; new ones start from the image's table". Assumes nothing.
use Rattle.std.specs.Prelude.{◌≡◌, true, List, ℕ, ◌*◌, take}
use Rattle.rows.specs.Rows.{row_words}
use Rattle.tables.specs.Tables.{subscriber_words, list_sound}
use Rattle.tables.specs.Figures.{figure_count}
use Rattle.states.specs.States.{State, beside, counted, state_sound}
use Rattle.image.specs.Images.{SaidRead, RestoreOutcome, table_in, list_in}
use Rattle.rules.specs.Run.{end, log}
use Rattle.rules.specs.Calls.{Call, call}
use Rattle.rules.specs.Demand.{Demand3}
use Rattle.promises.specs.Accounts.{pending_in, Balanced, Accounted}

-- what a reading leaves in use, where it answered n rows of the table and m of the list: table and figures, and the list
abbrev pub state_left : RestoreOutcome SaidRead → ℕ → State
state_left o n = beside (take (row_words * n) o.table) (take figure_count o.figures)

abbrev pub list_left : RestoreOutcome SaidRead → ℕ → List ℕ
list_left o m = take (subscriber_words * m) o.list

-- what lists of calls that start from a state are promised, whatever the delay
pub record Starts (list : List ℕ) (state : State) : Type 0 where
  pub sound_list : list_sound list ≡ true
  pub sound_state : state_sound state ≡ true
  pub demand3 : (delay : ℕ) → Demand3 list delay state
  pub accounted : (delay : ℕ) (calls : List Call) → Accounted list delay calls state

-- an accepted image: what it leaves is what it holds, with the figures of a recount, and new lists start from it
pub record FromImage (image : List ℕ) (o : RestoreOutcome SaidRead) (n m : ℕ) : Type 0 where
  pub state : state_left o n ≡ counted (table_in image)
  pub list : list_left o m ≡ list_in image
  pub starts : Starts (list_left o m) (state_left o n)
  -- "M-108 counting each notice in it as a forced erasure of its addressee": the equation with the notices of the image's table; whom they tell is in `accounted`, `sent_to_lem`
  pub balanced :
      (delay : ℕ) (calls : List Call)
      → Balanced (log (call (list_left o m) delay) calls (state_left o n)) (pending_in (counted (table_in image))) (pending_in (end (call (list_left o m) delay) calls (state_left o n)))
