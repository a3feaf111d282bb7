-- The program in the memory that the code is lent. Assumes nothing.
use Rattle.std.specs.Prelude.{◌≡◌, ℕ, ◌+◌, ◌*◌, ◌≤◌, false, List, length, take}
use Rattle.rows.specs.Rows.{row_words}
use Rattle.tables.specs.Tables.{subscriber_words, full_table_words, full_list_words}
use Rattle.tables.specs.Figures.{recount}
use Rattle.states.specs.States.{State}
use Rattle.rules.specs.Answers.{Outcome}
use Rattle.lines.specs.declared.Progress.{Progress}
use Rattle.lines.specs.declared.Done.{Done}
use Rattle.lines.specs.Program.{Program, Effect, program_effect}
use Rattle.answers.specs.Writing.{Stands, over}
use Rattle.replies.specs.Replies.{behind_letter, answer_room}

-- a call's outcome: its table and figures, and what it says, written
pub record Answered (o : Outcome) (state : State) (old new : List ℕ) (n : ℕ) : Type 0 where
  pub leaves : state ≡ o.state
  pub says : Stands (behind_letter o.answer o.buffer) old n new
  pub short : n ≤ answer_room

-- ---- the program in memory

-- the program that the lent words hold: the rows in use, and what the code keeps beside them
abbrev pub program_in : Progress → List ℕ → List ℕ → Program
program_in s table list = record {
  table = take (row_words * s.numbers) table;
  list = take (subscriber_words * s.subscribers) list;
  filling = s.filling;
  delay = s.delay;
  fresh = s.fresh;
}

-- the state behind a line's coming
abbrev pub begun_in : Progress → Progress
begun_in s = record { numbers = s.numbers; subscribers = s.subscribers; filling = s.filling; delay = s.delay; fresh = false; figures = s.figures }

-- the rows in use are within the lent words, which have room for the most, and the figures are a recount of the table's rows
pub record Fits (s : Progress) (table list : List ℕ) : Type 0 where
  pub numbers : row_words * s.numbers ≤ length table
  pub subscribers : subscriber_words * s.subscribers ≤ length list
  pub table_room : full_table_words ≤ length table
  pub list_room : full_list_words ≤ length list
  pub figures : s.figures ≡ recount (take (row_words * s.numbers) table)

-- room for the longest line: the letter, the space, what follows them and the line feed
abbrev pub line_room : ℕ
line_room = 3 + answer_room

-- what a line did to table, list and output: what it leaves and prints stands at the front of each, what lies beyond stays, the figures are again a recount, and no row is given up
pub record Did (e : Effect) (s : Progress) (table list out : List ℕ) (d : Done) (newTable newList newOut : List ℕ) : Type 0 where
  pub numbers : Stands e.leaves.table table (row_words * d.state.numbers) newTable
  pub subscribers : Stands e.leaves.list list (subscriber_words * d.state.subscribers) newList
  pub filling : d.state.filling ≡ e.leaves.filling
  pub delay : d.state.delay ≡ e.leaves.delay
  pub fresh : d.state.fresh ≡ e.leaves.fresh
  pub figures : d.state.figures ≡ recount e.leaves.table
  pub printed : Stands e.prints out d.printed newOut
  pub more_numbers : s.numbers ≤ d.state.numbers
  pub more_subscribers : s.subscribers ≤ d.state.subscribers

-- a printed line, of which n octets stand before its line feed, leaves the rows as they are counted and the figures of its call, and ends the filling
abbrev pub ending : Progress → List ℕ → ℕ → Done
ending s figures n = record { state = record { numbers = s.numbers; subscribers = s.subscribers; filling = false; delay = s.delay; fresh = s.fresh; figures = figures }; printed = n + 1 }

-- ---- the whole input

-- "It reads at most 64 KiB"
abbrev pub most_input : ℕ
most_input = 65536

-- room for the octets of a string as long as that
abbrev pub packed_room : ℕ
packed_room = 57344

-- an output with room for every line that an input can have: each prints at most seven times its length with its line feed
abbrev pub output_room : ℕ → ℕ
output_room n = 7 * n + line_room

-- room for what the longest input prints
abbrev pub most_output : ℕ
most_output = output_room most_input

-- what is lent for an input
pub record Lent (input table list out : List ℕ) : Type 0 where
  pub short : length input ≤ most_input
  pub table_room : full_table_words ≤ length table
  pub list_room : full_list_words ≤ length list
  pub room : output_room (length input) ≤ length out

-- how many octets the whole input prints, and what table, list and output then hold
pub record Ran : Type 0 where
  pub count : ℕ
  pub table : List ℕ
  pub list : List ℕ
  pub out : List ℕ

abbrev pub ran : ℕ → List ℕ → List ℕ → List ℕ → Ran
ran n table list out = record { count = n; table = table; list = list; out = out }

unfoldable pub running : List ℕ → List ℕ → List ℕ → List ℕ → Ran
running input table list out =
    let e = program_effect input in
    ran (length e.prints) (over e.leaves.table table) (over e.leaves.list list) (over e.prints out)
