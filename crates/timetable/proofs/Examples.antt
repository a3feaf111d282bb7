-- Four numbers and two words behind them, worked out: one is closed, one is taken out, it is added again, and each refusal has a neighbour. Assumes nothing.
use mathlib.Core.Path.{◌≡◌, refl}
use mathlib.Core.List.{List, [], ◌∷◌, ◌++◌}
use Prim.Native.Nat.{ℕ}
use lib.ListN.{take}
use Rattle.numbers.specs.Numbers.{is_number}
use Rattle.records.specs.Steps.{has_run_out}
use Rattle.rows.specs.Rows.{notice_up_to, row_up_to, notice_of, record_at, stored}
use Rattle.tables.specs.Keys.{place_of}
use Rattle.tables.specs.Tables.{table_up_to, row_of}
use Rattle.tables.specs.Figures.{recount}
use Rattle.states.specs.States.{beside, figures_right}
use Rattle.timetable.specs.Moving.{goes, compacted, inserted}
use Rattle.timetable.specs.Timetable.{refusal, shut, went, rows, leaving, closing_number, compacting, adding}

-- closed, and held
abbrev held : List ℕ
held = 110001 ∷ 14915100001 ∷ 0 ∷ 0 ∷ 0 ∷ 0 ∷ 1 ∷ []

-- closed, with a notice
abbrev noticed : List ℕ
noticed = 110002 ∷ 0 ∷ 1 ∷ 14915100001 ∷ 14915100002 ∷ 0 ∷ 1 ∷ []

-- closed, with neither
abbrev idle : List ℕ
idle = 110003 ∷ 0 ∷ 0 ∷ 0 ∷ 0 ∷ 0 ∷ 1 ∷ []

-- open, with neither
abbrev free : List ℕ
free = 110004 ∷ 0 ∷ 0 ∷ 0 ∷ 0 ∷ 0 ∷ 0 ∷ []

-- words behind that are no row
abbrev behind : List ℕ
behind = 77 ∷ 78 ∷ []

abbrev four : List ℕ
four = held ++ noticed ++ idle ++ free

abbrev buffer : List ℕ
buffer = four ++ behind

-- one held, one waiting, none in flight
abbrev figures : List ℕ
figures = 1 ∷ 1 ∷ 0 ∷ []

-- ---- closing

pub example_close : closing_number (beside four figures) 110004 ≡ leaving shut (held ++ noticed ++ idle ++ (110004 ∷ 0 ∷ 0 ∷ 0 ∷ 0 ∷ 0 ∷ 1 ∷ []))
unfolding is_number notice_up_to row_up_to notice_of record_at stored place_of table_up_to row_of recount figures_right closing_number
example_close = refl

-- the holder stays: here she does, in a row closed before
pub example_again : closing_number (beside four figures) 110001 ≡ leaving shut four
unfolding is_number notice_up_to row_up_to notice_of record_at stored place_of table_up_to row_of recount figures_right closing_number
example_again = refl

-- 2, 10, 7, 52
pub close_unsound : closing_number (beside buffer figures) 110004 ≡ leaving (refusal 2) buffer
unfolding is_number notice_up_to row_up_to table_up_to closing_number
close_unsound = refl

pub close_figures : closing_number (beside four (1 ∷ 0 ∷ 0 ∷ [])) 110004 ≡ leaving (refusal 10) four
unfolding is_number notice_up_to row_up_to table_up_to recount figures_right closing_number
close_figures = refl

pub close_malformed : closing_number (beside four figures) 99999 ≡ leaving (refusal 7) four
unfolding is_number notice_up_to row_up_to table_up_to recount figures_right closing_number
close_malformed = refl

pub close_missing : closing_number (beside four figures) 110005 ≡ leaving (refusal 52) four
unfolding is_number notice_up_to row_up_to place_of table_up_to row_of recount figures_right closing_number
close_missing = refl

-- ---- compacting: the idle row goes, those held, with a notice or open stay, and the words behind too

abbrev three : List ℕ
three = held ++ noticed ++ free ++ (0 ∷ 0 ∷ 0 ∷ 0 ∷ 0 ∷ 0 ∷ 0 ∷ []) ++ behind

pub example_compact : compacting buffer 4 figures ≡ leaving (went 1 3) three
unfolding is_number has_run_out notice_up_to row_up_to notice_of record_at table_up_to recount figures_right goes compacted compacting
example_compact = refl

-- nothing more goes
pub example_twice : compacting three 3 figures ≡ leaving (went 0 3) three
unfolding is_number has_run_out notice_up_to row_up_to notice_of record_at table_up_to recount figures_right goes compacted compacting
example_twice = refl

-- 2: five rows of a buffer for four; a count whose product with seven is 5 modulo 2^64, in five words
pub compact_beyond : compacting buffer 5 figures ≡ leaving (refusal 2) buffer
unfolding compacting
compact_beyond = refl

pub compact_wraps : compacting (take 5 held) 2635249153387078803 figures ≡ leaving (refusal 2) (take 5 held)
unfolding compacting
compact_wraps = refl

pub compact_figures : compacting buffer 3 (1 ∷ 0 ∷ 0 ∷ []) ≡ leaving (refusal 10) buffer
unfolding is_number notice_up_to row_up_to table_up_to recount figures_right compacting
compact_figures = refl

-- ---- adding: the freed row is used again, for the same number, which is open now

pub example_add : adding three 3 figures 110003 ≡ leaving (rows 4) (held ++ noticed ++ (110003 ∷ 0 ∷ 0 ∷ 0 ∷ 0 ∷ 0 ∷ 0 ∷ []) ++ free ++ behind)
unfolding is_number notice_up_to row_up_to place_of table_up_to row_of recount figures_right inserted adding
example_add = refl

-- as the first number of all
pub example_first : adding (free ++ behind) 0 (0 ∷ 0 ∷ 0 ∷ []) 110000 ≡ leaving (rows 1) (110000 ∷ 0 ∷ 0 ∷ 0 ∷ 0 ∷ 0 ∷ 0 ∷ 77 ∷ 78 ∷ [])
unfolding is_number notice_up_to row_up_to place_of table_up_to row_of recount figures_right inserted adding
example_first = refl

-- 2, 10, 7
pub add_beyond : adding buffer 5 figures 110005 ≡ leaving (refusal 2) buffer
unfolding adding
add_beyond = refl

pub add_figures : adding three 3 (1 ∷ 0 ∷ 0 ∷ []) 110003 ≡ leaving (refusal 10) three
unfolding is_number notice_up_to row_up_to table_up_to recount figures_right adding
add_figures = refl

pub add_malformed : adding three 3 figures 99999 ≡ leaving (refusal 7) three
unfolding is_number notice_up_to row_up_to table_up_to recount figures_right adding
add_malformed = refl

-- 51 for a closed number too, and before 50: the buffer is full
pub add_present : adding buffer 4 figures 110003 ≡ leaving (refusal 51) buffer
unfolding is_number notice_up_to row_up_to place_of table_up_to row_of recount figures_right adding
add_present = refl

pub add_full : adding buffer 4 figures 110005 ≡ leaving (refusal 50) buffer
unfolding is_number notice_up_to row_up_to place_of table_up_to row_of recount figures_right adding
add_full = refl
