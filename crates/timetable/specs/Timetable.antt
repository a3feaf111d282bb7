-- Document 02, M-110, "Withdrawing numbers and reusing their rows": what closing, compacting and adding answer and leave, for every input. Assumes nothing.
use Rattle.std.specs.Prelude.{ℕ, ◌+◌, ◌-◌, ◌*◌, Bool, true, false, not, ◌||◌, List, [], ◌∷◌, ◌++◌, map, length, take, ltb, leb, Some, None, Result, Ok, Err}
use Rattle.answers.specs.Checks.{decide}
use Rattle.answers.specs.Numbers.{refusal_number}
use Rattle.answers.specs.declared.Refusal.{Refusal}
use Rattle.numbers.specs.Numbers.{is_number}
use Rattle.records.specs.Steps.{closing}
use Rattle.rows.specs.Rows.{row_words, record_at, stored}
use Rattle.tables.specs.Keys.{Found}
use Rattle.tables.specs.Tables.{most_numbers, rows_in, row_of}
use Rattle.states.specs.States.{State, beside, state_checks}
use Rattle.timetable.specs.declared.Compacted.{Compacted}
use Rattle.timetable.specs.Moving.{stay, compacted, inserted}

-- ---- what is said, and what is left

-- in the paper's words: a refusal by its number; closed; how many rows went and how many are in use; how many are in use
pub data Said : Type 0 where
  refusal : ℕ → Said
  shut : Said
  went : ℕ → ℕ → Said
  rows : ℕ → Said

-- what was said, and the lent words afterwards; the figures are lent to be read
pub record Outcome : Type 0 where
  pub answer : Said
  pub words : List ℕ

abbrev pub leaving : Said → List ℕ → Outcome
leaving answer words = record { answer = answer; words = words }

-- a refusal changes nothing
abbrev pub untouched : List ℕ → Bool × ℕ → Bool × Outcome
untouched words check = (check.0, leaving (refusal check.1) words)

-- ---- checks

-- the rows in use
abbrev pub in_use : List ℕ → ℕ → List ℕ
in_use words used = take (row_words * used) words

-- "Both are lent a buffer and the count of rows in use (2 if beyond it)"
abbrev pub buffer_checks : List ℕ → ℕ → List ℕ → List (Bool × ℕ)
buffer_checks words used figures = (ltb (rows_in words) used, 2) ∷ state_checks (beside (in_use words used) figures)

-- "7 for a malformed number"
abbrev pub number_checks : ℕ → List (Bool × ℕ)
number_checks number = (not (is_number number), 7) ∷ []

abbrev pub is_there : Found → Bool
is_there (Some i) = true
is_there None = false

-- ---- closing

-- "then 52 for closing one that isn't there"
abbrev pub closing_checks : State → ℕ → List (Bool × ℕ)
closing_checks s number = state_checks s ++ number_checks number ++ ((not (is_there (row_of s.table number)), 52) ∷ [])

-- "Closing a number keeps its holder, forbids new registration, and lets erasure and notices run out"
abbrev pub closed_in : List ℕ → Found → List ℕ
closed_in t (Some i) = stored t i (closing (record_at t i))
closed_in t None = t

unfoldable pub closing_number : State → ℕ → Outcome
closing_number s number = decide (map (untouched s.table) (closing_checks s number)) (leaving shut (closed_in s.table (row_of s.table number)))

-- what the code's answer says in the paper's words
abbrev pub said_close : Result Unit Refusal → Said
said_close (Err r) = refusal (refusal_number r)
said_close (Ok _) = shut

abbrev pub made_close : Result Unit Refusal → List ℕ → Outcome
made_close r words = leaving (said_close r) words

-- ---- compacting

-- "for compacting 2, 10". "Compacting removes closed rows with no holder and no notice, keeps the rest in order, and reports how many went"; it returns the count
unfoldable pub compacting : List ℕ → ℕ → List ℕ → Outcome
compacting words used figures =
    decide (map (untouched words) (buffer_checks words used figures))
    (leaving (went (used - length (stay used words)) (length (stay used words))) (compacted used words))

abbrev pub said_compact : Result Compacted Refusal → Said
said_compact (Err r) = refusal (refusal_number r)
said_compact (Ok it) = went it.gone it.used

abbrev pub made_compact : Result Compacted Refusal → List ℕ → Outcome
made_compact r words = leaving (said_compact r) words

-- ---- adding

-- "51 for adding one already present, 50 for adding to 1,024 rows or a full buffer"
abbrev pub place_checks : List ℕ → ℕ → ℕ → List (Bool × ℕ)
place_checks words used number = (is_there (row_of (in_use words used) number), 51) ∷ (leb most_numbers used || leb (rows_in words) used, 50) ∷ []

abbrev pub adding_checks : List ℕ → ℕ → List ℕ → ℕ → List (Bool × ℕ)
adding_checks words used figures number = buffer_checks words used figures ++ number_checks number ++ place_checks words used number

-- "Adding puts an open number without holder in its place; freed rows are used again"; it returns the count
unfoldable pub adding : List ℕ → ℕ → List ℕ → ℕ → Outcome
adding words used figures number =
    decide (map (untouched words) (adding_checks words used figures number)) (leaving (rows (used + 1)) (inserted number used words))

abbrev pub said_add : Result ℕ Refusal → Said
said_add (Err r) = refusal (refusal_number r)
said_add (Ok n) = rows n

abbrev pub made_add : Result ℕ Refusal → List ℕ → Outcome
made_add r words = leaving (said_add r) words

-- ---- what is left

-- so many rows are in use afterwards
abbrev pub used_after : ℕ → Said → ℕ
used_after used (refusal n) = used
used_after used shut = used
used_after used (went gone n) = n
used_after used (rows n) = n

-- the rows in use afterwards, with the figures
abbrev pub rows_left : ℕ → List ℕ → Outcome → State
rows_left used figures o = beside (in_use o.words (used_after used o.answer)) figures

-- ---- what the parts of the code say

-- what is wrong with the rows in use: 2, 10, or 0 for nothing
unfoldable pub buffer_refusal : List ℕ → ℕ → List ℕ → ℕ
buffer_refusal words used figures = decide (buffer_checks words used figures) 0
