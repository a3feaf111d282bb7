-- Document 02, M-103: "Store the three counts beside the table": table and figures together, as every call takes and leaves them. Assumes nothing.
use Rattle.std.specs.Prelude.{ℕ, ◌+◌, ◌-◌, ◌^◌, ◌≤◌, ◌<◌, Bool, true, false, not, ◌&&◌, List, [], ◌∷◌, get_or, eqb, Result, Ok, Err}
use Rattle.std.proofs.Math.Option.{Option}
use Rattle.answers.specs.Checks.{decide}
use Rattle.answers.specs.Numbers.{refusal_number}
use Rattle.answers.specs.declared.Refusal.{Refusal}
use Rattle.numbers.specs.Numbers.{is_nobody}
use Rattle.records.specs.declared.Record.{Record}
use Rattle.records.specs.Steps.{is_waiting, is_in_flight}
use Rattle.rows.specs.Rows.{record_at, stored, one}
use Rattle.tables.specs.Keys.{Found}
use Rattle.tables.specs.Tables.{table_sound, row_of, record_found, record_of}
use Rattle.tables.specs.Figures.{recount}

pub record State : Type 0 where
  pub table : List ℕ
  pub figures : List ℕ

abbrev pub beside : List ℕ → List ℕ → State
beside table figures = record { table = table; figures = figures }

-- a table with the figures that a recount of it gives
abbrev pub counted : List ℕ → State
counted table = beside table (recount table)

-- ---- right figures

-- the same words, and as many
abbrev pub same_words : List ℕ → List ℕ → Bool
same_words [] [] = true
same_words [] (w ∷ ws) = false
same_words (v ∷ vs) [] = false
same_words (v ∷ vs) (w ∷ ws) = eqb v w && same_words vs ws

-- "counts that differ from a recount" are refused; "a slice of another length differs from every recount"
unfoldable pub figures_right : State → Bool
figures_right s = same_words s.figures (recount s.table)

-- a sound table with right figures
abbrev pub state_sound : State → Bool
state_sound s = table_sound s.table && figures_right s

-- 2 for an unsound table, 10 for figures that are not right
abbrev pub state_checks : State → List (Bool × ℕ)
state_checks s = (not (table_sound s.table), 2) ∷ (not (figures_right s), 10) ∷ []

-- what is wrong with them, 0 for neither
abbrev pub refusal_of : State → ℕ
refusal_of s = decide (state_checks s) 0

-- which of them an answer is
abbrev pub said_check : Result Unit Refusal → ℕ
said_check (Ok _) = 0
said_check (Err refusal) = refusal_number refusal

-- ---- what is found in the table

abbrev pub row_for : State → ℕ → Found
row_for s number = row_of s.table number

abbrev pub record_where : State → Found → Option Record
record_where s place = record_found s.table place

abbrev pub record_for : State → ℕ → Option Record
record_for s number = record_of s.table number

abbrev pub record_in : State → ℕ → Record
record_in s i = record_at s.table i

-- ---- a step of a record

-- what one record counts: held, waiting, in flight
abbrev pub counts_of : Record → List ℕ
counts_of r = one (not (is_nobody r.holder)) ∷ one (is_waiting r.notice) ∷ one (is_in_flight r.notice) ∷ []

-- figures and counts, word by word
abbrev pub more : List ℕ → List ℕ → List ℕ
more [] counts = []
more (f ∷ fs) [] = f ∷ fs
more (f ∷ fs) (c ∷ cs) = (f + c) ∷ more fs cs

abbrev pub less : List ℕ → List ℕ → List ℕ
less [] counts = []
less (f ∷ fs) [] = f ∷ fs
less (f ∷ fs) (c ∷ cs) = (f - c) ∷ less fs cs

-- the counts are among the figures, and there is room for them in words
abbrev pub Among : List ℕ → List ℕ → Type 0
Among counts figures = (i : ℕ) → get_or counts i 0 ≤ get_or figures i 0

abbrev pub Room : List ℕ → List ℕ → Type 0
Room figures counts = (i : ℕ) → get_or figures i 0 + get_or counts i 0 < 2 ^ 64

-- the figures change by what the record lost and gained
unfoldable pub moved : List ℕ → Record → Record → List ℕ
moved figures before after = more (less figures (counts_of before)) (counts_of after)

-- r for the record of row i, and the figures changed by it
abbrev pub stored_in : State → ℕ → Record → State
stored_in s i r = beside (stored s.table i r) (moved s.figures (record_in s i) r)
