-- Document 02, M-103: "numbers held, notices waiting and notices in flight", counted over the words of a table. Assumes nothing.
use Rattle.std.specs.Prelude.{ℕ, zero, suc, ◌+◌, ◌%◌, ◌≤◌, Bool, not, ◌&&◌, List, [], ◌∷◌, eqb, Result, Ok, Err}
use Rattle.std.proofs.Math.Option.{Option, none, some}
use Rattle.answers.specs.Checks.{only_if}
use Rattle.answers.specs.declared.Refusal.{Refusal}
use Rattle.rows.specs.Rows.{holder_at, phase_at, one}
use Rattle.tables.specs.declared.Figures.{Figures}
use Rattle.tables.specs.Tables.{rows_in, table_sound}

-- row i has a holder; a notice that waits, "odd phase"; a notice in flight, "even phase above 0"
abbrev pub is_held_at : List ℕ → ℕ → Bool
is_held_at t i = not (eqb (holder_at t i) 0)

abbrev pub waits_at : List ℕ → ℕ → Bool
waits_at t i = eqb (phase_at t i % 2) 1

abbrev pub flies_at : List ℕ → ℕ → Bool
flies_at t i = eqb (phase_at t i % 2) 0 && not (eqb (phase_at t i) 0)

-- beside them: a row without a holder, and one with a notice
abbrev pub is_free_at : List ℕ → ℕ → Bool
is_free_at t i = eqb (holder_at t i) 0

abbrev pub has_notice_at : List ℕ → ℕ → Bool
has_notice_at t i = not (eqb (phase_at t i) 0)

-- how many of the rows below n pass the test
abbrev pub how_many : (ℕ → Bool) → ℕ → ℕ
how_many test zero = 0
how_many test (suc n) = how_many test n + one (test n)

abbrev pub figure_count : ℕ
figure_count = 3

-- "numbers held, notices waiting and notices in flight", in that order, of the rows below n
abbrev pub counts_to : List ℕ → ℕ → List ℕ
counts_to t n = how_many (is_held_at t) n ∷ how_many (waits_at t) n ∷ how_many (flies_at t) n ∷ []

-- of all rows
unfoldable pub recount : List ℕ → List ℕ
recount t = counts_to t (rows_in t)

-- ---- what the code says of it

-- the figures as words
abbrev pub figure_words : Figures → List ℕ
figure_words f = f.held ∷ f.waiting ∷ f.flying ∷ []

-- the figures of at most n rows
abbrev pub Few : Figures → ℕ → Type 0
Few f n = (f.held ≤ n) × (f.waiting ≤ n) × (f.flying ≤ n)

-- the figures with row i of t counted too
abbrev pub with_row : Figures → List ℕ → ℕ → Figures
with_row f t i = record { held = f.held + one (is_held_at t i); waiting = f.waiting + one (waits_at t i); flying = f.flying + one (flies_at t i) }

abbrev pub said_recount : Result Figures Refusal → Option (List ℕ)
said_recount (Err r) = none
said_recount (Ok f) = some (figure_words f)

-- a sound table alone is counted
abbrev pub recounted : List ℕ → Option (List ℕ)
recounted t = only_if (table_sound t) (recount t)
