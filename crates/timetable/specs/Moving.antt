-- The words of a buffer as rows: rows taken out, and a row put in; what every word is afterwards. Assumes nothing.
use Rattle.std.specs.Prelude.{ℕ, zero, suc, ◌+◌, ◌-◌, ◌*◌, Bool, cond, List, [], ◌∷◌, ◌++◌, length, take, drop, get_or, replicate, ltb}
use Rattle.answers.specs.Joined.{joined}
use Rattle.records.specs.Steps.{has_run_out, free_record}
use Rattle.rows.specs.Rows.{row_words, row, record_at, words_of}

-- ---- rows

-- the first n rows
abbrev pub rows_of : ℕ → List ℕ → List (List ℕ)
rows_of zero t = []
rows_of (suc n) t = rows_of n t ++ (row t n ∷ [])

-- a row's number: its first word
abbrev pub number_of : List ℕ → ℕ
number_of r = get_or r 0 0

-- ---- taken out

-- the rows that do not pass the test: "keeps the rest in order"
abbrev pub kept_by : (List ℕ → Bool) → List (List ℕ) → List (List ℕ)
kept_by test [] = []
kept_by test (r ∷ rs) = cond (test r) (kept_by test rs) (r ∷ kept_by test rs)

-- "closed rows with no holder and no notice"
unfoldable pub goes : List ℕ → Bool
goes r = has_run_out (record_at r 0)

-- the rows that stay of the first n
abbrev pub stay : ℕ → List ℕ → List (List ℕ)
stay n t = kept_by goes (rows_of n t)

-- the rows that stay; "freed words become 0, the rest behind stays"
unfoldable pub compacted : ℕ → List ℕ → List ℕ
compacted used t = joined (stay used t) ++ replicate (row_words * (used - length (stay used t))) 0 ++ drop (row_words * used) t

-- ---- put in

-- how many of the first n rows stand before the new one: all up to the last whose number is below the new one
abbrev pub place : ℕ → List ℕ → ℕ → ℕ
place number t zero = 0
place number t (suc n) = cond (ltb (number_of (row t n)) number) (suc n) (place number t n)

-- "an open number without holder"
abbrev pub new_row : ℕ → List ℕ
new_row number = number ∷ words_of free_record

-- rows with one more at a place
abbrev pub insert_at : ℕ → List ℕ → List (List ℕ) → List (List ℕ)
insert_at p r rs = take p rs ++ r ∷ drop p rs

-- the rows below, the new row, the rows above; "the rest behind stays"
unfoldable pub inserted : ℕ → ℕ → List ℕ → List ℕ
inserted number used t = joined (insert_at (place number t used) (new_row number) (rows_of used t)) ++ drop (row_words * (used + 1)) t
