-- The words in use of a memory, and the rows that are put into it. Assumes nothing.
use Rattle.std.specs.Prelude.{ℕ, zero, suc, ◌+◌, ◌%◌, ◌^◌, List, [], ◌∷◌, ◌++◌, take}
use Rattle.texts.specs.declared.words.Words.{Words}

-- the words that were put in, in their order
abbrev pub in_use : {N : ℕ} → Words N → List ℕ
in_use w = take w.used w.memory

-- so many rows of these words, the first word counted up and wrapping at the end of 64 bits
unfoldable pub rows_of : ℕ → ℕ → List ℕ → List ℕ
rows_of zero first others = []
rows_of (suc rows) first others = rows_of rows first others ++ ((first + rows) % 2 ^ 64) ∷ others
