-- Tables from before M-110, whose rows had six words. Assumes nothing.
use Rattle.std.specs.Prelude.{◌≡◌, true, List, ℕ, ◌*◌, ◌<◌, get_or}
use Rattle.numbers.specs.Numbers.{is_number}

abbrev pub old_row_words : ℕ
old_row_words = 6

-- so many rows of six words at the front, each beginning with its number
abbrev pub OldTable : ℕ → List ℕ → Type 0
OldTable n words = (i : ℕ) → i < n → is_number (get_or words (old_row_words * i) 0) ≡ true
