-- M-110: a table of six-word rows with numbers in it is unsound, lent whole or with words behind it. Assumes nothing.
use mathlib.Core.Path.{◌≡◌, refl, sym, ◌∙◌}
use mathlib.Core.Logic.{⊎_elim}
use mathlib.Core.Bool.{Bool, true, false}
use mathlib.Core.Option.{none}
use mathlib.Core.List.{List}
use Prim.Native.Nat.{ℕ, ◌*◌, ◌%◌, ◌≤◌, ◌<◌}
use native.Mathlib.Omega.{arith}
use lib.Dec.{eqb}
use lib.ListN.{length, get_or}
use borrow.Author.Tests.{eqb-true}
use Rattle.answers.proofs.Tests.{or_cases, less_or_not}
use Rattle.numbers.specs.Numbers.{is_number}
use Rattle.numbers.proofs.Lengths.{number_least}
use Rattle.rows.specs.Rows.{row_words, closed_at, closed_sound}
use Rattle.rows.specs.Old.{old_row_words, OldTable}
use Rattle.rows.proofs.Rows.{sound_row}
use Rattle.tables.specs.Tables.{rows_in, table_sound}
use Rattle.tables.specs.Figures.{recounted}
use Rattle.tables.proofs.Sound.{table_whole, table_row}

-- a number is neither 0 nor 1
no_number : (w : ℕ) → closed_sound w ≡ true → is_number w ≡ true → ⊥
no_number w c n =
    let least = number_least w n in
    ⊎_elim (λ z. let e = eqb-true w 0 z in omega arith) (λ o. let e = eqb-true w 1 o in omega arith) (or_cases (eqb w 0) (eqb w 1) c)

-- the second number stands where a first row of seven words says whether it is closed
pub second_number : (t : List ℕ) → 0 < rows_in t → is_number (get_or t old_row_words 0) ≡ true → table_sound t ≡ false
second_number t some n = go (table_sound t) refl
  where
    go : (b : Bool) → table_sound t ≡ b → b ≡ false
    go false e = refl
    go true e = absurd (no_number (closed_at t 0) (sound_row t 0 (table_row t e 0 some)).closed n)

pub old_unsound : (n : ℕ) (words : List ℕ) → 0 < n → OldTable n words → length words ≡ old_row_words * n → table_sound words ≡ false
old_unsound n words some old long = go (table_sound words) refl
  where
    -- one row of six words is no whole row
    ragged : n ≤ 1 → length words % row_words ≡ 0 → ⊥
    ragged h w = let e : length words ≡ old_row_words = omega arith in let z : ◌≡◌ {A = ℕ} old_row_words 0 = rw e at w in omega arith

    go : (b : Bool) → table_sound words ≡ b → b ≡ false
    go false e = refl
    go true e = sym e ∙ second_number words (omega (arith, table_whole words e)) (old 1 (⊎_elim (λ m. m) (λ h. absurd (ragged h (table_whole words e))) (less_or_not 1 n)))

-- so its figures are not told: refusal 2
pub old_recount : (n : ℕ) (words : List ℕ) → 0 < n → OldTable n words → length words ≡ old_row_words * n → recounted words ≡ none
old_recount n words some old long = rw (old_unsound n words some old long) refl
