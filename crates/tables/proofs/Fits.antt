-- Every word of a sound table and of a sound list is below 2^64. Assumes nothing.
use mathlib.Core.Path.{◌≡◌, ap}
use mathlib.Core.Logic.{⊎_elim}
use mathlib.Core.Bool.{true}
use mathlib.Core.List.{List}
use Prim.Native.Nat.{ℕ, zero, suc, ◌+◌, ◌*◌, ◌/◌, ◌%◌, ◌^◌, ◌≤◌, ◌<◌}
use native.Mathlib.Nat.{add-zero, div-add-mod, div-add-mod', div-lt_iff_lt-mul, mod-lt}
use native.Mathlib.Omega.{arith}
use lib.ListN.{length, get_or, get_or-eq_default}
use Rattle.answers.proofs.Tests.{less_or_not}
use Rattle.rows.specs.Rows.{row_words}
use Rattle.rows.proofs.Fits.{number_fits, row_fits}
use Rattle.tables.specs.Tables.{table_sound, subscriber_words, subscribers_in, msisdn_key, list_sound}
use Rattle.tables.proofs.Sound.{table_whole, table_row, list_whole, subscriber_number, subscriber_flags}

-- rows of `width` words: what bounds every word of every row bounds every word, and behind the last stands none
by_rows :
    (width : ℕ) → 0 < width → (t : List ℕ) → length t % width ≡ 0
    → ((i : ℕ) → i < length t / width → (place : ℕ) → place < width → get_or t (width * i + place) 0 < 2 ^ 64) → (k : ℕ) → get_or t k 0 < 2 ^ 64
by_rows width some t whole fits k = ⊎_elim inside behind (less_or_not k (length t))
  where
    inside : k < length t → get_or t k 0 < 2 ^ 64
    inside l = rw (← (div-add-mod k width)) (fits (k / width) ((div-lt_iff_lt-mul some).1 (omega (arith, div-add-mod' (length t) width))) (k % width) (mod-lt k some))

    behind : length t ≤ k → get_or t k 0 < 2 ^ 64
    behind h = rw (get_or-eq_default t 0 h) (omega arith)

pub table_fits : (t : List ℕ) → table_sound t ≡ true → (k : ℕ) → get_or t k 0 < 2 ^ 64
table_fits t sound = by_rows row_words (omega arith) t (table_whole t sound) (λ i l place h. row_fits t i (table_row t sound i l) place h)

pub list_fits : (l : List ℕ) → list_sound l ≡ true → (k : ℕ) → get_or l k 0 < 2 ^ 64
list_fits l sound = by_rows subscriber_words (omega arith) l (list_whole l sound) row
  where
    row : (i : ℕ) → i < subscribers_in l → (place : ℕ) → place < subscriber_words → get_or l (subscriber_words * i + place) 0 < 2 ^ 64
    row i h zero p = rw (ap (λ (n : ℕ). get_or l n 0) (add-zero (subscriber_words * i))) (number_fits (msisdn_key l i) (subscriber_number l sound i h))
    row i h (suc zero) p = omega (arith, subscriber_flags l sound i h)
    row i h (suc (suc place)) p = absurd (omega arith)
