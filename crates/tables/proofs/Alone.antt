-- One row of a sound table, alone, is a sound table with that number and its record. Assumes nothing.
use mathlib.Core.Path.{◌≡◌, sym, ap, ◌∙◌}
use mathlib.Core.Bool.{true}
use mathlib.Core.Option.{some}
use mathlib.Core.List.{List}
use Prim.Native.Nat.{ℕ, ◌+◌, ◌*◌, ◌<◌}
use native.Mathlib.Nat.{add-zero, zero-add}
use native.Mathlib.Omega.{arith}
use lib.ListN.{length, get_or, take, drop, length-take, length-drop}
use lib.Seq.{get_or-take, get_or-drop}
use borrow.Author.Tests.{eq-eqb, lt-ltb}
use Rattle.numbers.proofs.Lengths.{number_some}
use Rattle.rows.specs.Rows.{row_words, number_at, row_sound, record_at}
use Rattle.rows.proofs.Rows.{SameWords, same_record, same_row, sound_row}
use Rattle.std.specs.Prelude.{Some}
use Rattle.tables.specs.Keys.{place_of}
use Rattle.tables.specs.Tables.{rows_in, table_up_to, table_sound, row_of, record_of}
use Rattle.tables.proofs.Sound.{table_row}
use Rattle.tables.proofs.Stored.{row_found, record_found_lem}

-- row i by itself
abbrev pub alone : List ℕ → ℕ → List ℕ
alone t i = take row_words (drop (row_words * i) t)

module _ (t : List ℕ) (i : ℕ) where
  alone_at : (k : ℕ) → k < row_words → get_or (alone t i) k 0 ≡ get_or t (row_words * i + k) 0
  alone_at k l = get_or-take row_words (drop (row_words * i) t) k 0 l ∙ get_or-drop (row_words * i) t k 0

  pub alone_number : number_at (alone t i) 0 ≡ number_at t i
  alone_number = alone_at 0 (omega arith) ∙ ap (λ (n : ℕ). get_or t n 0) (add-zero (row_words * i))

  pub alone_words : SameWords (alone t i) 0 t i
  alone_words place h l = ap (λ (n : ℕ). get_or (alone t i) n 0) (zero-add place) ∙ alone_at place l

  pub alone_row_sound : row_sound (alone t i) 0 ≡ row_sound t i
  alone_row_sound = same_row (alone t i) 0 t i alone_words alone_number

  pub alone_record : record_at (alone t i) 0 ≡ record_at t i
  alone_record = same_record (alone t i) 0 t i alone_words

  module _ (within : i < rows_in t) where
    pub alone_length : length (alone t i) ≡ row_words
    alone_length = simp (length-take, length-drop) (omega arith)

    pub alone_sound : table_sound t ≡ true → table_sound (alone t i) ≡ true
    unfolding table_up_to
    alone_sound sound =
        let row = table_row t sound i within in
        let positive : 0 < number_at (alone t i) 0 = rw alone_number (above (number_at t i) (number_some (number_at t i) (sound_row t i row).number)) in
        simp (alone_length, lt-ltb 0 (number_at (alone t i) 0) positive, alone_row_sound ∙ row)
      where
        above : (n : ℕ) → (n ≡ 0 → ⊥) → 0 < n
        above n h = omega arith

    pub alone_row : (number : ℕ) → number_at t i ≡ number → row_of (alone t i) number ≡ Some 0
    unfolding row_of place_of
    alone_row number e = simp (alone_length, eq-eqb (number_at (alone t i) 0) number (alone_number ∙ e))

  -- the record of its number is the same
  pub alone_own : (number : ℕ) → row_of t number ≡ Some i → record_of (alone t i) number ≡ record_of t number
  alone_own number e =
      let f = row_found t number i e in
      record_found_lem (alone t i) number 0 (alone_row f.0 number f.1) ∙ ap some alone_record ∙ sym (record_found_lem t number i e)
