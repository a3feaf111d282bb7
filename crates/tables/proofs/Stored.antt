-- Where a functional number stands, and its record; what a stored record does to them; the flags of a subscriber. Assumes nothing.
use mathlib.Core.Path.{◌≡◌, refl, sym, ap, ◌∙◌}
use mathlib.Core.Logic.{⊎_elim}
use mathlib.Core.Bool.{true}
use mathlib.Core.Option.{none, some}
use mathlib.Core.List.{List, []}
use Prim.Native.Nat.{ℕ, ◌+◌, ◌*◌, ◌/◌, ◌%◌, ◌≤◌, ◌<◌}
use native.Mathlib.Nat.{div-add-mod}
use native.Mathlib.Omega.{arith}
use lib.ListN.{length, get_or}
use lib.Seq.{ext_get_or}
use Rattle.answers.proofs.Tests.{and_both, less_or_not, same_or_not}
use Rattle.rows.specs.Rows.{row_words, number_at, row_sound, record_at, stored, record_sound}
use Rattle.records.specs.declared.Record.{Record}
use Rattle.rows.proofs.Rows as rows
use Rattle.rows.proofs.Rows.{stored_length, stored_number, record_other, row_other, record_stored, same_words_lem}
use Rattle.tables.specs.Keys.{Found}
use Rattle.std.specs.Prelude.{Some, None}
use Rattle.tables.specs.Keys.{ascends, place_of}
use Rattle.tables.specs.Tables.{most_numbers, rows_in, number_key, row_stands, table_up_to, table_sound, row_of, record_found, record_of, most_flags, subscribers_in, msisdn_key, list_sound, flags_found, flags_of}
use Rattle.tables.proofs.Keys.{every_at, every_from, ascends_same, place_same, place_found, place_at}
use Rattle.tables.proofs.Sound.{all_stand, table_whole, table_few, table_ascends, table_row, subscriber_flags}

-- ---- where a number stands

module _ (t : List ℕ) where
  pub row_found : (number i : ℕ) → row_of t number ≡ Some i → (i < rows_in t) × (number_at t i ≡ number)
  unfolding row_of
  row_found number i e = place_found (number_key t) number (rows_in t) i e

  -- every row is found by its number
  pub row_at : table_sound t ≡ true → (i : ℕ) → i < rows_in t → row_of t (number_at t i) ≡ Some i
  unfolding row_of
  row_at sound i l = sym (place_at (number_key t) (rows_in t) (table_ascends t sound) (number_at t i) i l refl)

  pub record_found_lem : (number i : ℕ) → row_of t number ≡ Some i → record_of t number ≡ some (record_at t i)
  unfolding record_of
  record_found_lem number i e = rw e

  pub record_missing : (number : ℕ) → row_of t number ≡ None → record_of t number ≡ none
  unfolding record_of
  record_missing number e = rw e

pub empty_record : (number : ℕ) → record_of [] number ≡ none
unfolding record_of row_of place_of
empty_record number = refl

-- ---- a stored record

module _ (t : List ℕ) (i : ℕ) (r : Record) where
  pub rows_stored : rows_in (stored t i r) ≡ rows_in t
  rows_stored = ap (λ (n : ℕ). n / row_words) (stored_length t i r)

  -- every number stands where it stood
  pub row_stored : (number : ℕ) → row_of (stored t i r) number ≡ row_of t number
  unfolding row_of
  row_stored number = rw rows_stored (place_same (number_key (stored t i r)) (number_key t) number (rows_in t) (λ j l. stored_number t i r j))

  -- the number's own record
  pub own_record : (number : ℕ) → row_of t number ≡ Some i → record_sound r ≡ true → record_of (stored t i r) number ≡ some r
  own_record number e s =
      record_found_lem (stored t i r) number i (row_stored number ∙ e) ∙ ap some (record_stored t i r (row_found t number i e).0 s)

  -- "all other records stay"
  pub other_record : (number : ℕ) → row_of t number ≡ Some i → (other : ℕ) → (other ≡ number → ⊥) → record_of (stored t i r) other ≡ record_of t other
  unfolding record_of
  other_record number e other n = rw row_stored (go (row_of t other) refl)
    where
      go : (f : Found) → row_of t other ≡ f → record_found (stored t i r) f ≡ record_found t f
      go None q = refl
      go (Some j) q = ap some (record_other t i r j (λ x. n (sym (row_found t other j q).1 ∙ ap (number_at t) x ∙ (row_found t number i e).1)))

  -- a sound record keeps the table sound
  pub table_stored : table_sound t ≡ true → i < rows_in t → record_sound r ≡ true → table_sound (stored t i r) ≡ true
  unfolding table_up_to
  table_stored sound l s =
      sym (all_stand row_words most_numbers (row_stands (stored t i r)) (stored t i r) (rw stored_length (table_whole t sound)) (rw stored_length (table_few t sound))
      (every_from (row_stands (stored t i r)) (rows_in (stored t i r)) (λ j b. stands j (rw rows_stored at b))))
    where
      row : (j : ℕ) → j < rows_in t → row_sound (stored t i r) j ≡ true
      row j b = ⊎_elim (λ q. rw q (rows.row_stored t i r l (table_row t sound i l) s)) (λ n. row_other t i r j n ∙ table_row t sound j b) (same_or_not j i)

      stands : (j : ℕ) → j < rows_in t → row_stands (stored t i r) j ≡ true
      stands j b =
          and_both (ascends (number_key (stored t i r)) j) (row_sound (stored t i r) j)
          (ascends_same (number_key (stored t i r)) (number_key t) j (stored_number t i r) ∙ every_at (ascends (number_key t)) (rows_in t) (table_ascends t sound) j b)
          (row j b)

-- ---- a sound table is known by its numbers and its records

pub same_table : (t u : List ℕ) → table_sound t ≡ true → table_sound u ≡ true → length t ≡ length u
    → ((i : ℕ) → i < rows_in t → number_at t i ≡ number_at u i)
    → ((i : ℕ) → i < rows_in t → record_at t i ≡ record_at u i)
    → t ≡ u
same_table t u st su len numbers records = ext_get_or 0 t u len each
  where
    at : (l : List ℕ) (j : ℕ) → get_or l j 0 ≡ get_or l (row_words * (j / row_words) + j % row_words) 0
    at l j = ap (λ (n : ℕ). get_or l n 0) (sym (div-add-mod j row_words))

    first : (j : ℕ) → j % row_words ≡ 0 → j ≡ row_words * (j / row_words)
    first j z = omega arith

    each : (j : ℕ) → j < length t → get_or t j 0 ≡ get_or u j 0
    each j b =
        let l : j / row_words < rows_in t = within j b in
        ⊎_elim
        (λ h. at t j ∙ same_words_lem t (j / row_words) u (j / row_words) (table_row t st (j / row_words) l) (table_row u su (j / row_words) (rw (← len) l)) (records (j / row_words) l) (j % row_words) h (omega arith) ∙ sym (at u j))
        (λ h. let q = first j (omega arith) in rw q (numbers (j / row_words) l))
        (less_or_not 0 (j % row_words))
      where
        within : (j : ℕ) → j < length t → j / row_words < rows_in t
        within j b = omega (arith, table_whole t st)

-- ---- the flags of a subscriber

pub flags_small : (l : List ℕ) → list_sound l ≡ true → (msisdn : ℕ) → flags_of l msisdn ≤ most_flags
unfolding flags_of
flags_small l sound msisdn = go (place_of (msisdn_key l) msisdn (subscribers_in l)) refl
  where
    go : (f : Found) → place_of (msisdn_key l) msisdn (subscribers_in l) ≡ f → flags_found l f ≤ most_flags
    go None q = omega arith
    go (Some i) q = subscriber_flags l sound i (place_found (msisdn_key l) msisdn (subscribers_in l) i q).0
