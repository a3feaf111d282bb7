-- A recount's rows, one by one: what it knows of those it has passed. Assumes nothing.
use mathlib.Core.Path.{◌≡◌, sym, ap, ◌∙◌}
use mathlib.Core.Bool.{Bool, true, ◌&&◌}
use mathlib.Core.List.{List, ◌++◌}
use Prim.Native.Nat.{ℕ, ◌+◌, ◌*◌, ◌<◌}
use native.Mathlib.Omega.{arith}
use lib.ListN.{length, take, drop, length-append, length-drop}
use lib.Dec.{ltb}
use Rattle.std.proofs.lemmas.List.{drop-drop}
use Rattle.std.proofs.Math.Seq.{take-append_seam, drop-append_seam}
use Rattle.answers.proofs.Tests.{and_left, and_right, and_both}
use Rattle.numbers.specs.Numbers.{is_number}
use Rattle.numbers.proofs.Least.{Starts}
use Rattle.rows.specs.Rows.{row_words, number_at, holder_at, row_sound}
use Rattle.rows.specs.Starts.{near_from, holder_start, rest_from}
use Rattle.rows.proofs.Starts.{row_tells, near_sound}
use Rattle.tables.specs.declared.Figures.{Figures}
use Rattle.tables.specs.Tables.{rows_in, number_key, row_stands}
use Rattle.tables.specs.Ends.{end_for, within}
use Rattle.tables.specs.Figures.{counts_to, figure_words, with_row}
use Rattle.tables.proofs.Alone.{alone, alone_number, alone_words, alone_row_sound}
use Rattle.tables.proofs.Counts.{counts_next}
use Rattle.tables.proofs.Ends.{Reaches, within_tells}
use Rattle.tables.proofs.Sound.{Scanned, scan_test, scan_next}

-- the rows before the ones left stand, and are counted
pub record Passed (t left : List ℕ) (size : ℕ) (figures : Figures) (before end near : ℕ) : Type 0 where
  pub row : ℕ
  pub width : size ≡ row_words
  pub place : left ≡ drop (row_words * row) t
  pub stood : Scanned (number_key t) (row_sound t) (rows_in t) row before
  pub reaches : Reaches before end
  pub starts : Starts near
  pub counts : figure_words figures ≡ counts_to t row

-- the next row comes off those left
module _ (t left : List ℕ) (size : ℕ) (figures : Figures) (before end near : ℕ) (p : Passed t left size figures before end near) (w rest : List ℕ)
    (cut : left ≡ w ++ rest) (long : length w ≡ size) where
  cut_off : drop (row_words * p.row) t ≡ w ++ rest
  cut_off = sym p.place ∙ cut

  width : length w ≡ row_words
  width = long ∙ p.width

  pub is_alone : w ≡ alone t p.row
  is_alone = sym (ap (take row_words) cut_off ∙ rw (sym width) (take-append_seam w rest))

  place_next : rest ≡ drop (row_words * (p.row + 1)) t
  place_next =
      let e : row_words * (p.row + 1) ≡ row_words * p.row + row_words = omega arith in
      rw (e, ← drop-drop row_words (row_words * p.row) t, cut_off, ← width) (sym (drop-append_seam w rest))

  pub inside : p.row < rows_in t
  inside = omega (arith, width, ap length cut_off, length-append {A = ℕ}, length-drop {A = ℕ})

  lent_number : number_at w 0 ≡ number_at t p.row
  lent_number = rw is_alone (alone_number t p.row)

  -- whether it stands, by its own words
  pub tested : (seen : Bool) → seen ≡ row_sound w 0 → row_stands t p.row ≡ (ltb before (number_at w 0) && seen)
  tested seen e =
      scan_test _ _ _ _ _ p.stood seen (e ∙ rw is_alone (alone_row_sound t p.row)) ∙ ap (λ (n : ℕ). ltb before n && seen) (sym lent_number)

  row_counted : figure_words (with_row figures w 0) ≡ counts_to t (p.row + 1)
  row_counted =
      let same = alone_words t p.row in
      rw (is_alone, same 1 (omega arith) (omega arith), same 2 (omega arith) (omega arith)) (counts_next figures t p.row p.counts)

  pub passed : (new start wide : ℕ) → wide ≡ size → row_stands t p.row ≡ true → Reaches (number_at w 0) new → Starts start
      → Passed t rest wide (with_row figures w 0) (number_at w 0) new start
  passed new start wide same stands reaches starts = record {
    row = p.row + 1;
    width = same ∙ p.width;
    place = place_next;
    stood = rw lent_number (scan_next _ _ _ _ _ p.stood inside stands);
    reaches = reaches;
    starts = starts;
    counts = row_counted;
  }

-- a row that follows and is near stands
pub near_stands :
    (before near : ℕ) (t : List ℕ) (i : ℕ) → Starts near → (ltb before (number_at t i) && (is_number (number_at t i) && near_from near t i)) ≡ true
    → (ltb before (number_at t i) && row_sound t i) ≡ true
near_stands before near t i s e =
    let b = and_right (ltb before (number_at t i)) (is_number (number_at t i) && near_from near t i) e in
    and_both (ltb before (number_at t i)) (row_sound t i) (and_left _ _ e)
    (near_sound near t i s (and_left (is_number (number_at t i)) _ b) (and_right (is_number (number_at t i)) _ b))

-- a row by the scan's test
pub stands_by :
    (before end near : ℕ) (t : List ℕ) → Reaches before end → Starts near
    → (ltb before (number_at t 0) && row_sound t 0) ≡ within before (end_for end (number_at t 0)) (number_at t 0) (rest_from (holder_start near (holder_at t 0)) t 0)
stands_by before end near t reaches starts =
    ap (λ (b : Bool). ltb before (number_at t 0) && b) (row_tells near t 0 starts)
    ∙ within_tells before end (number_at t 0) (rest_from (holder_start near (holder_at t 0)) t 0) reaches
