-- What it takes for rows to be sound, what a sound table and a sound list say, and that what is sound for fewer sendings is sound for more. Assumes nothing.
use mathlib.Core.Path.{◌≡◌, refl, sym}
use mathlib.Core.Bool.{Bool, true, false, ◌&&◌}
use mathlib.Core.List.{List, []}
use Prim.Native.Nat.{ℕ, ◌+◌, ◌/◌, ◌%◌, ◌≤◌, ◌<◌}
use lib.ListN.{length}
use native.Mathlib.Omega.{arith}
use lib.Dec.{eqb, ltb, leb}
use borrow.Author.Tests.{eq-eqb, ne_eqb, le-leb, lt-leb, eqb-true, leb-true}
use Rattle.answers.proofs.Tests.{and_left, and_right, and_both, and_three, and_no}
use Rattle.numbers.specs.Numbers.{is_number}
use Rattle.records.specs.Steps.{most_sendings}
use Rattle.rows.specs.Rows.{row_words, number_at, row_up_to, row_sound}
use Rattle.rows.proofs.Starts.{row_more}
use Rattle.tables.specs.Keys.{every, ascends}
use Rattle.tables.specs.Tables.{most_numbers, rows_in, number_key, stands_up_to, row_stands, table_up_to, table_sound, subscriber_words, most_subscribers, most_flags, subscribers_in, msisdn_key, flags_at, subscriber_stands, list_sound}
use Rattle.tables.proofs.Keys.{key_before, before_next, ascends_before, every_more, every_not, every_at, every_from, ascending}

-- ---- rows of any width

-- whole rows, at most `most` of them, and each stands: what tables and lists have in common
abbrev pub rows_sound : ℕ → ℕ → (ℕ → Bool) → List ℕ → Bool
rows_sound width most stands t = eqb (length t % width) 0 && leb (length t / width) most && every stands (length t / width)

module _ (width most : ℕ) (stands : ℕ → Bool) (t : List ℕ) where
  pub ragged : (length t % width ≡ 0 → ⊥) → false ≡ rows_sound width most stands t
  ragged h = simp (ne_eqb (length t % width) 0 h)

  pub too_many : most < length t / width → false ≡ rows_sound width most stands t
  too_many h = simp (lt-leb (length t / width) most h) (not_left (eqb (length t % width) 0) (every stands (length t / width)))
    where
      not_left : (a b : Bool) → false ≡ ((a && false) && b)
      not_left true b = refl
      not_left false b = refl

  pub not_every : (i : ℕ) → i < length t / width → stands i ≡ false → false ≡ rows_sound width most stands t
  not_every i l e =
      sym (and_no (eqb (length t % width) 0 && leb (length t / width) most) (every stands (length t / width)) (every_not stands (length t / width) i l e))

  pub all_stand : length t % width ≡ 0 → length t / width ≤ most → every stands (length t / width) ≡ true → true ≡ rows_sound width most stands t
  all_stand w l e = simp (eq-eqb (length t % width) 0 w, le-leb (length t / width) most l, e)

  pub record Standing : Type 0 where
    pub whole : length t % width ≡ 0
    pub few : length t / width ≤ most
    pub all : every stands (length t / width) ≡ true

  pub standing : rows_sound width most stands t ≡ true → Standing
  standing e =
      let w = and_three (eqb (length t % width) 0) (leb (length t / width) most) (every stands (length t / width)) e in
      record { whole = eqb-true (length t % width) 0 w.0; few = leb-true (length t / width) most w.1; all = w.2 }

-- rows that stand, each by its key and by a test of its own
module _ (k : ℕ → ℕ) (test : ℕ → Bool) (n : ℕ) (all : every (λ i. ascends k i && test i) n ≡ true) where
  pub keys_ascend : every (ascends k) n ≡ true
  keys_ascend = every_from (ascends k) n (λ i l. and_left (ascends k i) (test i) (every_at (λ i. ascends k i && test i) n all i l))

  pub tests_hold : (i : ℕ) → i < n → test i ≡ true
  tests_hold i l = and_right (ascends k i) (test i) (every_at (λ i. ascends k i && test i) n all i l)

-- ---- a scan

-- the rows below i stand, and `before` is the key seen last
pub record Scanned (k : ℕ → ℕ) (test : ℕ → Bool) (n i before : ℕ) : Type 0 where
  pub order : i ≤ n
  pub stood : every (λ i. ascends k i && test i) i ≡ true
  pub last : before ≡ key_before k i

module _ (k : ℕ → ℕ) (test : ℕ → Bool) (n : ℕ) where
  pub scan_start : Scanned k test n 0 0
  scan_start = record { order = omega arith; stood = refl; last = refl }

  module _ (i before : ℕ) (s : Scanned k test n i before) where
    -- the row is tested against the key seen last
    pub scan_test : (seen : Bool) → seen ≡ test i → (ascends k i && test i) ≡ (ltb before (k i) && seen)
    scan_test seen e = rw (ascends_before, s.last, e)

    pub scan_next : i < n → (ascends k i && test i) ≡ true → Scanned k test n (i + 1) (k i)
    scan_next l e =
        record { order = omega arith; stood = every_more (λ i. ascends k i && test i) i s.stood e; last = before_next k i }

    pub scan_end : n ≤ i → every (λ i. ascends k i && test i) n ≡ true
    scan_end h = let e : n ≡ i = omega (arith, s.order) in rw e s.stood

-- ---- the table

module _ (t : List ℕ) (sound : table_sound t ≡ true) where
  table_standing : Standing row_words most_numbers (row_stands t) t
  unfolding table_up_to
  table_standing = standing row_words most_numbers (row_stands t) t sound

  pub table_whole : length t % row_words ≡ 0
  table_whole = table_standing.whole

  pub table_few : rows_in t ≤ most_numbers
  table_few = table_standing.few

  pub table_ascends : every (ascends (number_key t)) (rows_in t) ≡ true
  table_ascends = keys_ascend (number_key t) (row_sound t) (rows_in t) table_standing.all

  pub table_ascending : (i j : ℕ) → i < j → j < rows_in t → number_at t i < number_at t j
  table_ascending = ascending (number_key t) (rows_in t) table_ascends

  pub table_row : (i : ℕ) → i < rows_in t → row_sound t i ≡ true
  table_row = tests_hold (number_key t) (row_sound t) (rows_in t) table_standing.all

-- M-102, "Old tables stay sound": a table that is sound with at most `few` sendings of a notice is sound with more
pub table_more : (few many : ℕ) → few ≤ many → (t : List ℕ) → table_up_to few t ≡ true → table_up_to many t ≡ true
unfolding table_up_to
table_more few many h t e =
    let s = standing row_words most_numbers (stands_up_to few t) t e in
    sym (all_stand row_words most_numbers (stands_up_to many t) t s.whole s.few
    (every_from (stands_up_to many t) (rows_in t) (λ i l. stands i (every_at (stands_up_to few t) (rows_in t) s.all i l))))
  where
    stands : (i : ℕ) → stands_up_to few t i ≡ true → stands_up_to many t i ≡ true
    stands i q =
        and_both (ascends (number_key t) i) (row_up_to many t i) (and_left _ (row_up_to few t i) q) (row_more few many h t i (and_right (ascends (number_key t) i) _ q))

-- before M-102 a notice had at most five sendings
pub old_tables : (t : List ℕ) → table_up_to 5 t ≡ true → table_sound t ≡ true
old_tables = table_more 5 most_sendings (omega arith)

-- "Empty ones are sound"
pub empty_table : table_sound [] ≡ true
unfolding table_up_to
empty_table = refl

-- ---- the list

-- a subscriber's row, by itself
abbrev pub subscriber_sound : List ℕ → ℕ → Bool
subscriber_sound l i = is_number (msisdn_key l i) && leb (flags_at l i) most_flags

module _ (l : List ℕ) (sound : list_sound l ≡ true) where
  list_standing : Standing subscriber_words most_subscribers (subscriber_stands l) l
  unfolding list_sound
  list_standing = standing subscriber_words most_subscribers (subscriber_stands l) l sound

  pub list_ascends : every (ascends (msisdn_key l)) (subscribers_in l) ≡ true
  list_ascends = keys_ascend (msisdn_key l) (subscriber_sound l) (subscribers_in l) list_standing.all

  pub list_whole : length l % subscriber_words ≡ 0
  list_whole = list_standing.whole

  pub list_few : subscribers_in l ≤ most_subscribers
  list_few = list_standing.few

  pub list_row : (i : ℕ) → i < subscribers_in l → subscriber_sound l i ≡ true
  list_row = tests_hold (msisdn_key l) (subscriber_sound l) (subscribers_in l) list_standing.all

  pub subscriber_number : (i : ℕ) → i < subscribers_in l → is_number (msisdn_key l i) ≡ true
  subscriber_number i h = and_left (is_number (msisdn_key l i)) (leb (flags_at l i) most_flags) (list_row i h)

  pub subscriber_flags : (i : ℕ) → i < subscribers_in l → flags_at l i ≤ most_flags
  subscriber_flags i h = leb-true (flags_at l i) most_flags (and_right (is_number (msisdn_key l i)) (leb (flags_at l i) most_flags) (list_row i h))

pub empty_list : list_sound [] ≡ true
unfolding list_sound
empty_list = refl
