-- How many rows pass a test: where one row changes, and a row's tests by its record; what a recount says. Assumes nothing.
use mathlib.Core.Path.{◌≡◌, refl, sym, ap, ◌∙◌}
use mathlib.Core.Logic.{⊎_elim}
use mathlib.Core.Bool.{Bool, true, false, not, ◌&&◌}
use mathlib.Core.Option.{Option, none, some}
use mathlib.Core.List.{List}
use Prim.Native.Nat.{ℕ, zero, suc, ◌+◌, ◌%◌, ◌≤◌, ◌<◌}
use native.Mathlib.Nat.{le_of_suc-le-suc, eq-or-lt_of_le, not-suc-le-zero, zero-add}
use native.Mathlib.Numerals.{add-one}
use native.Mathlib.Omega.{arith}
use lib.ListN.{get_or}
use lib.Dec.{eqb}
use borrow.Author.Tests.{eq-eqb, ne_eqb}
use Rattle.answers.specs.Checks.{only_if}
use Rattle.answers.proofs.Tests.{same_or_not, less_or_not}
use Rattle.answers.proofs.Checks.{not_some, only_if_some}
use Rattle.records.specs.Steps.{is_absent, is_waiting, is_in_flight}
use Rattle.rows.specs.Rows.{phase_at, second_at, notice_of, record_at, one}
use Rattle.rows.proofs.Notices.{by_phase}
use Rattle.tables.specs.declared.Figures.{Figures}
use Rattle.std.specs.Prelude.{Result, Ok, Err, IfErr}
use Rattle.answers.specs.declared.Refusal.{Refusal}
use Rattle.answers.specs.declared.Refusal.TheVariants.{UnsoundTable}
use Rattle.tables.specs.Tables.{rows_in, table_sound}
use Rattle.tables.specs.Figures.{is_held_at, waits_at, flies_at, is_free_at, has_notice_at, how_many, counts_to, recount, figure_words, Few, with_row, said_recount, recounted}

-- ---- one row changes

pub one_most : (b : Bool) → one b ≤ 1
one_most true = omega arith
one_most false = omega arith

pub many_most : (test : ℕ → Bool) (n : ℕ) → how_many test n ≤ n
many_most test zero = omega arith
many_most test (suc n) = omega (arith, many_most test n, one_most (test n))

-- none of them, and just one
pub many_none : (test : ℕ → Bool) (n : ℕ) → ((i : ℕ) → i < n → test i ≡ false) → how_many test n ≡ 0
many_none test zero h = refl
many_none test (suc n) h = omega (arith, many_none test n (λ i l. h i (omega arith)), ap one (h n (omega arith)))

pub many_one : (test : ℕ → Bool) (n j : ℕ) → j < n → test j ≡ true → ((i : ℕ) → i < n → (i ≡ j → ⊥) → test i ≡ false) → how_many test n ≡ 1
many_one test zero j l e h = absurd (omega arith)
many_one test (suc n) j l e h =
    ⊎_elim (λ below. omega (arith, many_one test n j below e (λ i k d. h i (omega arith) d), ap one (h n (omega arith) (λ q. omega arith))))
    (λ above. let last : j ≡ n = omega arith in omega (arith, many_none test n (λ i k. h i (omega arith) (λ q. omega arith)), ap one (rw last at e))) (less_or_not j n)

-- a row that is counted is among those counted
pub many_has : (test : ℕ → Bool) (n i : ℕ) → i < n → one (test i) ≤ how_many test n
many_has test zero i l = absurd (not-suc-le-zero l)
many_has test (suc n) i l =
    ⊎_elim (λ q. rw q (omega arith)) (λ h. omega (arith, many_has test n i h)) (eq-or-lt_of_le (le_of_suc-le-suc l))

pub many_same : (test other : ℕ → Bool) (n : ℕ) → ((i : ℕ) → i < n → other i ≡ test i) → how_many other n ≡ how_many test n
many_same test other zero same = refl
many_same test other (suc n) same = rw (many_same test other n (λ i l. same i (omega arith)), same n (omega arith)) refl

module _ (test other : ℕ → Bool) (i : ℕ) (same : (j : ℕ) → (j ≡ i → ⊥) → other j ≡ test j) where
  pub many_changed : (n : ℕ) → i < n → how_many other n + one (test i) ≡ how_many test n + one (other i)
  many_changed zero l = absurd (not-suc-le-zero l)
  many_changed (suc n) l =
      ⊎_elim
      (λ q. rw q (omega (arith, many_same test other n (λ j l. same j (λ e. omega arith)))))
      (λ h. omega (arith, many_changed n h, ap one (same n (λ q. omega arith))))
      (eq-or-lt_of_le (le_of_suc-le-suc l))

-- ---- one test beside another

-- rows that pass one of two tests, where no row passes both
many_both : (a b c : ℕ → Bool) → ((i : ℕ) → one (a i) + one (b i) ≡ one (c i)) → (n : ℕ) → how_many a n + how_many b n ≡ how_many c n
many_both a b c h zero = refl
many_both a b c h (suc n) = omega (arith, many_both a b c h n, h n)

many_all : (n : ℕ) → how_many (λ i. true) n ≡ n
many_all zero = refl
many_all (suc n) = omega (arith, many_all n)

-- held and free together are all rows
held_and_free : (t : List ℕ) (n : ℕ) → how_many (is_held_at t) n + how_many (is_free_at t) n ≡ n
held_and_free t n = many_both (is_held_at t) (is_free_at t) (λ i. true) (λ i. go (is_free_at t i)) n ∙ many_all n
  where
    go : (b : Bool) → ◌≡◌ {A = ℕ} (one (not b) + one b) 1
    go true = refl
    go false = refl

-- notices waiting and in flight together are all notices
waiting_and_flying : (t : List ℕ) (n : ℕ) → how_many (waits_at t) n + how_many (flies_at t) n ≡ how_many (has_notice_at t) n
waiting_and_flying t n = many_both (waits_at t) (flies_at t) (has_notice_at t) (λ i. by_parity (phase_at t i)) n
  where
    by_parity : (phase : ℕ) → one (eqb (phase % 2) 1) + one (eqb (phase % 2) 0 && not (eqb phase 0)) ≡ one (not (eqb phase 0))
    by_parity phase =
        ⊎_elim
        (λ odd. rw (eq-eqb (phase % 2) 1 odd, ne_eqb (phase % 2) 0 (λ q. omega arith), ne_eqb phase 0 (λ q. omega arith)) refl)
        (λ even. rw (ne_eqb (phase % 2) 1 even, eq-eqb (phase % 2) 0 (omega arith)) (zero-add (one (not (eqb phase 0)))))
        (same_or_not (phase % 2) 1)

-- a reader's sanity: held plus free is the number of rows, waiting plus in flight the number of rows with a notice
pub recount_rows : (t : List ℕ) → get_or (recount t) 0 0 + how_many (is_free_at t) (rows_in t) ≡ rows_in t
unfolding recount
recount_rows t = held_and_free t (rows_in t)

pub recount_notices : (t : List ℕ) → get_or (recount t) 1 0 + get_or (recount t) 2 0 ≡ how_many (has_notice_at t) (rows_in t)
unfolding recount
recount_notices t = waiting_and_flying t (rows_in t)

-- ---- a row by its record

waits_by : (phase second : ℕ) → eqb (phase % 2) 1 ≡ is_waiting (notice_of phase second)
waits_by phase second = by_phase (λ n. eqb (phase % 2) 1 ≡ is_waiting n) phase second
    (λ e. ne_eqb (phase % 2) 1 (λ q. omega arith)) (λ k e. eq-eqb (phase % 2) 1 (omega arith)) (λ k h e. ne_eqb (phase % 2) 1 (λ q. omega arith))

flies_by : (phase second : ℕ) → (eqb (phase % 2) 0 && not (eqb phase 0)) ≡ is_in_flight (notice_of phase second)
flies_by phase second = by_phase (λ n. (eqb (phase % 2) 0 && not (eqb phase 0)) ≡ is_in_flight n) phase second
    (λ e. rw e refl) (λ k e. rw (ne_eqb (phase % 2) 0 (λ q. omega arith)) refl) (λ k h e. rw (eq-eqb (phase % 2) 0 (omega arith), ne_eqb phase 0 (λ q. omega arith)) refl)

pends_by : (phase second : ℕ) → not (eqb phase 0) ≡ not (is_absent (notice_of phase second))
pends_by phase second = by_phase (λ n. not (eqb phase 0) ≡ not (is_absent n)) phase second
    (λ e. rw e refl) (λ k e. rw (ne_eqb phase 0 (λ q. omega arith)) refl) (λ k h e. rw (ne_eqb phase 0 (λ q. omega arith)) refl)

pub row_waits : (t : List ℕ) (i : ℕ) → waits_at t i ≡ is_waiting (record_at t i).notice
unfolding record_at
row_waits t i = waits_by (phase_at t i) (second_at t i)

pub row_flies : (t : List ℕ) (i : ℕ) → flies_at t i ≡ is_in_flight (record_at t i).notice
unfolding record_at
row_flies t i = flies_by (phase_at t i) (second_at t i)

pub row_pends : (t : List ℕ) (i : ℕ) → has_notice_at t i ≡ not (is_absent (record_at t i).notice)
unfolding record_at
row_pends t i = pends_by (phase_at t i) (second_at t i)

-- ---- what the code says of a recount

-- one row more
pub counts_next : (f : Figures) (t : List ℕ) (i : ℕ) → figure_words f ≡ counts_to t i → figure_words (with_row f t i) ≡ counts_to t (i + 1)
counts_next f t i e = rw (add-one i) (cc)

pub counts_few : (f : Figures) (t : List ℕ) (n most : ℕ) → figure_words f ≡ counts_to t n → n ≤ most → Few f most
counts_few f t n most e l =
    let held : f.held ≡ how_many (is_held_at t) n = cc in
    let waiting : f.waiting ≡ how_many (waits_at t) n = cc in
    let flying : f.flying ≡ how_many (flies_at t) n = cc in
    (omega (arith, many_most (is_held_at t) n), omega (arith, many_most (waits_at t) n), omega (arith, many_most (flies_at t) n))

module _ (t : List ℕ) where
  pub not_counted : false ≡ table_sound t → none ≡ recounted t
  not_counted e = rw (← e) refl

  -- the rows up to the last
  pub all_counted : (words : List ℕ) (n : ℕ) → true ≡ table_sound t → words ≡ counts_to t n → n ≡ rows_in t → some words ≡ recounted t
  unfolding recount
  all_counted words n s e q = rw (← s, e, q) refl

  module _ (r : Result Figures Refusal) (said : said_recount r ≡ recounted t) where
    pub said_unsound : (e : Refusal) → r ≡ Err e → table_sound t ≡ false
    said_unsound e is = go (table_sound t) (sym (ap said_recount is) ∙ said)
      where
        go : (sound : Bool) → none ≡ only_if sound (recount t) → sound ≡ false
        go true q = not_some q
        go false q = refl

    pub said_counted : (f : Figures) → r ≡ Ok f → (table_sound t ≡ true) × (recount t ≡ figure_words f)
    said_counted f e = only_if_some (table_sound t) (sym said ∙ ap said_recount e)

-- two recounts that the contract allows are one
pub recount_one : (v w : Result Figures Refusal) (o : Option (List ℕ)) → said_recount v ≡ o → said_recount w ≡ o
    → IfErr v (λ r. r ≡ UnsoundTable) → IfErr w (λ r. r ≡ UnsoundTable) → v ≡ w
recount_one (Err r) (Err q) o p s h k = ap Err (h ∙ sym k)
recount_one (Err r) (Ok f) o p s h k = not_some (p ∙ sym s)
recount_one (Ok f) (Err r) o p s h k = not_some (s ∙ sym p)
recount_one (Ok f) (Ok g) o p s h k =
    let e : figure_words f ≡ figure_words g = cc (p ∙ sym s) in
    λ i. Ok (record { held = get_or (e i) 0 0; waiting = get_or (e i) 1 0; flying = get_or (e i) 2 0 })
