-- The figures that the program keeps stay a recount of its table: a free row counts in none of them, and every call leaves them right. Assumes nothing.
use mathlib.Core.Path.{◌≡◌, refl, sym, ap, ◌∙◌}
use mathlib.Core.Bool.{Bool, true, false, cond, not, ◌&&◌}
use mathlib.Core.List.{List, [], ◌∷◌, ◌++◌}
use Prim.Native.Nat.{ℕ, suc, ◌+◌, ◌*◌, ◌%◌, ◌^◌, ◌<◌}
use native.Mathlib.Nat.{mod-eq_of_lt}
use native.Mathlib.Omega.{arith}
use lib.ListN.{length, get_or, length-append, get_or-append}
use lib.Seq.{get_or-append-add}
use lib.Dec.{eqb}
use Rattle.packing.specs.Packing.{takes, packed}
use Rattle.numbers.specs.declared.FunctionalNumber.{FunctionalNumber}
use Rattle.numbers.specs.declared.Msisdn.{Msisdn}
use Rattle.strings.specs.Text.{coding_scheme}
use Rattle.rows.specs.Rows.{row_words, word}
use Rattle.tables.specs.Tables.{rows_in}
use Rattle.tables.specs.Figures.{is_held_at, waits_at, flies_at, how_many, recount}
use Rattle.tables.proofs.Counts.{many_same}
use Rattle.states.specs.States.{counted}
use Rattle.rules.specs.Answers.{refusal, made}
use Rattle.rules.specs.Crews as crews
use Rattle.rules.specs.Notices as notices
use Rattle.rules.specs.Calls.{Call, request, sending, result, call}
use Rattle.rules.specs.Figures.{Right}
use Rattle.rules.proofs.Figures.{keeps_count}
use Rattle.lines.specs.Program.{free_row, lent_buffer, asked}

-- ---- a row more

-- behind n whole rows
module _ (t : List ℕ) (n : ℕ) (whole : length t ≡ row_words * n) (number : FunctionalNumber) where
  abbrev longer : List ℕ
  longer = t ++ free_row number

  word_kept : (place i : ℕ) → place < row_words → i < n → word longer i place ≡ word t i place
  word_kept place i p l = get_or-append t (free_row number) 0 (row_words * i + place) (omega arith)

  word_more : (place : ℕ) → word longer n place ≡ get_or (free_row number) place 0
  word_more place = ap (λ (k : ℕ). get_or longer (k + place) 0) (sym whole) ∙ get_or-append-add t (free_row number) place 0

  -- a test of the rows by a word, which a free row does not pass
  module _ (place : ℕ) (p : place < row_words) (test : ℕ → Bool) (free : test (get_or (free_row number) place 0) ≡ false) where
    none_more : how_many (λ i. test (word longer i place)) (suc n) ≡ how_many (λ i. test (word t i place)) n
    none_more = rw (
      many_same (λ i. test (word t i place)) (λ i. test (word longer i place)) n (λ i l. ap test (word_kept place i p l)),
      word_more place,
      free,
    ) (omega arith)

  pub recount_free : recount longer ≡ recount t
  unfolding recount
  recount_free =
      let more : rows_in longer ≡ suc n = omega (arith, length-append t (free_row number)) in
      let rows : rows_in t ≡ n = omega arith in
      let held : how_many (is_held_at longer) (suc n) ≡ how_many (is_held_at t) n = none_more 1 (omega arith) (λ w. not (eqb w 0)) refl in
      let waiting : how_many (waits_at longer) (suc n) ≡ how_many (waits_at t) n = none_more 2 (omega arith) (λ w. eqb (w % 2) 1) refl in
      let flying : how_many (flies_at longer) (suc n) ≡ how_many (flies_at t) n = none_more 2 (omega arith) (λ w. eqb (w % 2) 0 && not (eqb w 0)) refl in
      rw (more, rows, held, waiting, flying) refl

-- ---- the figures that a call leaves

call_right : (list : List ℕ) (delay : ℕ) (c : Call) (t : List ℕ) → Right (call list delay c (counted t)).1
call_right list delay c t = (keeps_count list delay).every_call (c ∷ []) (counted t) refl

pub asked_right : (m : Msisdn) (string list t : List ℕ) → Right (asked m string (counted t) list).state
unfolding asked
asked_right m string list t = go (takes string)
  where
    go : (b : Bool) → Right (cond b (crews.requesting (counted t) list lent_buffer m coding_scheme (packed string)) (made (refusal 9) (counted t) lent_buffer)).state
    go true = call_right list 0 (request m coding_scheme (packed string) lent_buffer) t
    go false = refl

module _ (number : FunctionalNumber) (clock : ℕ) (short : clock < 2 ^ 32) (t : List ℕ) where
  pub sending_right : (delay : ℕ) → Right (notices.sending_notice (counted t) lent_buffer number delay clock).state
  sending_right delay = rw (mod-eq_of_lt short) at (call_right [] delay (sending clock number lent_buffer) t)

  pub result_right : (kind : ℕ) → Right (notices.taking_result (counted t) number kind clock).state
  result_right kind = rw (mod-eq_of_lt short) at (call_right [] 0 (result clock number kind) t)
