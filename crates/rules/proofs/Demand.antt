-- Demand 3 holds of every sound table with right figures. It asks nothing of the subscriber list and the delay: it holds also where the list is unsound or the delay is not permitted. Assumes nothing.
use mathlib.Core.Path.{◌≡◌, refl, sym, ap, ◌∙◌}
use mathlib.Core.Bool.{Bool, true, false, cond}
use mathlib.Core.Option.{Option}
use mathlib.Core.List.{List, [], ◌∷◌}
use Prim.Native.Nat.{ℕ, ◌<◌}
use native.Mathlib.Nat.{not-suc-le-zero}
use native.Mathlib.Omega.{arith}
use lib.ListN.{length}
use Rattle.records.specs.declared.Record.{Record}
use Rattle.rows.specs.Rows.{row_words, number_at, record_at}
use Rattle.tables.specs.Keys.{Found}
use Rattle.std.specs.Prelude.{Some, None}
use Rattle.tables.specs.Tables.{table_sound, rows_in, number_key, row_of, record_of}
use Rattle.tables.proofs.Keys.{place_same}
use Rattle.tables.proofs.Sound.{empty_table}
use Rattle.tables.proofs.Stored.{row_found, row_at, record_found_lem, record_missing, empty_record, same_table}
use Rattle.tables.proofs.Alone.{alone_number, alone_record as row-record, alone_length, alone_sound, alone_row, alone_own}
use Rattle.tables.proofs.Alone as tables
use Rattle.states.specs.States.{State, state_sound, row_for, record_for, record_in}
use Rattle.states.proofs.States.{state_table, same_state, counted_sound}
use Rattle.rules.specs.Run.{only, last, end, log, Rearranged}
use Rattle.rules.specs.Calls.{Call, Reply, call, names_one, names, steps, row_alone, alone}
use Rattle.rules.specs.Demand.{decides_holder, holder_after, holder_of, calls_of, got_by, Demand3}
use Rattle.rules.proofs.Rearrange.{rearranged_answers, rearranged_records}
use Rattle.rules.proofs.Alone.{run_alone}
use Rattle.rules.proofs.Sound.{Kept}
use Rattle.rules.proofs.Once.{single}
use Rattle.rules.proofs.Local.{one_name, singles_local}
use Rattle.rules.proofs.Single.{AllSingle, singles_end, singles_log}
use Rattle.rules.proofs.Calls.{calls_local, all_steps_single, steps_end, steps_log, singly_end, calls_keep}
use Rattle.rules.proofs.Holder.{held}

-- ---- two states kept from one, with the same records, are the same words

same_words_lem : (t u v : State) → Kept t u → Kept t v → ((k : ℕ) → record_for u k ≡ record_for v k) → u ≡ v
same_words_lem t u v p q same =
    same_state u v p.sound q.sound
    (same_table u.table v.table (state_table u p.sound) (state_table v q.sound) (p.long ∙ sym q.long) (λ i l. numbers i) (λ i l. records i l))
  where
    numbers : (i : ℕ) → number_at u.table i ≡ number_at v.table i
    numbers i = p.numbers i ∙ sym (q.numbers i)

    records : (i : ℕ) → i < rows_in u.table → record_in u i ≡ record_in v i
    records i l =
        let there : i < rows_in v.table = rw (q.long, ← p.long) l in
        let x = record_found_lem u.table (number_at u.table i) i (row_at u.table (state_table u p.sound) i l) in
        let y = record_found_lem v.table (number_at v.table i) i (row_at v.table (state_table v q.sound) i there) in
        let z = same (number_at u.table i) in
        let w = ap (record_for v) (numbers i) in
        cc

-- ---- the row of a number alone

module _ (t : State) (k : ℕ) (sound : state_sound t ≡ true) where
  row_alone_lem : (place : Found) → row_for t k ≡ place → (table_sound (row_alone t.table place) ≡ true) × (record_for t k ≡ record_of (row_alone t.table place) k)
  row_alone_lem None e = (empty_table, record_missing t.table k e ∙ sym (empty_record k))
  row_alone_lem (Some i) e = (alone_sound t.table i (row_found t.table k i e).0 (state_table t sound), sym (alone_own t.table i k e))

-- a state that was kept has every number where it was
row_kept : (t u : State) (k : ℕ) → Kept t u → row_for u k ≡ row_for t k
unfolding row_of
row_kept t u k p = rw p.long (place_same (number_key u.table) (number_key t.table) k (rows_in t.table) (λ i l. p.numbers i))

-- of two that were kept, one from a state and one from a number's row alone, the first's row alone is the second, if the number's record is the same
module _ (t u v : State) (k : ℕ) (sound : state_sound t ≡ true) (p : Kept t u) (q : Kept (alone t k) v) (same : record_for u k ≡ record_for v k) where
  one_row : (place : Found) → row_for t k ≡ place → row_for u k ≡ place → row_alone u.table place ≡ v.table
  one_row None e f = same_table [] v.table empty_table (state_table v q.sound) (sym (rw e at q.long)) (λ j l. absurd (not-suc-le-zero l)) (λ j l. absurd (not-suc-le-zero l))
  one_row (Some i) e f =
      same_table (tables.alone u.table i) v.table (alone_sound u.table i there (state_table u p.sound)) (state_table v q.sound)
      (alone_length u.table i there ∙ sym long) (λ j l. rw (first j l) number) (λ j l. rw (first j l) records)
    where
      there : i < rows_in u.table
      there = (row_found u.table k i f).0

      here : i < rows_in t.table
      here = (row_found t.table k i e).0

      -- the row alone
      row : (alone t k).table ≡ tables.alone t.table i
      row = ap (row_alone t.table) e

      long : length v.table ≡ row_words
      long = q.long ∙ ap length row ∙ alone_length t.table i here

      first : (j : ℕ) → j < rows_in (tables.alone u.table i) → j ≡ 0
      first j l = let m = rw (alone_length u.table i there) at l in omega arith

      number : number_at (tables.alone u.table i) 0 ≡ number_at v.table 0
      number =
          alone_number u.table i ∙ p.numbers i ∙ sym (alone_number t.table i) ∙ ap (λ l. number_at l 0) (sym row) ∙ sym (q.numbers 0)

      records : record_at (tables.alone u.table i) 0 ≡ record_at v.table 0
      records =
          let x = record_found_lem u.table k i f in
          let y = record_found_lem v.table k 0 (row_kept (alone t k) v k q ∙ ap (λ l. row_of l k) row ∙ alone_row t.table i here k (row_found t.table k i e).1) in
          let z = row-record u.table i in
          cc

  same_alone : alone u k ≡ v
  same_alone =
      same_state (alone u k) v (counted_sound _ (row_alone_lem u k p.sound (row_for u k) refl).0) q.sound
      (one_row (row_for u k) (sym (row_kept t u k p)) refl)

-- ---- the demand

module _ (list : List ℕ) (delay : ℕ) (state : State) (sound : state_sound state ≡ true) where
  abbrev Sound : State → Type 0
  Sound t = state_sound t ≡ true

  abbrev look : ℕ → State → Option Record
  look k t = record_for t k

  abbrev run : Call → State → Reply × State
  run = call list delay

  abbrev singly : Call → State → Reply × State
  singly = single list delay

  same_end : (cs ds : List Call) → Rearranged (names list) cs ds → end run ds state ≡ end run cs state
  same_end cs ds r =
      same_words_lem state (end run ds state) (end run cs state) (calls_keep list delay ds state sound) (calls_keep list delay cs state sound)
      (rearranged_records run (names list) look Sound (calls_local list delay) cs ds state sound r)

  -- ---- the single steps of a list of calls

  module _ (k : ℕ) (cs : List Call) where
    abbrev ds : List Call
    ds = steps list cs

    all : AllSingle ds
    all = all_steps_single list delay cs

    some_single : (es : List Call) → AllSingle es → AllSingle (calls_of list k es)
    some_single [] a = tt
    some_single (e ∷ es) (s, a) = go (names_one list e k) (some_single es a)
      where
        go : (b : Bool) → AllSingle (calls_of list k es) → AllSingle (cond b (e ∷ calls_of list k es) (calls_of list k es))
        go true rest = (s, rest)
        go false rest = rest

    as_alone :
        (got_by list k (log singly ds state) ≡ log singly (calls_of list k ds) (alone state k))
        × (record_for (end singly ds state) k ≡ record_for (end singly (calls_of list k ds) (alone state k)) k)
    as_alone =
        let a = row_alone_lem state k sound (row_for state k) refl in
        run_alone singly (names_one list) look Sound (singles_local list delay) (one_name list) k ds state (alone state k) sound (counted_sound _ a.0) a.1

    alone_answers : got_by list k (log run ds state) ≡ log run (calls_of list k ds) (alone state k)
    alone_answers =
        ap (got_by list k) (singles_log list delay ds state all)
        ∙ as_alone.0
        ∙ sym (singles_log list delay (calls_of list k ds) (alone state k) (some_single ds all))

    alone_record : record_for (end run cs state) k ≡ record_for (end run (calls_of list k ds) (alone state k)) k
    alone_record =
        ap (look k) (singly_end list delay cs state)
        ∙ as_alone.1
        ∙ ap (look k) (sym (singles_end list delay (calls_of list k ds) (alone state k) (some_single ds all)))

    alone_state : alone (end run cs state) k ≡ end run (calls_of list k ds) (alone state k)
    alone_state =
        let a = row_alone_lem state k sound (row_for state k) refl in
        same_alone state (end run cs state) (end run (calls_of list k ds) (alone state k)) k sound (calls_keep list delay cs state sound)
        (calls_keep list delay (calls_of list k ds) (alone state k) (counted_sound _ a.0)) alone_record

    held_by_lem : holder_of (end run cs state) k ≡ holder_after (last (only (decides_holder list k) (log run ds state))) (holder_of state k)
    held_by_lem =
        ap (λ t. holder_of t k) (singly_end list delay cs state)
        ∙ held list delay k ds state sound
        ∙ ap (λ l. holder_after (last (only (decides_holder list k) l)) (holder_of state k)) (sym (singles_log list delay ds state all))

  pub demand3 : Demand3 list delay state
  demand3 = record {
    answers = λ cs ds r. rearranged_answers run (names list) look Sound (calls_local list delay) cs ds state sound r;
    end_state = same_end;
    steps_state = λ cs. steps_end list delay cs state;
    steps_got_lem = λ c cs. steps_log list delay c cs state sound;
    alone_answers = alone_answers;
    alone_record = alone_record;
    alone_state = alone_state;
    held = held_by_lem;
  }
