-- M-108: every notice accounted for, of all numbers of the table together, and the theorem. Assumes nothing.
use mathlib.Core.Path.{◌≡◌, refl, sym, ap, ◌∙◌}
use mathlib.Core.Logic.{⊎_elim}
use mathlib.Core.Bool.{Bool, true, false, not, ◌&&◌, ◌||◌}
use mathlib.Core.Option.{Option, none, some}
use mathlib.Core.List.{List, [], ◌∷◌}
use Prim.Native.Nat.{ℕ, zero, suc, ◌+◌, ◌/◌, ◌≤◌, ◌<◌}
use native.Mathlib.Omega.{arith}
use lib.Dec.{eqb}
use borrow.Author.Tests.{eq-eqb, ne_eqb}
use Rattle.answers.proofs.Tests.{no_path, and_left, and_right, and_no, and_both, or_left, or_right, less_or_not}
use Rattle.answers.proofs.Checks.{not_some}
use Rattle.records.specs.declared.Record.{Record}
use Rattle.records.specs.Steps.{is_absent}
use Rattle.rows.specs.Rows.{row_words, number_at, one}
use Rattle.tables.specs.Tables.{rows_in}
use Rattle.tables.specs.Figures.{how_many, has_notice_at}
use Rattle.tables.proofs.Counts.{many_none, many_one, row_pends, recount_notices}
use Rattle.tables.proofs.Sound.{table_ascending}
use Rattle.tables.proofs.Stored.{row_found, row_at, record_found_lem}
use Rattle.states.specs.States.{State, state_sound, record_for}
use Rattle.states.proofs.States.{state_table, sound_state_lem}
use Rattle.rules.specs.Answers.{refusal, result_class, delivered_number, dropped_number, numbers_of, is_of, is_outcome}
use Rattle.rules.specs.Run.{only, end, log}
use Rattle.rules.specs.Notices.{notice_in}
use Rattle.rules.specs.Figures.{is_routing}
use Rattle.rules.specs.Calls.{Call, request, framed, sending, result, terminal, routes, Reply, call, codes_of, name_of, names_one, is_named}
use Rattle.rules.specs.Visits.{missed}
use Rattle.rules.specs.Demand.{got_by}
use Rattle.promises.specs.Accounts.{of_number, forces_off, makes_notice, has_kind, returns, is_zero, is_one_to_four, is_five, is_delivery, is_dropped_by_kind, is_dropped_last, how_often, erasures, deliveries, dropped_by_kind, dropped_last, pending_for, pending_in, Balanced, sum_to, over_numbers, waiting_figure, in_flight_figure, notified_in, Accounted}
use Rattle.rules.proofs.Once.{single}
use Rattle.rules.proofs.Visits.{single_stops}
use Rattle.rules.proofs.Sound.{Kept, kept_twice, record_place, single_absent}
use Rattle.rules.proofs.Single.{call_single}
use Rattle.rules.proofs.Calls.{calls_keep}
use Rattle.promises.proofs.Along.{missed_negative}
use Rattle.promises.proofs.NoticeEnds.{one_more}
use Rattle.rules.proofs.Unsound.{unsound_call, unsound_end}
use Rattle.promises.proofs.Accounts.{crew_uncounted, often_more, each_number, ended_between, ended_before, sent_on}

-- ---- sums

sum_same : (f g : ℕ → ℕ) (n : ℕ) → ((i : ℕ) → i < n → f i ≡ g i) → sum_to f n ≡ sum_to g n
sum_same f g zero h = refl
sum_same f g (suc n) h = omega (arith, sum_same f g n (λ i l. h i (omega arith)), h n (omega arith))

sum_add : (f g : ℕ → ℕ) (n : ℕ) → sum_to (λ i. f i + g i) n ≡ sum_to f n + sum_to g n
sum_add f g zero = refl
sum_add f g (suc n) = omega (arith, sum_add f g n)

-- how many, as a sum
sum_many : (test : ℕ → Bool) (n : ℕ) → sum_to (λ i. one (test i)) n ≡ how_many test n
sum_many test zero = refl
sum_many test (suc n) = omega (arith, sum_many test n)

-- ---- an entry that counts names a number of the table

-- it may_count in one of the four ways, or as a result that goes on
abbrev may_count : Call × Reply → Bool
may_count e = makes_notice e || (has_kind (λ kind. true) e.0 && is_of result_class e.1.answer)

made_counts : (e : Call × Reply) → makes_notice e ≡ true → may_count e ≡ true
made_counts e m = or_left (makes_notice e) _ m

kind_any : (test : ℕ → Bool) (c : Call) → has_kind test c ≡ true → has_kind (λ kind. true) c ≡ true
kind_any test (request requester scheme string reply) h = h
kind_any test (framed requester message frame) h = h
kind_any test (sending now number buffer) h = h
kind_any test (result now number kind) h = refl
kind_any test (terminal number holder reply) h = h
kind_any test (routes home coded asked) h = h

returned_counts : (n : ℕ) (test : ℕ → Bool) (e : Call × Reply) → returns n test e ≡ true → may_count e ≡ true
returned_counts n test e r =
    let is_result = is_of result_class e.1.answer in
    let isN = eqb (numbers_of e.1.answer).number n in
    or_right (makes_notice e) _
    (and_both _ _ (kind_any test e.0 (and_left (has_kind test e.0) (is_result && isN) r)) (and_left is_result isN (and_right (has_kind test e.0) (is_result && isN) r)))

-- it names the number of a row
abbrev Placed : List ℕ → State → Call × Reply → Type 0
Placed list t e = may_count e ≡ true → (i : ℕ) × (i < rows_in t.table) × (name_of list e.0 ≡ some (number_at t.table i))

-- what no number's record decided may_count nothing
unsaid_counts : (c : Call) (a : Reply) → is_outcome 2 a.answer ≡ false → (has_kind (λ kind. true) c && is_of result_class a.answer) ≡ false → may_count (c, a) ≡ false
unsaid_counts c a u k = rw (and_no (forces_off c) (is_outcome 2 a.answer) u) k

module _ (list : List ℕ) (delay : ℕ) where
  missed_counts : (c : Call) → may_count (c, missed list c) ≡ false
  missed_counts c = unsaid_counts c (missed list c) (missed_negative list c) (by_call c)
    where
      by_call : (c : Call) → (has_kind (λ kind. true) c && is_of result_class (missed list c).answer) ≡ false
      by_call (request requester scheme string reply) = refl
      by_call (framed requester message frame) = refl
      by_call (sending now number buffer) = refl
      by_call (result now number kind) = refl
      by_call (terminal number holder reply) = refl
      by_call (routes home coded asked) = refl

  nameless_counts : (c : Call) (a : Reply) → name_of list c ≡ none → is_outcome 2 a.answer ≡ false → may_count (c, a) ≡ false
  nameless_counts c a n u = unsaid_counts c a u (by_call c n)
    where
      by_call : (c : Call) → name_of list c ≡ none → (has_kind (λ kind. true) c && is_of result_class a.answer) ≡ false
      by_call (request requester scheme string reply) n = refl
      by_call (framed requester message frame) n = refl
      by_call (sending now number buffer) n = refl
      by_call (result now number kind) n = not_some (sym n)
      by_call (terminal number holder reply) n = refl
      by_call (routes home coded asked) n = refl

  single_placed : (c : Call) (t : State) → state_sound t ≡ true → Placed list t (c, (single list delay c t).0)
  single_placed c t sound u = by_name (name_of list c) refl
    where
      by_record_lem : (k : ℕ) → name_of list c ≡ some k → (o : Option Record) → record_for t k ≡ o
          → (i : ℕ) × (i < rows_in t.table) × (name_of list c ≡ some (number_at t.table i))
      by_record_lem k n none e = no_path (sym (missed_counts c) ∙ ap (λ (x : Reply × State). may_count (c, x.0)) (sym (single_absent list delay c t sound k n e)) ∙ u)
      by_record_lem k n (some r) e =
          let (i, p, q) = record_place t k r e in
          let found = row_found t.table k i p in
          (i, found.0, n ∙ ap some (sym found.1))

      by_name : (n : Option ℕ) → name_of list c ≡ n → (i : ℕ) × (i < rows_in t.table) × (name_of list c ≡ some (number_at t.table i))
      by_name none n =
          let (r, unsaid, stops) = single_stops list delay c n in
          no_path (sym (nameless_counts c r n (unsaid 2)) ∙ ap (λ (x : Reply × State). may_count (c, x.0)) (sym (stops t sound)) ∙ u)
      by_name (some k) n = by_record_lem k n (record_for t k) refl

  call_placed : (c : Call) (t : State) → state_sound t ≡ true → Placed list t (c, (call list delay c t).0)
  call_placed c t sound u = by_codes (codes_of c) refl
    where
      by_codes : (codes : Option (List ℕ)) → codes_of c ≡ codes → (i : ℕ) × (i < rows_in t.table) × (name_of list c ≡ some (number_at t.table i))
      by_codes none e = single_placed c t sound (ap (λ (x : Reply × State). may_count (c, x.0)) (sym (call_single list delay c t e)) ∙ u)
      by_codes (some codes) e =
          let quiet = crew_uncounted c e (call list delay c t).0 (λ kind. true) in
          no_path (sym (rw (quiet.0, quiet.1) refl) ∙ u)

  abbrev AllPlaced : State → List (Call × Reply) → Type 0
  AllPlaced t [] = Unit {0}
  AllPlaced t (e ∷ es) = Placed list t e × AllPlaced t es

  -- in the rows of the starting table, which has the same numbers
  all_placed : (cs : List Call) (start t : State) → Kept start t → AllPlaced start (log (call list delay) cs t)
  all_placed [] start t kept = tt
  all_placed (c ∷ cs) start t kept = (
    λ u. let (i, l, n) = call_placed c t kept.sound u in (i, rw (ap (λ (w : ℕ). w / row_words) kept.long) at l, n ∙ ap some (kept.numbers i)),
    all_placed cs start (call list delay c t).1 (kept_twice start t (call list delay c t).1 kept (calls_keep list delay (c ∷ []) t kept.sound)),
  )

  -- ---- a count is its sum over all numbers of the table

  module _ (test : Call × Reply → Bool) (counting : (e : Call × Reply) → test e ≡ true → may_count e ≡ true) (t : State) (sound : state_sound t ≡ true) where
    -- an entry may_count for one number, if it may_count
    entry_sum : (e : Call × Reply) → Placed list t e → sum_to (λ i. one (of_number list (number_at t.table i) test e)) (rows_in t.table) ≡ one (test e)
    entry_sum e placed = go (test e) refl
      where
        n : ℕ
        n = rows_in t.table

        other : (i j : ℕ) → i < n → j < n → (i ≡ j → ⊥) → eqb (number_at t.table j) (number_at t.table i) ≡ false
        other i j l k d =
            ne_eqb (number_at t.table j) (number_at t.table i)
            (λ same. ⊎_elim (λ less. let a = table_ascending t.table (state_table t sound) i j less k in omega arith)
            (λ more. let a = table_ascending t.table (state_table t sound) j i (omega arith) l in omega arith) (less_or_not i j))

        go : (b : Bool) → test e ≡ b → sum_to (λ i. one (of_number list (number_at t.table i) test e)) n ≡ one (test e)
        go false u =
            sum_many (λ i. of_number list (number_at t.table i) test e) n
            ∙ many_none (λ i. of_number list (number_at t.table i) test e) n (λ i l. and_no (names_one list e.0 (number_at t.table i)) (test e) u)
            ∙ sym (ap one u)
        go true u =
            let (j, k, named) = placed (counting e u) in
            sum_many (λ i. of_number list (number_at t.table i) test e) n
            ∙ many_one (λ i. of_number list (number_at t.table i) test e) n j k
            (and_both _ (test e) (ap (λ o. is_named o (number_at t.table j)) named ∙ eq-eqb (number_at t.table j) (number_at t.table j) refl) u)
            (λ i l d. rw (ap (λ o. is_named o (number_at t.table i)) named ∙ other i j l k d) refl)
            ∙ sym (ap one u)

    often_sum : (es : List (Call × Reply)) → AllPlaced t es → how_often test es ≡ over_numbers t (λ k. how_often test (got_by list k es))
    often_sum [] placed = sym (sum_many (λ i. false) (rows_in t.table) ∙ many_none (λ i. false) (rows_in t.table) (λ i l. refl))
    often_sum (e ∷ es) (placed, rest) =
        let n = rows_in t.table in
        let first : ℕ → ℕ = λ i. one (of_number list (number_at t.table i) test e) in
        let others : ℕ → ℕ = λ i. how_often test (got_by list (number_at t.table i) es) in
        let more = sum_same (λ i. how_often test (got_by list (number_at t.table i) (e ∷ es))) (λ i. first i + others i) n
        (λ i l. often_more list delay (number_at t.table i) test e es) in
        omega (arith, more, sum_add first others n, entry_sum e placed, often_sum es rest, one_more (test e) e (only test es))

-- ---- notices pending

-- of a sound table's rows, one by one
pending_sum : (start t : State) → Kept start t → pending_in t ≡ over_numbers start (pending_for t)
pending_sum start t kept =
    sym (sum_many (has_notice_at t.table) (rows_in t.table))
    ∙ sum_same (λ i. one (has_notice_at t.table i)) (λ i. pending_for t (number_at t.table i)) (rows_in t.table) (λ i l. row i l)
    ∙ sum_same (λ i. pending_for t (number_at t.table i)) (λ i. pending_for t (number_at start.table i)) (rows_in t.table) (λ i l. ap (pending_for t) (kept.numbers i))
    ∙ ap (sum_to (λ i. pending_for t (number_at start.table i))) (ap (λ (w : ℕ). w / row_words) kept.long)
  where
    row : (i : ℕ) → i < rows_in t.table → one (has_notice_at t.table i) ≡ pending_for t (number_at t.table i)
    row i l =
        let place = row_at t.table (state_table t kept.sound) i l in
        ap one (row_pends t.table i) ∙ ap (λ o. one (not (is_absent (notice_in o)))) (sym (record_found_lem t.table (number_at t.table i) i place))

pub pending_figures : (t : State) → state_sound t ≡ true → pending_in t ≡ waiting_figure t + in_flight_figure t
pending_figures t sound = sym (recount_notices t.table) ∙ rw (sound_state_lem t sound).figures refl

-- a routing forces nobody off, and has no kind
routing_forces : (c : Call) → is_routing c ≡ true → forces_off c ≡ false
routing_forces (request requester scheme string reply) r = no_path r
routing_forces (framed requester message frame) r = no_path r
routing_forces (sending now number buffer) r = refl
routing_forces (result now number kind) r = refl
routing_forces (terminal number holder reply) r = no_path r
routing_forces (routes home coded asked) r = refl

routing_kindless : (test : ℕ → Bool) (c : Call) → is_routing c ≡ true → has_kind test c ≡ false
routing_kindless test (request requester scheme string reply) r = refl
routing_kindless test (framed requester message frame) r = refl
routing_kindless test (sending now number buffer) r = refl
routing_kindless test (result now number kind) r = no_path r
routing_kindless test (terminal number holder reply) r = refl
routing_kindless test (routes home coded asked) r = refl

-- ---- from a table that is unsound, or with figures that are not right: every call but a routing is refused

module _ (list : List ℕ) (delay : ℕ) (t : State) (unsound : state_sound t ≡ false) where
  -- a test that no refusal passes, and no routing
  abbrev Unrefused : (Call × Reply → Bool) → Type 0
  Unrefused test =
      ((c : Call) (n : ℕ) (buffer : List ℕ) → test (c, record { answer = refusal n; buffer = buffer }) ≡ false)
      × ((c : Call) (a : Reply) → is_routing c ≡ true → test (c, a) ≡ false)

  none_passes : (test : Call × Reply → Bool) → Unrefused test → (cs : List Call) → how_often test (log (call list delay) cs t) ≡ 0
  none_passes test unrefused [] = refl
  none_passes test unrefused (c ∷ cs) =
      ⊎_elim (λ (n, buffer, e, early). rw e (rw (unrefused.0 c n buffer) (none_passes test unrefused cs)))
      (λ (a, e, looks, quiet). rw e (rw (unrefused.1 c (record { answer = a; buffer = [] }) looks) (none_passes test unrefused cs)))
      (unsound_call t unsound list delay c)

  none_made : Unrefused makes_notice
  none_made = (λ c n buffer. and_no (forces_off c) false refl, λ c a looks. rw (routing_forces c looks) refl)

  none_returned : (m : ℕ) (test : ℕ → Bool) → Unrefused (returns m test)
  none_returned m test = (λ c n buffer. and_no (has_kind test c) false refl, λ c a looks. rw (routing_kindless test c looks) refl)

  -- of one number there are at most as many
  fewer : (k : ℕ) (test : Call × Reply → Bool) (es : List (Call × Reply)) → how_often test (got_by list k es) ≤ how_often test es
  fewer k test [] = omega arith
  fewer k test (e ∷ es) =
      omega (arith, often_more list delay k test e es, one_more (test e) e (only test es), fewer k test es, named (names_one list e.0 k) (test e))
    where
      named : (b p : Bool) → one (b && p) ≤ one p
      named true p = omega arith
      named false true = omega arith
      named false false = omega arith

  module _ (cs : List Call) where
    abbrev answers : List (Call × Reply)
    answers = log (call list delay) cs t

    none_counted : (erasures answers ≡ 0) × (deliveries answers ≡ 0) × (dropped_by_kind answers ≡ 0) × (dropped_last answers ≡ 0)
    none_counted = (
      none_passes makes_notice none_made cs,
      none_passes is_delivery (none_returned delivered_number is_zero) cs,
      none_passes is_dropped_by_kind (none_returned dropped_number is_one_to_four) cs,
      none_passes is_dropped_last (none_returned dropped_number is_five) cs,
    )

    refused_balanced : Balanced answers (pending_in t) (pending_in (end (call list delay) cs t))
    refused_balanced = let (a, b, c, d) = none_counted in omega (arith, ap pending_in (unsound_end t unsound list delay cs))

    refused_balanced_of : (k : ℕ) → Balanced (got_by list k answers) (pending_for t k) (pending_for (end (call list delay) cs t) k)
    refused_balanced_of k =
        let (a, b, c, d) = none_counted in
        omega (
          arith,
          fewer k makes_notice answers,
          fewer k is_delivery answers,
          fewer k is_dropped_by_kind answers,
          fewer k is_dropped_last answers,
          ap (λ u. pending_for u k) (unsound_end t unsound list delay cs),
        )

-- ---- the theorem

module _ (list : List ℕ) (delay : ℕ) (calls : List Call) (state : State) (sound : state_sound state ≡ true) where
  abbrev got : List (Call × Reply)
  got = log (call list delay) calls state

  abbrev after : State
  after = end (call list delay) calls state

  kept : Kept state after
  kept = calls_keep list delay calls state sound

  start : Kept state state
  start = calls_keep list delay [] state sound

  summed : (test : Call × Reply → Bool) → ((e : Call × Reply) → test e ≡ true → may_count e ≡ true) → how_often test got ≡ over_numbers state (λ k. how_often test (got_by list k got))
  summed test counting = often_sum list delay test counting state sound got (all_placed list delay calls state state start)

  made_summed : erasures got ≡ over_numbers state (λ k. erasures (got_by list k got))
  made_summed = summed makes_notice made_counts

  all_numbers : Balanced got (pending_in state) (pending_in after)
  all_numbers =
      let n = rows_in state.table in
      let number : ℕ → ℕ = λ i. number_at state.table i in
      let e : ℕ → ℕ = λ i. erasures (got_by list (number i) got) in
      let p : ℕ → ℕ = λ i. pending_for state (number i) in
      let d : ℕ → ℕ = λ i. deliveries (got_by list (number i) got) in
      let k : ℕ → ℕ = λ i. dropped_by_kind (got_by list (number i) got) in
      let l : ℕ → ℕ = λ i. dropped_last (got_by list (number i) got) in
      let q : ℕ → ℕ = λ i. pending_for after (number i) in
      omega (
        arith,
        made_summed,
        summed is_delivery (returned_counts _ _),
        summed is_dropped_by_kind (returned_counts _ _),
        summed is_dropped_last (returned_counts _ _),
        pending_sum state state start,
        pending_sum state after kept,
        sum_same (λ i. e i + p i) (λ i. d i + k i + l i + q i) n (λ i b. each_number list delay (number i) calls state sound),
        sum_add e p n,
        sum_add (λ i. d i + k i + l i) q n,
        sum_add (λ i. d i + k i) l n,
        sum_add d k n,
      )

  pub accounted : Accounted list delay calls state
  accounted = record {
    each_number = λ k. each_number list delay k calls state sound;
    all_numbers = all_numbers;
    erasures_sum = made_summed;
    deliveries_sum = summed is_delivery (returned_counts _ _);
    dropped_sum = summed is_dropped_by_kind (returned_counts _ _);
    last_sum = summed is_dropped_last (returned_counts _ _);
    pending_sum = pending_sum state after kept;
    on_the_page = pending_figures after kept.sound;
    sent_to_lem = λ i now number buffer a e s. sent_on list delay number.0 calls state sound (notified_in (record_for state number.0)) (λ p. refl) i now number buffer a refl e s;
    ended_between = λ k. ended_between list delay k calls state sound;
    ended_before = λ k j pending made. ended_before list delay k calls state sound pending j made;
  }

-- from any table, whatever the figures
module _ (list : List ℕ) (delay : ℕ) (calls : List Call) (state : State) where
  abbrev entries : List (Call × Reply)
  entries = log (call list delay) calls state

  abbrev left : State
  left = end (call list delay) calls state

  pub balanced : Balanced entries (pending_in state) (pending_in left)
  balanced = go (state_sound state) refl
    where
      go : (b : Bool) → state_sound state ≡ b → Balanced entries (pending_in state) (pending_in left)
      go true sound = (accounted list delay calls state sound).all_numbers
      go false unsound = refused_balanced list delay state unsound calls

  pub balanced_of : (k : ℕ) → Balanced (got_by list k entries) (pending_for state k) (pending_for left k)
  balanced_of k = go (state_sound state) refl
    where
      go : (b : Bool) → state_sound state ≡ b → Balanced (got_by list k entries) (pending_for state k) (pending_for left k)
      go true sound = (accounted list delay calls state sound).each_number k
      go false unsound = refused_balanced_of list delay state unsound calls k

  -- "From a sound table with no notices": no notice is lost
  pub no_notice_lost : pending_in state ≡ 0 → erasures entries ≡ deliveries entries + dropped_by_kind entries + dropped_last entries + pending_in left
  no_notice_lost none-pending = omega (arith, balanced)

  -- and of every number by itself
  pub no_notice_lost_of : (k : ℕ) → pending_for state k ≡ 0
      → let its = got_by list k entries in erasures its ≡ deliveries its + dropped_by_kind its + dropped_last its + pending_for left k
  no_notice_lost_of k none-pending = omega (arith, balanced_of k)
