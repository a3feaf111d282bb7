-- "A notice thus ends after at most" `most_sendings` "sendings, each followed by a result": for one number, over any list of calls. Assumes nothing.
use mathlib.Core.Path.{◌≡◌, refl, sym, ◌∙◌, ap}
use mathlib.Core.Bool.{Bool, true, false, cond}
use mathlib.Core.Option.{Option, some, none}
use mathlib.Core.List.{List, [], ◌∷◌}
use Prim.Native.Nat.{ℕ, zero, suc, ◌+◌, ◌-◌, ◌≤◌, ◌<◌}
use native.Mathlib.Omega.{arith}
use lib.ListN.{length}
use lib.Dec.{eqb, ltb}
use Rattle.answers.proofs.Decide.{decide_each}
use Rattle.answers.proofs.Tests.{no_path, and_right, and_no}
use Rattle.numbers.specs.declared.Msisdn.{Msisdn}
use Rattle.strings.specs.Text.{Request}
use Rattle.records.specs.declared.Notice.{Notice}
use Rattle.records.specs.declared.Notice.TheVariants.{Absent, Waiting, InFlight}
use Rattle.records.specs.declared.Record.{Record}
use Rattle.records.specs.Steps.{held_by, most_sendings, is_absent, is_waiting, is_in_flight, sendings_done, launched}
use Rattle.rows.proofs.Rows.{record_sound_lem}
use Rattle.rows.proofs.Kept.{few_sendings}
use Rattle.tables.specs.Keys.{Found}
use Rattle.std.specs.Prelude.{Some, None}
use Rattle.tables.proofs.Stored.{record_found_lem, record_missing}
use Rattle.states.specs.States.{State, state_sound, row_for, record_for, record_in}
use Rattle.rules.specs.Answers.{refusal, buffer_room, is_sent}
use Rattle.rules.specs.Run.{only, end, log}
use Rattle.rules.specs.Notices.{notice_in}
use Rattle.rules.specs.Calls.{Call, Reply, request, framed, sending, result, terminal, routes, call, names_one, codes_of, steps}
use Rattle.rules.specs.Visits.{Visited}
use Rattle.rules.specs.Figures.{is_routing}
use Rattle.rules.specs.Entries.{never, holds_at, Between}
use Rattle.promises.specs.Pending.{notice_for, is_sending_of, is_result_of, sending_done, result_taken, notice_cleared}
use Rattle.rules.proofs.Once.{single}
use Rattle.rules.proofs.Visits.{found_sound}
use Rattle.rules.proofs.Single.{call_single, singles_log}
use Rattle.rules.proofs.Calls.{all_steps_single, singly_end, calls_keep}
use Rattle.promises.proofs.Along.{is_request, Asked, negative, registration, erasure, herself, forced, Does, asks, unsent, sends, untaken, clears, goes_on, unmoved, removes, looks, delivers, drops, gives_up, Passed, unnamed, missing, refused, looked, Along, ends, passes, visits, along, never_first}

-- ---- one visit

pub launched_flies : (n : Notice) → is_waiting n ≡ true → is_in_flight (launched n) ≡ true
launched_flies Absent w = w
launched_flies (Waiting k s) w = refl
launched_flies (InFlight k) w = refl

launched_one_more : (n : Notice) → is_waiting n ≡ true → sendings_done (launched n) ≡ sendings_done n + 1
launched_one_more Absent w = no_path w
launched_one_more (Waiting k s) w = refl
launched_one_more (InFlight k) w = no_path w

not_both : (n : Notice) → is_waiting n ≡ true → is_in_flight n ≡ true → ⊥
not_both Absent w f = no_path w
not_both (Waiting k s) w f = no_path f
not_both (InFlight k) w f = no_path w

pub flies_pending : (n : Notice) → is_in_flight n ≡ true → is_absent n ≡ false
flies_pending Absent f = no_path f
flies_pending (Waiting k s) f = refl
flies_pending (InFlight k) f = refl

-- one entry more, or none
pub one_more : {X : Type 0} (b : Bool) (x : X) (xs : List X) → length (cond b (x ∷ xs) xs) ≡ cond b 1 0 + length xs
one_more true x xs = omega arith
one_more false x xs = omega arith

-- a request leaves a pending notice as it is: it changes the holder at most
asked_keeps : {list : List ℕ} {r next : Record} {requester : Msisdn} {read : Option Request} {one two : Bool}
    → Asked list r requester read one two next → is_absent r.notice ≡ false → next ≡ held_by next.holder r
asked_keeps negative n = refl
asked_keeps (registration p q x h) n = refl
asked_keeps (erasure p q h m right) n = refl
asked_keeps (herself p q h m w) n = refl
asked_keeps (forced p q h m d x y z v) n = no_path (sym n ∙ x)

-- a request, framed or not, is neither a sending nor a result
pub request_unsent : (k : ℕ) (c : Call) (a : Reply) → is_request c ≡ true → sending_done k (c, a) ≡ false
request_unsent k (request requester scheme string reply) a e = refl
request_unsent k (framed requester message frame) a e = refl
request_unsent k (sending now number buffer) a e = no_path e
request_unsent k (result now number kind) a e = no_path e
request_unsent k (terminal number holder reply) a e = no_path e
request_unsent k (routes home coded asked) a e = no_path e

request_untaken : (k : ℕ) (c : Call) (a : Reply) → is_request c ≡ true → result_taken k (c, a) ≡ false
request_untaken k (request requester scheme string reply) a e = refl
request_untaken k (framed requester message frame) a e = refl
request_untaken k (sending now number buffer) a e = no_path e
request_untaken k (result now number kind) a e = no_path e
request_untaken k (terminal number holder reply) a e = no_path e
request_untaken k (routes home coded asked) a e = no_path e

-- neither is a routing
routing_unsent : (k : ℕ) (c : Call) → is_routing c ≡ true → is_sending_of k c ≡ false
routing_unsent k (request requester scheme string reply) r = refl
routing_unsent k (framed requester message frame) r = refl
routing_unsent k (sending now number buffer) r = no_path r
routing_unsent k (result now number kind) r = refl
routing_unsent k (terminal number holder reply) r = refl
routing_unsent k (routes home coded asked) r = refl

routing_untaken : (k : ℕ) (c : Call) → is_routing c ≡ true → is_result_of k c ≡ false
routing_untaken k (request requester scheme string reply) r = refl
routing_untaken k (framed requester message frame) r = refl
routing_untaken k (sending now number buffer) r = refl
routing_untaken k (result now number kind) r = no_path r
routing_untaken k (terminal number holder reply) r = refl
routing_untaken k (routes home coded asked) r = refl

-- behind one entry more
pub farther : {X : Type 0} {test : X → Bool} {x : X} {l : List X} {i n j : ℕ} → n ≤ suc i → Between test l i j → Between test (x ∷ l) n (suc j)
farther h b = record { place = suc b.place; behind = omega arith; before = omega arith; passes = b.passes }

-- the notice of r is pending still in the record `next`, to the same addressee, from the same supervisor, and counts the entry if it is a sending of k that succeeded
pub record StillPending (k : ℕ) (r : Record) (entry : Call × Reply) (next : Record) : Type 0 where
  pub pending : is_absent next.notice ≡ false
  pub addressee : next.addressee ≡ r.addressee
  pub supervisor : next.supervisor ≡ r.supervisor
  pub done : sendings_done next.notice ≡ sendings_done r.notice + cond (sending_done k entry) 1 0

module _ (list : List ℕ) (k : ℕ) where
  -- a call that does not come to a record of k is no sending of it that succeeds, and no result that is taken
  pub passed_unsent : (c : Call) {a : Reply} → Passed list k c a → sending_done k (c, a) ≡ false
  passed_unsent c refused = and_no (is_sending_of k c) false refl
  passed_unsent c (looked r p q) = rw (routing_unsent k c r) refl
  passed_unsent (request requester scheme string reply) (unnamed n) = refl
  passed_unsent (framed requester message frame) (unnamed n) = refl
  passed_unsent (sending now number buffer) (unnamed n) = rw n
  passed_unsent (result now number kind) (unnamed n) = refl
  passed_unsent (terminal number holder reply) (unnamed n) = refl
  passed_unsent (routes home coded asked) (unnamed n) = refl
  passed_unsent (request requester scheme string reply) missing = refl
  passed_unsent (framed requester message frame) missing = refl
  passed_unsent (sending now number buffer) missing =
      and_no (eqb number.0 k) _ (decide_each (λ (a : Reply). is_sent a.answer ≡ false)
      ((ltb (length buffer) buffer_room, record { answer = refusal 1; buffer = buffer }) ∷ []) (record { answer = refusal 7; buffer = buffer }) (refl, tt) refl)
  passed_unsent (result now number kind) missing = refl
  passed_unsent (terminal number holder reply) missing = refl
  passed_unsent (routes home coded asked) missing = refl

  passed_untaken : (c : Call) {a : Reply} → Passed list k c a → result_taken k (c, a) ≡ false
  passed_untaken c refused = and_no (is_result_of k c) false refl
  passed_untaken c (looked r p q) = rw (routing_untaken k c r) refl
  passed_untaken (request requester scheme string reply) (unnamed n) = refl
  passed_untaken (framed requester message frame) (unnamed n) = refl
  passed_untaken (sending now number buffer) (unnamed n) = refl
  passed_untaken (result now number kind) (unnamed n) = rw n
  passed_untaken (terminal number holder reply) (unnamed n) = refl
  passed_untaken (routes home coded asked) (unnamed n) = refl
  passed_untaken (request requester scheme string reply) missing = refl
  passed_untaken (framed requester message frame) missing = refl
  passed_untaken (sending now number buffer) missing = refl
  passed_untaken (result now number kind) missing = and_no (eqb number.0 k) false refl
  passed_untaken (terminal number holder reply) missing = refl
  passed_untaken (routes home coded asked) missing = refl

  -- a sending that succeeds finds the notice waiting and leaves it in flight
  pub sent_flies : {r : Record} {c : Call} {v : Visited} → Does list r c v → sending_done k (c, v.reply) ≡ true
      → (is_waiting r.notice ≡ true) × (is_in_flight v.next.notice ≡ true)
  sent_flies {c = c} {v = v} (asks i d) s = no_path (sym (request_unsent k c v.reply i) ∙ s)
  sent_flies (unsent {number = number}) s = no_path (and_right (eqb number.0 k) false s)
  sent_flies {r} (sends w) s = (w, launched_flies r.notice w)
  sent_flies untaken s = no_path s
  sent_flies (clears w e) s = no_path s
  sent_flies (goes_on w p) s = no_path s
  sent_flies (unmoved p q) s = no_path s
  sent_flies (removes m x z) s = no_path s
  sent_flies (looks p q) s = no_path s

  -- a notice in flight stays in flight, up to a result that is not refused
  flying_on : {r : Record} {c : Call} {v : Visited} → names_one list c k ≡ true → Does list r c v → is_in_flight r.notice ≡ true
      → result_taken k (c, v.reply) ≡ false → is_in_flight v.next.notice ≡ true
  flying_on {r} n (asks i d) f u = rw (asked_keeps d (flies_pending r.notice f)) f
  flying_on n unsent f u = f
  flying_on {r} n (sends w) f u = absurd (not_both r.notice w f)
  flying_on n untaken f u = f
  flying_on n (clears w (delivers e)) f u = no_path (sym (rw n at u))
  flying_on n (clears w (drops e l)) f u = no_path (sym (rw n at u))
  flying_on n (clears w (gives_up e l m)) f u = no_path (sym (rw n at u))
  flying_on n (goes_on w p) f u = no_path (sym (rw n at u))
  flying_on n (unmoved p q) f u = f
  flying_on {r} n (removes m x z) f u = no_path (sym (flies_pending r.notice f) ∙ x)
  flying_on n (looks p q) f u = f

  -- a pending notice is pending still, up to the result that clears it
  pub still_pending : {r : Record} {c : Call} {v : Visited} → names_one list c k ≡ true → Does list r c v → is_absent r.notice ≡ false
      → notice_cleared k (c, v.reply) ≡ false → StillPending k r (c, v.reply) v.next
  still_pending {c = c} {v = v} n (asks i d) a u =
      rw (asked_keeps d a) (record { pending = a; addressee = refl; supervisor = refl; done = rw (request_unsent k c v.reply i) (omega arith) })
  still_pending n unsent a u = record { pending = a; addressee = refl; supervisor = refl; done = rw n (omega arith) }
  still_pending {r} n (sends w) a u =
      record { pending = flies_pending (launched r.notice) (launched_flies r.notice w); addressee = refl; supervisor = refl; done = rw n (launched_one_more r.notice w) }
  still_pending n untaken a u = record { pending = a; addressee = refl; supervisor = refl; done = omega arith }
  still_pending n (clears w (delivers e)) a u = no_path (sym (rw n at u))
  still_pending n (clears w (drops e l)) a u = no_path (sym (rw n at u))
  still_pending n (clears w (gives_up e l m)) a u = no_path (sym (rw n at u))
  still_pending n (goes_on w p) a u = record { pending = refl; addressee = refl; supervisor = refl; done = omega arith }
  still_pending n (unmoved p q) a u = record { pending = a; addressee = refl; supervisor = refl; done = omega arith }
  still_pending n (removes m x z) a u = no_path (sym a ∙ x)
  still_pending n (looks p q) a u = record { pending = a; addressee = refl; supervisor = refl; done = omega arith }

  -- a result that is taken after the last sending clears the notice
  last_clears : {r : Record} {c : Call} {v : Visited} → Does list r c v → sendings_done r.notice ≡ most_sendings → result_taken k (c, v.reply) ≡ true
      → v.next.notice ≡ Absent
  last_clears {c = c} {v = v} (asks i d) m u = no_path (sym (request_untaken k c v.reply i) ∙ u)
  last_clears unsent m u = no_path u
  last_clears (sends w) m u = no_path u
  last_clears (untaken {number = number}) m u = no_path (and_right (eqb number.0 k) false u)
  last_clears (clears w e) m u = refl
  last_clears (goes_on w p) m u = no_path (sym (rw m at p))
  last_clears (unmoved p q) m u = no_path u
  last_clears (removes n x z) m u = no_path u
  last_clears (looks p q) m u = no_path u

  -- ---- the walk along the calls

  -- from a notice in flight, behind an entry x: before a sending that succeeds stands a result that is taken
  result_first : {r : Record} {l : List (Call × Reply)} {p : Option Record} → Along list k (some r) l p → is_in_flight r.notice ≡ true
      → (x : Call × Reply) (j : ℕ) → holds_at (sending_done k) l j ≡ true → Between (result_taken k) (x ∷ l) zero (suc j)
  result_first ends f x j s = no_path s
  result_first (passes {c = c} n rest) f x zero s = no_path (sym (passed_unsent c n) ∙ s)
  result_first (passes n rest) f x (suc j) s = farther (omega arith) (result_first rest f _ j s)
  result_first {r} (visits n d rest) f x zero s = absurd (not_both r.notice (sent_flies d s).0 f)
  result_first (visits {c = c} {v = v} {l = l} n d rest) f x (suc j) s = go (result_taken k (c, v.reply)) refl (λ f. result_first rest f (c, v.reply) j s)
    where
      go : (b : Bool) → result_taken k (c, v.reply) ≡ b → (is_in_flight v.next.notice ≡ true → Between (result_taken k) ((c, v.reply) ∷ l) zero (suc j))
          → Between (result_taken k) (x ∷ (c, v.reply) ∷ l) zero (suc (suc j))
      go true u ih = record { place = suc zero; behind = omega arith; before = omega arith; passes = u }
      go false u ih = farther (omega arith) (ih (flying_on n d f u))

  result_between : {o p : Option Record} {l : List (Call × Reply)} → Along list k o l p → (i j : ℕ) → i < j
      → holds_at (sending_done k) l i ≡ true → holds_at (sending_done k) l j ≡ true → Between (result_taken k) l i j
  result_between w i zero h s t = absurd (omega arith)
  result_between ends i (suc j) h s t = no_path s
  result_between (passes {c = c} n rest) zero (suc j) h s t = no_path (sym (passed_unsent c n) ∙ s)
  result_between (visits n d rest) zero (suc j) h s t = result_first rest (sent_flies d s).1 _ j t
  result_between (passes n rest) (suc i) (suc j) h s t = farther (omega arith) (result_between rest i j (omega arith) s t)
  result_between (visits n d rest) (suc i) (suc j) h s t = farther (omega arith) (result_between rest i j (omega arith) s t)

  -- while the notice is not cleared, its sendings done are those at first and those that succeed
  sendings_add : {o p : Option Record} {l : List (Call × Reply)} → Along list k o l p → is_absent (notice_in o) ≡ false → never (notice_cleared k) l ≡ true
      → sendings_done (notice_in p) ≡ sendings_done (notice_in o) + length (only (sending_done k) l)
  sendings_add ends a u = omega arith
  sendings_add (passes {c = c} {a = reply} {l = l} n rest) a u = rw (passed_unsent c n) (sendings_add rest a (never_first (notice_cleared k) (c, reply) l u).1)
  sendings_add (visits {c = c} {v = v} {l = l} n d rest) a u =
      let (first, then) = never_first (notice_cleared k) (c, v.reply) l u in
      let still = still_pending n d a first in
      omega (arith, still.done, sendings_add rest still.pending then, one_more (sending_done k (c, v.reply)) (c, v.reply) (only (sending_done k) l))

  last_ends : {o p : Option Record} {x : Call × Reply} → Along list k o (x ∷ []) p → sendings_done (notice_in o) ≡ most_sendings → result_taken k x ≡ true
      → notice_in p ≡ Absent
  last_ends (passes {c = c} n ends) m u = no_path (sym (passed_untaken c n) ∙ u)
  last_ends (visits n d ends) m u = last_clears d m u

-- of a sound state no more than the most sendings are done
pub state_most : (state : State) (k : ℕ) → state_sound state ≡ true → sendings_done (notice_for state k) ≤ most_sendings
state_most state k sound = go (row_for state k) refl
  where
    go : (place : Found) → row_for state k ≡ place → sendings_done (notice_for state k) ≤ most_sendings
    go None e = rw (record_missing state.table k e) (omega arith)
    go (Some i) e = rw (record_found_lem state.table k i e) (few_sendings (record_in state i) (record_sound_lem state.table i (found_sound state k i sound e)))

-- ---- the notice ends

-- a result is its own step
result_single : (k : ℕ) (e : Call × Reply) → result_taken k e ≡ true → codes_of e.0 ≡ none
result_single k (request requester scheme string reply, a) u = no_path u
result_single k (framed requester message frame, a) u = no_path u
result_single k (sending now number buffer, a) u = no_path u
result_single k (result now number kind, a) u = refl
result_single k (terminal number holder reply, a) u = no_path u
result_single k (routes home coded asked, a) u = no_path u

-- a result naming k that is not refused, with the most sendings done, of whatever kind, leaves k's phase 0
pub last_result_ends : (list : List ℕ) (delay k : ℕ) (c : Call) (state : State) → sendings_done (notice_for state k) ≡ most_sendings
    → result_taken k (c, (call list delay c state).0) ≡ true → notice_for (call list delay c state).1 k ≡ Absent
last_result_ends list delay k c state m u =
    let same = call_single list delay c state (result_single k (c, (call list delay c state).0) u) in
    ap (λ r. notice_for r.1 k) same ∙ last_ends list k (along list delay k (c ∷ []) state) m (ap (λ r. result_taken k (c, r.0)) (sym same) ∙ u)

-- over any list of calls, by their single steps; a sending and a result are their own
module _ (list : List ℕ) (delay k : ℕ) (calls : List Call) (state : State) where
  abbrev got : List (Call × Reply)
  got = log (call list delay) (steps list calls) state

  abbrev after : State
  after = end (call list delay) calls state

  got_singly_lem : got ≡ log (single list delay) (steps list calls) state
  got_singly_lem = singles_log list delay (steps list calls) state (all_steps_single list delay calls)

  seen : Along list k (record_for state k) got (record_for after k)
  seen = rw (got_singly_lem, singly_end list delay calls state) (along list delay k (steps list calls) state)

  -- between two sendings of k that succeed stands a result naming k that was not refused
  pub between_two_sendings : (i j : ℕ) → i < j → holds_at (sending_done k) got i ≡ true → holds_at (sending_done k) got j ≡ true → Between (result_taken k) got i j
  between_two_sendings = result_between list k seen

  -- while k's notice is pending, up to the result that clears it
  module _ (pending : is_absent (notice_for state k) ≡ false) (uncleared : never (notice_cleared k) got ≡ true) where
    -- its phase counts its sendings that succeed
    pub sendings_counted : sendings_done (notice_for after k) ≡ sendings_done (notice_for state k) + length (only (sending_done k) got)
    sendings_counted = sendings_add list k seen pending uncleared

    -- in a sound state no more of them succeed than the most less those done
    pub sendings_left : state_sound state ≡ true → length (only (sending_done k) got) ≤ most_sendings - sendings_done (notice_for state k)
    sendings_left sound = omega (arith, sendings_counted, state_most after k (calls_keep list delay calls state sound).sound)

    -- and a result that is taken after the last ends it
    pub ends_after_the_last : sendings_done (notice_for state k) + length (only (sending_done k) got) ≡ most_sendings
        → (c : Call) → result_taken k (c, (call list delay c after).0) ≡ true → notice_for (call list delay c after).1 k ≡ Absent
    ends_after_the_last all c u = last_result_ends list delay k c after (sendings_counted ∙ all) u
