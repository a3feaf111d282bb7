-- The driver: who holds a number ceases to hold it only by an erasure of her own, by that of the number's own subscriber, by a supervisor who names her or at the node's terminal, where she is named, and nobody comes to hold it but by her own registration. Assumes nothing.
use mathlib.Core.Path.{◌≡◌, refl, sym, ap, ◌∙◌, subst}
use mathlib.Core.Logic.{◌⊎◌, inl, inr, ⊎_elim}
use mathlib.Core.Bool.{Bool, true, false, ◌||◌}
use mathlib.Core.Option.{Option, none, some}
use mathlib.Core.List.{List, [], ◌∷◌}
use Prim.Native.Nat.{ℕ, suc}
use native.Mathlib.Omega.{arith}
use borrow.Author.Tests.{eqb-true, eq-eqb, not-false}
use Rattle.answers.proofs.Decide.{all_pass}
use Rattle.answers.proofs.Tests.{no_path, and_both, or_cases, or_left, or_right, or_neither, same_or_not}
use Rattle.numbers.specs.Numbers.{nobody, is_nobody}
use Rattle.numbers.specs.declared.FunctionalNumber.{FunctionalNumber}
use Rattle.numbers.specs.declared.Msisdn.{Msisdn}
use Rattle.strings.specs.Text.{Request}
use Rattle.records.specs.declared.Record.{Record}
use Rattle.records.specs.Steps.{same, is_own, is_absent, forced_off}
use Rattle.tables.specs.Tables.{list_sound, flags_of}
use Rattle.rules.specs.Answers.{is_outcome}
use Rattle.rules.specs.Frames.{own_reply}
use Rattle.rules.specs.Run.{end, log}
use Rattle.rules.specs.Requests.{refusal_checks, has_follow_me, is_supervisor, holder_in, no_notice}
use Rattle.rules.specs.Calls.{Call, Reply, request, framed, sending, result, terminal, routes, call, read_of, name_of, names_one, codes_of, steps}
use Rattle.rules.specs.Visits.{Visited, visit_saying}
use Rattle.rules.specs.Entries.{never}
use Rattle.promises.specs.Users.{is_of_notice, both_flags, asker_of, erases_hold_in, clears_hold, may_end_hold, ends_hold, begins_hold, Stood, HoldEnded, HoldBegun}
use Rattle.rules.specs.Demand.{is_crew_outcome, may_change, registers_as, registers, requester_of, holder_of}
use Rattle.tables.proofs.Stored.{flags_small}
use Rattle.states.specs.States.{State, state_sound, record_for}
use Rattle.rules.proofs.Inside.{named_inside}
use Rattle.rules.proofs.Unsound.{unsound_stays}
use Rattle.rules.proofs.Single.{call_single, singles_log}
use Rattle.rules.proofs.Steps.{goes_said, View, own as alone-step, stops, goes, view}
use Rattle.rules.proofs.Calls.{all_steps_single, singly_end}
use Rattle.rules.proofs.Visits.{naming}
use Rattle.rules.proofs.Local.{named_some}
use Rattle.promises.proofs.Along.{is_request, Asked, AskedIn, negative, registration, erasure, herself, forced, Does, asks, unsent, sends, untaken, clears, goes_on, unmoved, removes, looks, Along, ends, passes, visits, along, word, one_msisdn, same_one, one_same, never_first}

-- ---- what the tests say

-- a request that names a number was given a sound list
bare_listed : (list : List ℕ) (k : ℕ) (requester : Msisdn) (scheme : ℕ) (string reply : List ℕ)
    → name_of list (request requester scheme string reply) ≡ some k → list_sound list ≡ true
bare_listed list k requester scheme string reply n =
    not-false _ (all_pass (refusal_checks true true list reply requester scheme string) (naming list reply requester scheme string k n).passed).1.0

named_listed : (list : List ℕ) (k : ℕ) (c : Call) → is_request c ≡ true → names_one list c k ≡ true → list_sound list ≡ true
named_listed list k (request requester scheme string reply) e n =
    bare_listed list k requester scheme string reply (named_some (name_of list (request requester scheme string reply)) k n)
named_listed list k (framed requester message frame) e n =
    let (i, inside, m) = named_inside list frame message requester k (named_some (name_of list (framed requester message frame)) k n) in
    bare_listed list k requester i.scheme i.string own_reply m
named_listed list k (sending now number buffer) e n = no_path e
named_listed list k (result now number kind) e n = no_path e
named_listed list k (terminal number holder reply) e n = no_path e
named_listed list k (routes home coded asked) e n = no_path e

-- "flags 0 to 3: 1 has Follow Me, 2 supervisor"
both_flags_lem : (list : List ℕ) (msisdn : ℕ) → list_sound list ≡ true → has_follow_me (flags_of list msisdn) ≡ true → is_supervisor (flags_of list msisdn) ≡ true
    → flags_of list msisdn ≡ both_flags
both_flags_lem list msisdn sound f s = omega (arith, eqb-true, flags_small list sound msisdn)

-- ---- one visit

-- what is answered neither 01 nor 02 leaves the holder
asked_keeps : {list : List ℕ} {r next : Record} {q : Msisdn} {read : Option Request} {one two : Bool} → Asked list r q read one two next
    → one ≡ false → two ≡ false → next.holder ≡ r.holder
asked_keeps negative a b = refl
asked_keeps (registration p q x h) a b = no_path (sym a)
asked_keeps (erasure p q h m right) a b = no_path (sym b)
asked_keeps (herself p q h m w) a b = no_path (sym b)
asked_keeps (forced p q h m d x y z v) a b = no_path (sym b)

-- a request leaves the holder, or nobody, or gives the number to who registers it
asked_gives : {list : List ℕ} {r next : Record} {q : Msisdn} {read : Option Request} {one two : Bool} → Asked list r q read one two next
    → (next.holder ≡ r.holder) ⊎ ((next.holder ≡ nobody) ⊎ ((registers_as read ≡ true) × (one ≡ true) × (next.holder.0 ≡ q.0)))
asked_gives negative = inl refl
asked_gives (registration p q x h) = inr (inr (rw (p, q) refl, refl, refl))
asked_gives (erasure p q h m right) = inr (inl refl)
asked_gives (herself p q h m w) = inr (inl refl)
asked_gives (forced p q h m d x y z v) = inr (inl refl)

-- h holds the number still, or an erasure has ended her hold
asked_ends : {list : List ℕ} {r next : Record} {q : Msisdn} {read : Option Request} {one two : Bool} → Asked list r q read one two next
    → (h : Msisdn) → is_nobody h ≡ false → list_sound list ≡ true → r.holder ≡ h
    → (next.holder ≡ h) ⊎ ((next.holder ≡ nobody) × (two ≡ true)
    × ((b : Bool) → (is_absent r.notice ≡ true → b ≡ true) → erases_hold_in h b q (flags_of list q.0) read ≡ true))
asked_ends negative h held sound e = inl e
asked_ends {q = requester} (registration p q x w) h held sound e = inl (sym (same_one h requester (not-false _ (rw (e, held) at w))))
asked_ends {r = r} {q = requester} (erasure {f} p q w m right) h held sound e =
    let ends = ⊎_elim (λ s. or_left _ _ (one_same requester h (sym (same_one r.holder requester s) ∙ e))) (λ o. or_right (same requester h) _ (and_both (is_own f.number requester) true o refl)) (or_cases _ _ m) in
    inr (refl, refl, λ b i. rw (p, q, w, right) ends)
asked_ends {r = r} {q = requester} (herself {named = named} p q w m o) h held sound e =
    let of = one_same named h (sym (same_one r.holder named m) ∙ e) in
    let by = one_same requester h (sym (same_one r.holder requester o) ∙ e) in
    inr (refl, refl, λ b i. rw (p, q, w, of, by) refl)
asked_ends {list} {r = r} {q = requester} (forced {named = named} p q w m d x y z v) h held sound e =
    let of = one_same named h (sym (same_one r.holder named m) ∙ e) in
    let flags = both_flags_lem list requester.0 sound y z in
    inr (refl, refl, λ b i. rw (p, q, w, of, flags, i x) (or_right (same requester h) true refl))

-- a call asks for something, leaves the holder, or forces her off at the terminal
data Holding (list : List ℕ) (r : Record) : Call → Visited → Type 0 where
  asking : {c : Call} {v : Visited} → is_request c ≡ true → AskedIn list r (asker_of c) (read_of c) v → Holding list r c v
  keeping : {c : Call} {v : Visited} → v.next.holder ≡ r.holder → Holding list r c v
  removing : {number : FunctionalNumber} {holder : Msisdn} {reply : List ℕ} → same r.holder holder ≡ true → is_absent r.notice ≡ true
      → Holding list r (terminal number holder reply) (visit_saying 2 reply (forced_off nobody r))

holding : {list : List ℕ} {r : Record} {c : Call} {v : Visited} → Does list r c v → Holding list r c v
holding (asks i d) = asking i d
holding unsent = keeping refl
holding (sends w) = keeping refl
holding untaken = keeping refl
holding (clears f e) = keeping refl
holding (goes_on f p) = keeping refl
holding (unmoved p q) = keeping refl
holding (removes m x z) = removing m x
holding (looks p q) = keeping refl

asks_no_notice : (c : Call) → is_request c ≡ true → is_of_notice c ≡ false
asks_no_notice (request requester scheme string reply) i = refl
asks_no_notice (framed requester message frame) i = refl
asks_no_notice (sending now number buffer) i = no_path i
asks_no_notice (result now number kind) i = no_path i
asks_no_notice (terminal number holder reply) i = refl
asks_no_notice (routes home coded asked) i = refl

-- no sending and no result changes the holder, and no answer but 01 and 02
notice_keeps : {list : List ℕ} {r : Record} {c : Call} {v : Visited} → Holding list r c v → is_of_notice c ≡ true → v.next.holder ≡ r.holder
notice_keeps {c = c} (asking i d) e = no_path (sym (asks_no_notice c i) ∙ e)
notice_keeps (keeping s) e = s
notice_keeps (removing m x) e = no_path e

negative_keeps : {list : List ℕ} {r : Record} {c : Call} {v : Visited} → Holding list r c v
    → is_outcome 1 v.reply.answer ≡ false → is_outcome 2 v.reply.answer ≡ false → v.next.holder ≡ r.holder
negative_keeps (keeping s) a b = s
negative_keeps (asking i d) a b = asked_keeps d a b
negative_keeps (removing m x) a b = no_path (sym b)

-- a visit leaves the holder, or nobody, or gives the number to who registers it
visit_gives : {list : List ℕ} {r : Record} {c : Call} {v : Visited} → Holding list r c v
    → (v.next.holder ≡ r.holder) ⊎ ((v.next.holder ≡ nobody) ⊎ ((registers c ≡ true) × (is_outcome 1 v.reply.answer ≡ true) × (v.next.holder.0 ≡ requester_of c)))
visit_gives (keeping s) = inl s
visit_gives (asking i d) = asked_gives d
visit_gives (removing m x) = inr (inl refl)

-- nobody holds a free number still, or who holds it has registered it
visit_begins : {list : List ℕ} {r : Record} {c : Call} {v : Visited} → Holding list r c v → r.holder ≡ nobody
    → (v.next.holder ≡ nobody) ⊎ ((registers c ≡ true) × (is_outcome 1 v.reply.answer ≡ true) × (v.next.holder.0 ≡ requester_of c))
visit_begins d e = ⊎_elim (λ s. inl (s ∙ e)) (λ x. x) (visit_gives d)

module _ (list : List ℕ) (k : ℕ) (h : Msisdn) (held : is_nobody h ≡ false) where
  -- h holds the number still, or an erasure has ended her hold
  visit_ends : {r : Record} {c : Call} {v : Visited} → Holding list r c v → names_one list c k ≡ true → r.holder ≡ h
      → (v.next.holder ≡ h) ⊎ ((v.next.holder ≡ nobody) × (is_outcome 2 v.reply.answer ≡ true)
      × ((b : Bool) → (is_absent r.notice ≡ true → b ≡ true) → may_end_hold list h b c ≡ true))
  visit_ends (keeping s) n e = inl (s ∙ e)
  visit_ends {c = c} (asking i d) n e =
      ⊎_elim inl (λ (f, a, m). inr (f, a, λ b i. or_left _ (clears_hold h b c) (m b i))) (asked_ends d h held (named_listed list k c i n) e)
  visit_ends {r} (removing {holder = holder} m x) n e =
      inr (refl, refl, λ b i. rw (one_same holder h (sym (same_one r.holder holder m) ∙ e), i x) refl)

  -- ---- the walk along the calls

  ended_once : {o p : Option Record} {x : Call × Reply} → Along list k o (x ∷ []) p → holder_in o ≡ h
      → (holder_in p ≡ h)
      ⊎ ((names_one list x.0 k ≡ true) × (may_end_hold list h (no_notice o) x.0 ≡ true) × (is_outcome 2 x.1.answer ≡ true) × (holder_in p ≡ nobody))
  ended_once (passes n ends) e = inl e
  ended_once (visits n d ends) e = ⊎_elim inl (λ (f, a, m). inr (n, m _ (λ x. x), a, f)) (visit_ends (holding d) n e)

  held_along : {o p : Option Record} {l : List (Call × Reply)} → Along list k o l p → holder_in o ≡ h → never (ends_hold list h k) l ≡ true → holder_in p ≡ h
  held_along ends e u = e
  held_along (passes {c = c} {a = a} {l = l} n rest) e u = held_along rest e (never_first (ends_hold list h k) (c, a) l u).1
  held_along (visits {c = c} {v = v} {l = l} n d rest) e u =
      let (first, then) = never_first (ends_hold list h k) (c, v.reply) l u in
      ⊎_elim (λ s. held_along rest s then) (λ (f, a, m). no_path (sym first ∙ rw (n, m true (λ x. refl), a) refl)) (visit_ends (holding d) n e)

begun_once : {list : List ℕ} {k : ℕ} {o p : Option Record} {x : Call × Reply} → Along list k o (x ∷ []) p → holder_in o ≡ nobody
    → (holder_in p ≡ nobody) ⊎ ((names_one list x.0 k ≡ true) × (registers x.0 ≡ true) × (is_outcome 1 x.1.answer ≡ true) × ((holder_in p).0 ≡ requester_of x.0))
begun_once (passes n ends) e = inl e
begun_once (visits n d ends) e = ⊎_elim inl (λ (m, a, q). inr (n, m, a, q)) (visit_begins (holding d) e)

kept_once : {list : List ℕ} {k : ℕ} {o p : Option Record} {x : Call × Reply} → Along list k o (x ∷ []) p
    → (is_of_notice x.0 ≡ true) ⊎ ((is_outcome 1 x.1.answer ≡ false) × (is_outcome 2 x.1.answer ≡ false)) → holder_in p ≡ holder_in o
kept_once (passes n ends) s = refl
kept_once (visits n d ends) s = ⊎_elim (notice_keeps (holding d)) (λ (a, b). negative_keeps (holding d) a b) s

-- an entry one place further on
further : {test : Call × Reply → Bool} {l : List (Call × Reply)} (x : Call × Reply) → Stood test l → Stood test (x ∷ l)
further x s = record { place = suc s.place; entry = s.entry; stands = s.stands; passes = s.passes }

module _ (list : List ℕ) (k : ℕ) where
  -- whoever holds it no more was erased on the way
  ended_along : (h : Msisdn) → is_nobody h ≡ false → {o p : Option Record} {l : List (Call × Reply)} → Along list k o l p → holder_in o ≡ h
      → (holder_in p ≡ h) ⊎ Stood (ends_hold list h k) l
  ended_along h held ends e = inl e
  ended_along h held (passes {c = c} {a = a} n rest) e = ⊎_elim inl (λ s. inr (further (c, a) s)) (ended_along h held rest e)
  ended_along h held (visits {c = c} {v = v} n d rest) e =
      ⊎_elim (λ s. ⊎_elim inl (λ x. inr (further (c, v.reply) x)) (ended_along h held rest s))
      (λ (f, a, m). inr (record { place = 0; entry = (c, v.reply); stands = refl; passes = rw (n, m true (λ x. refl), a) refl }))
      (visit_ends list k h held (holding d) n e)

  -- whoever holds it now and did not has registered it on the way
  begun_along : (m : Msisdn) → is_nobody m ≡ false → {o p : Option Record} {l : List (Call × Reply)} → Along list k o l p
      → ((holder_in o).0 ≡ m.0 → ⊥) → (holder_in p).0 ≡ m.0 → Stood (begins_hold list m k) l
  begun_along m some_one ends before after = absurd (before after)
  begun_along m some_one (passes {c = c} {a = a} n rest) before after = further (c, a) (begun_along m some_one rest before after)
  begun_along m some_one (visits {c = c} {v = v} n d rest) before after =
      ⊎_elim
      (λ now. ⊎_elim (λ s. absurd (before (sym (ap word s) ∙ now)))
      (λ x. ⊎_elim (λ z. no_path (sym some_one ∙ eq-eqb m.0 0 (sym now ∙ ap word z)))
      (λ (r, a, q). record { place = 0; entry = (c, v.reply); stands = refl; passes = rw (n, r, a) (eq-eqb (requester_of c) m.0 (sym q ∙ now)) }) x)
      (visit_gives (holding d)))
      (λ other. further (c, v.reply) (begun_along m some_one rest other after)) (same_or_not v.next.holder.0 m.0)

-- ---- the driver, over one call that is its own step

module _ (list : List ℕ) (delay k : ℕ) (c : Call) (state : State) where
  abbrev got : Reply
  got = (call list delay c state).0

  abbrev after : State
  after = (call list delay c state).1

  module _ (alone : codes_of c ≡ none) where
    once : Along list k (record_for state k) ((c, got) ∷ []) (record_for after k)
    once =
        subst (λ (r : Reply × State). Along list k (record_for state k) ((c, r.0) ∷ []) (record_for r.1 k)) (sym (call_single list delay c state alone))
        (along list delay k (c ∷ []) state)

    -- if h holds k before the call and not after it, then the call is an erasure that may end her hold, answered 02, and nobody holds k after it
    pub hold_ends_by_erasure : (h : Msisdn) → is_nobody h ≡ false → holder_of state k ≡ h.0 → (holder_of after k ≡ h.0 → ⊥)
        → HoldEnded list h k c state got after
    hold_ends_by_erasure h held e gone =
        ⊎_elim (λ s. absurd (gone (ap word s))) (λ (n, m, a, f). record { named = n; erasure = m; answered = a; nobody = ap word f })
        (ended_once list k h held once (one_msisdn (holder_in (record_for state k)) h e))

    -- if k is free before the call and not after it, then the call is a registration, answered 01, and its requester holds k
    pub hold_begins_by_registration : holder_of state k ≡ 0 → (holder_of after k ≡ 0 → ⊥) → HoldBegun list k c got after
    hold_begins_by_registration e gone =
        ⊎_elim (λ s. absurd (gone (ap word s))) (λ (n, m, a, q). record { named = n; registration = m; answered = a; requester = q })
        (begun_once once (one_msisdn (holder_in (record_for state k)) nobody e))

  notice_alone : (e : Call) → is_of_notice e ≡ true → codes_of e ≡ none
  notice_alone (request requester scheme string reply) n = no_path n
  notice_alone (framed requester message frame) n = no_path n
  notice_alone (sending now number buffer) n = refl
  notice_alone (result now number kind) n = refl
  notice_alone (terminal number holder reply) n = refl
  notice_alone (routes home coded asked) n = refl

  -- a sending or a result changes no holder
  pub notices_change_no_holder : is_of_notice c ≡ true → holder_of after k ≡ holder_of state k
  notices_change_no_holder e = ap word (kept_once (once (notice_alone c e)) (inl e))

  -- nor does what is refused, in error or negative: any answer but 01 and 02, and a crew's, whose steps are calls of their own
  pub negatives_change_no_holder : may_change got.answer ≡ false → holder_of after k ≡ holder_of state k
  negatives_change_no_holder e = by_state (state_sound state) refl
    where
      -- what leaves the state leaves its holders
      by_view : {d : Call} → View list delay d → d ≡ c → state_sound state ≡ true → holder_of after k ≡ holder_of state k
      by_view (alone-step d alone s) p sound =
          let none = or_neither (is_outcome 1 got.answer || is_outcome 2 got.answer) (is_crew_outcome got.answer) e in
          ap word (kept_once (once (ap codes_of (sym p) ∙ alone)) (inr (or_neither (is_outcome 1 got.answer) (is_outcome 2 got.answer) none.0)))
      by_view (stops d r f s) p sound = ap (λ x. holder_of x.1 k) (ap (λ q. call list delay q state) (sym p) ∙ f state sound)
      by_view (goes {c = d} {requester = requester} {scheme = scheme} {string = string} {reply = reply} g w s) p sound =
          let a = (call list delay d state).0.answer in
          no_path (sym (ap (λ q. may_change (call list delay q state).0.answer) p ∙ e)
          ∙ or_right (is_outcome 1 a || is_outcome 2 a) (is_crew_outcome a) (goes_said list delay requester scheme string reply g w state sound))

      by_state : (b : Bool) → state_sound state ≡ b → holder_of after k ≡ holder_of state k
      by_state true sound = by_view (view list delay c) refl sound
      by_state false unsound = ap (λ t. holder_of t k) (unsound_stays state unsound list delay c)

-- ---- the driver, over any list of calls, by their single steps

module _ (list : List ℕ) (delay k : ℕ) (calls : List Call) (state : State) where
  abbrev steps_got : List (Call × Reply)
  steps_got = log (call list delay) (steps list calls) state

  seen : Along list k (record_for state k) steps_got (record_for (end (call list delay) calls state) k)
  seen =
      rw (singles_log list delay (steps list calls) state (all_steps_single list delay calls), singly_end list delay calls state)
      (along list delay k (steps list calls) state)

  -- if h holds k before the calls and not after them, one of their steps is an erasure that may end her hold, answered 02: her own or that of the number's own subscriber, in a crew's request too, or a forced one
  pub hold_ends_by_a_step : (h : Msisdn) → is_nobody h ≡ false → holder_of state k ≡ h.0 → (holder_of (end (call list delay) calls state) k ≡ h.0 → ⊥)
      → Stood (ends_hold list h k) steps_got
  hold_ends_by_a_step h held e gone =
      ⊎_elim (λ s. absurd (gone (ap word s))) (λ s. s) (ended_along list k h held seen (one_msisdn (holder_in (record_for state k)) h e))

  -- if m holds k after them and did not before, one of their steps is her own registration, answered 01, in a crew's request too
  pub hold_begins_by_a_step : (m : Msisdn) → is_nobody m ≡ false → (holder_of state k ≡ m.0 → ⊥) → holder_of (end (call list delay) calls state) k ≡ m.0
      → Stood (begins_hold list m k) steps_got
  hold_begins_by_a_step m some_one before after = begun_along list k m some_one seen before after

  -- with no such erasure among their steps, h holds k at the end
  pub holds_to_the_end : (h : Msisdn) → is_nobody h ≡ false → holder_of state k ≡ h.0 → never (ends_hold list h k) steps_got ≡ true
      → holder_of (end (call list delay) calls state) k ≡ h.0
  holds_to_the_end h held e u = ap word (held_along list k h held seen (one_msisdn (holder_in (record_for state k)) h e) u)
