-- M-108: every notice accounted for: what a call counts and what it does to a notice, then over any list of calls. Assumes nothing.
use mathlib.Core.Path.{◌≡◌, refl, sym, ap, ◌∙◌}
use mathlib.Core.Bool.{Bool, true, false, cond, not, ◌&&◌}
use mathlib.Core.Option.{Option, none, some}
use mathlib.Core.List.{List, [], ◌∷◌, map, append-nil}
use Prim.Native.Nat.{ℕ, zero, suc, ◌+◌, ◌<◌}
use native.Mathlib.Omega.{arith}
use lib.ListN.{length, take, get_elem?}
use lib.Dec.{eqb, ltb, leb}
use borrow.Author.Tests.{eqb-true, eq-eqb, ltb-true, ltb-false, not-true, leb-true}
use Rattle.answers.proofs.Tests.{no_path, and_left, and_right, and_no}
use Rattle.answers.proofs.Checks.{not_some}
use Rattle.packing.specs.Packing.{packed}
use Rattle.numbers.specs.Numbers.{nobody}
use Rattle.numbers.specs.declared.FunctionalNumber.{FunctionalNumber}
use Rattle.numbers.specs.declared.Msisdn.{Msisdn}
use Rattle.strings.specs.declared.Erasing.{Erasing}
use Rattle.strings.specs.declared.Erasing.TheVariants.{Empty, Forced}
use Rattle.strings.specs.Text.{Request, text_of}
use Rattle.records.specs.declared.Notice.{Notice}
use Rattle.records.specs.declared.Notice.TheVariants.{Absent, Waiting, InFlight}
use Rattle.records.specs.declared.Record.{Record}
use Rattle.records.specs.Steps.{same, held_by, is_absent, is_waiting, launched, sendings_done, most_sendings, last_kind}
use Rattle.rows.specs.Rows.{one}
use Rattle.states.specs.States.{State, state_sound, record_for}
use Rattle.rules.specs.Answers.{result_class, delivered_number, dropped_number, again_number, numbers_of, is_of, is_sent, is_clearing}
use Rattle.rules.specs.Requests.{holder_in}
use Rattle.rules.specs.Crews.{member_of, crew_codes}
use Rattle.rules.specs.Run.{only, last, end, log}
use Rattle.rules.specs.Notices.{notice_in}
use Rattle.rules.specs.Calls.{Call, request, framed, sending, result, terminal, routes, Reply, call, read_of, codes_read, codes_of, name_of, names_one, single_calls, steps_of}
use Rattle.rules.specs.Visits.{Visited, visit, missed}
use Rattle.rules.specs.Demand.{holder_of, got_by}
use Rattle.rules.specs.Entries.{holds_at, Between}
use Rattle.promises.specs.Pending.{notice_for, sending_done, notice_cleared}
use Rattle.promises.specs.Users.{asker_of, telling}
use Rattle.promises.specs.Accounts.{of_number, names_another, forces_another, forces_off, makes_notice, has_kind, is_zero, is_one_to_four, is_five, is_delivery, is_dropped_by_kind, is_dropped_last, how_often, pending_for, Balanced, Notified, holder_named, holder_named_by, notified_by, notified_in, notified_after, CountedOnce}
use Rattle.rules.proofs.Once.{single}
use Rattle.rules.proofs.Sound.{single_own, single_absent, single_other, single_keeps}
use Rattle.rules.proofs.Local.{named_some}
use Rattle.rules.proofs.Runs.{last_more}
use Rattle.rules.proofs.Single.{call_single}
use Rattle.rules.proofs.Crews.{Small, member_reads}
use Rattle.rules.proofs.Steps.{own_step, forced_alone, Goes, goes_room, goes_shared, goes_small, View, own, stops, goes, view}
use Rattle.rules.proofs.Calls.{calls_local, singly_end}
use Rattle.promises.proofs.Along.{is_request, Asked, negative, registration, erasure, herself, forced, Does, asks, unsent, sends, untaken, clears, goes_on, unmoved, removes, looks, delivers, drops, gives_up, does, missed_negative, unnamed, missing, same_one}
use Rattle.promises.proofs.NoticeEnds.{launched_flies, flies_pending, farther, passed_unsent, sent_flies, state_most}
use Rattle.promises.proofs.Told.{sending_tells}

-- ---- what a test says of an entry

-- there and not there
never_both : (b : Bool) → (b && not b) ≡ false
never_both true = refl
never_both false = refl

neither_both : (b : Bool) → (not b && b) ≡ false
neither_both true = refl
neither_both false = refl

waits_pending : (n : Notice) → is_waiting n ≡ true → is_absent n ≡ false
waits_pending Absent w = no_path w
waits_pending (Waiting k s) w = refl
waits_pending (InFlight k) w = refl

-- a request is no result
request_kindless : (c : Call) (test : ℕ → Bool) → is_request c ≡ true → has_kind test c ≡ false
request_kindless (request requester scheme string reply) test i = refl
request_kindless (framed requester message frame) test i = refl
request_kindless (sending now number buffer) test i = no_path i
request_kindless (result now number kind) test i = no_path i
request_kindless (terminal number holder reply) test i = no_path i
request_kindless (routes home coded asked) test i = no_path i

-- whom a request forces off and names is in its string
request_forces : (c : Call) → is_request c ≡ true → forces_off c ≡ forces_another (asker_of c) (read_of c)
request_forces (request requester scheme string reply) i = refl
request_forces (framed requester message frame) i = refl
request_forces (sending now number buffer) i = refl
request_forces (result now number kind) i = refl
request_forces (terminal number holder reply) i = no_path i
request_forces (routes home coded asked) i = refl

request_names : (c : Call) → is_request c ≡ true → holder_named_by c ≡ holder_named (read_of c)
request_names (request requester scheme string reply) i = refl
request_names (framed requester message frame) i = refl
request_names (sending now number buffer) i = refl
request_names (result now number kind) i = refl
request_names (terminal number holder reply) i = no_path i
request_names (routes home coded asked) i = refl

-- the class of a kind that drops a notice: of one below 5, and of 5
below_class : (kind : ℕ) → eqb kind 0 ≡ false → ltb kind last_kind ≡ true → (is_zero kind ≡ false) × (is_one_to_four kind ≡ true) × (is_five kind ≡ false)
below_class zero n l = no_path (sym n)
below_class (suc zero) n l = (refl, refl, refl)
below_class (suc (suc zero)) n l = (refl, refl, refl)
below_class (suc (suc (suc zero))) n l = (refl, refl, refl)
below_class (suc (suc (suc (suc zero)))) n l = (refl, refl, refl)
below_class (suc (suc (suc (suc (suc kind))))) n l = absurd (omega (arith, ltb-true (suc (suc (suc (suc (suc kind))))) last_kind l))

last_class : (kind : ℕ) → ltb last_kind kind ≡ false → ltb kind last_kind ≡ false → (is_zero kind ≡ false) × (is_one_to_four kind ≡ false) × (is_five kind ≡ true)
last_class kind most least =
    let five : kind ≡ last_kind = omega (arith, ltb-false last_kind kind most, ltb-false kind last_kind least) in rw five (refl, refl, refl)

-- ---- one visit

-- what an entry counts, by whether a notice is absent before and after it
record ByVisit (before after : Bool) (entry : Call × Reply) : Type 0 where
  made : makes_notice entry ≡ (before && not after)
  ended : one (is_delivery entry) + one (is_dropped_by_kind entry) + one (is_dropped_last entry) ≡ one (not before && after)

-- of a request: it may make a notice and ends none
record ByAsking (before after : Bool) (read : Option Request) (requester : Msisdn) (two : Bool) : Type 0 where
  made : (forces_another requester read && two) ≡ (before && not after)
  ended : (not before && after) ≡ false

by_asking : {list : List ℕ} {r next : Record} {requester : Msisdn} {read : Option Request} {one two : Bool} → Asked list r requester read one two next
    → ByAsking (is_absent r.notice) (is_absent next.notice) read requester two
by_asking {r = r} {requester = requester} {read = read} negative =
    record { made = and_no (forces_another requester read) false refl ∙ sym (never_both (is_absent r.notice)); ended = neither_both (is_absent r.notice) }
by_asking {r = r} {requester = requester} {read = read} (registration p q x h) =
    record { made = and_no (forces_another requester read) false refl ∙ sym (never_both (is_absent r.notice)); ended = neither_both (is_absent r.notice) }
by_asking {r = r} (erasure p q e h m) = record { made = rw (p, e) (sym (never_both (is_absent r.notice))); ended = neither_both (is_absent r.notice) }
by_asking {r = r} {requester = requester} (herself {named = named} p q e m o) =
    let own : same named requester ≡ true = rw (← same_one r.holder named m) o in
    record { made = rw (p, e, own) (sym (never_both (is_absent r.notice))); ended = neither_both (is_absent r.notice) }
by_asking {r = r} {requester = requester} (forced {named = named} p q e m o x y z v) =
    let other : same named requester ≡ false = rw (← same_one r.holder named m) o in
    record { made = rw (p, e, other, x) refl; ended = rw x refl }

by_visit : {list : List ℕ} {r : Record} {c : Call} {v : Visited} → Does list r c v → ByVisit (is_absent r.notice) (is_absent v.next.notice) (c, v.reply)
by_visit {c = c} (asks i d) =
    let t = by_asking d in
    record { made = rw (request_forces c i) t.made; ended = rw (request_kindless c is_zero i, request_kindless c is_one_to_four i, request_kindless c is_five i, t.ended) refl }
by_visit {r = r} unsent = record { made = sym (never_both (is_absent r.notice)); ended = rw (neither_both (is_absent r.notice)) refl }
by_visit {r = r} (sends w) =
    let before = waits_pending r.notice w in
    let after = flies_pending (launched r.notice) (launched_flies r.notice w) in
    record { made = rw before refl; ended = rw (before, after) refl }
by_visit {r = r} (untaken {kind = kind}) =
    record {
      made = sym (never_both (is_absent r.notice));
      ended = rw (neither_both (is_absent r.notice), and_no (is_zero kind) false refl, and_no (is_one_to_four kind) false refl, and_no (is_five kind) false refl) refl;
    }
by_visit {r = r} (clears {kind = kind} f (delivers e)) =
    record { made = rw (flies_pending r.notice f) refl; ended = rw (flies_pending r.notice f, e, and_no (is_one_to_four kind) false refl, and_no (is_five kind) false refl) refl }
by_visit {r = r} (clears {kind = kind} f (drops e l)) =
    let class = below_class kind e l in
    record { made = rw (flies_pending r.notice f) refl; ended = rw (flies_pending r.notice f, class.0, class.1, class.2) refl }
by_visit {r = r} (clears {kind = kind} f (gives_up e l m)) =
    let class = last_class kind e l in
    record { made = rw (flies_pending r.notice f) refl; ended = rw (flies_pending r.notice f, class.0, class.1, class.2) refl }
by_visit {r = r} (goes_on {kind = kind} f p) =
    record {
      made = rw (flies_pending r.notice f) refl;
      ended = rw (flies_pending r.notice f, and_no (is_zero kind) false refl, and_no (is_one_to_four kind) false refl, and_no (is_five kind) false refl) refl;
    }
by_visit {r = r} (unmoved p q) = record { made = q ∙ sym (never_both (is_absent r.notice)); ended = rw (neither_both (is_absent r.notice)) refl }
by_visit (removes m x z) = record { made = rw x refl; ended = rw x refl }
by_visit {r = r} (looks p q) = record { made = sym (never_both (is_absent r.notice)); ended = rw (neither_both (is_absent r.notice)) refl }

-- a number that is not in the table: nothing is counted
by_missing : (list : List ℕ) (c : Call) → ByVisit true true (c, missed list c)
by_missing list c = record { made = and_no (forces_off c) _ (missed_negative list c); ended = by_call c }
  where
    by_call : (c : Call) → one (is_delivery (c, missed list c)) + one (is_dropped_by_kind (c, missed list c)) + one (is_dropped_last (c, missed list c)) ≡ 0
    by_call (request requester scheme string reply) = refl
    by_call (framed requester message frame) = refl
    by_call (sending now number buffer) = refl
    by_call (result now number kind) = rw (and_no (is_zero kind) false refl, and_no (is_one_to_four kind) false refl, and_no (is_five kind) false refl) refl
    by_call (terminal number holder reply) = refl
    by_call (routes home coded asked) = refl

-- ---- a crew's request counts nothing, and leaves every notice as it is

-- the record but for its holder
abbrev but_holder : Option Record → Option Record
but_holder none = none
but_holder (some r) = some (held_by nobody r)

-- a request that reads and forces nobody
abbrev Plain : Call → Type 0
Plain c = (f : Request) × (is_request c ≡ true) × (read_of c ≡ some f) × (f.erasing ≡ Empty)

abbrev AllPlain : List Call → Type 0
AllPlain [] = Unit {0}
AllPlain (c ∷ cs) = Plain c × AllPlain cs

asked_plain : {list : List ℕ} {r next : Record} {requester : Msisdn} {read : Option Request} {one two : Bool} {f : Request}
    → Asked list r requester read one two next → read ≡ some f → f.erasing ≡ Empty → held_by nobody next ≡ held_by nobody r
asked_plain negative t e = refl
asked_plain (registration p q x h) t e = refl
asked_plain (erasure p q w h m) t e = refl
asked_plain (herself p q w m o) t e = refl
asked_plain (forced p q w m o x y z v) t e = absurd (let z : ◌≡◌ {A = ℕ} 0 1 = cc in omega arith)

visit_plain : {list : List ℕ} {r : Record} {c : Call} {v : Visited} → Does list r c v → Plain c → held_by nobody v.next ≡ held_by nobody r
visit_plain (asks i d) (f, j, t, e) = asked_plain d t e
visit_plain unsent p = refl
visit_plain (sends w) p = no_path p.1
visit_plain untaken p = refl
visit_plain (clears f e) p = no_path p.1
visit_plain (goes_on f e) p = no_path p.1
visit_plain (unmoved m n) p = refl
visit_plain (removes m x z) p = no_path p.1
visit_plain (looks m n) p = refl

module _ (list : List ℕ) (delay k : ℕ) where
  single_plain : (c : Call) (t : State) → state_sound t ≡ true → Plain c → but_holder (record_for (single list delay c t).1 k) ≡ but_holder (record_for t k)
  single_plain c t sound plain = by_record_lem (names_one list c k) refl (record_for t k) refl
    where
      by_record_lem : (b : Bool) → names_one list c k ≡ b → (o : Option Record) → record_for t k ≡ o → but_holder (record_for (single list delay c t).1 k) ≡ but_holder (record_for t k)
      by_record_lem false n o e = ap but_holder (single_other list delay c t sound k n)
      by_record_lem true n none e = ap (λ x. but_holder (record_for x.1 k)) (single_absent list delay c t sound k (named_some (name_of list c) k n) e)
      by_record_lem true n (some r) e =
          let x = single_own list delay c t sound k r (named_some (name_of list c) k n) e in
          ap but_holder x.1 ∙ ap some (visit_plain (does list delay c r) plain) ∙ sym (ap but_holder e)

  plain_end : (cs : List Call) (t : State) → state_sound t ≡ true → AllPlain cs → but_holder (record_for (end (single list delay) cs t) k) ≡ but_holder (record_for t k)
  plain_end [] t sound p = refl
  plain_end (c ∷ cs) t sound (p, q) =
      plain_end cs (single list delay c t).1 (single_keeps list delay c t sound).sound q ∙ single_plain c t sound p

-- the single requests of a crew
members_plain : (list : List ℕ) (delay : ℕ) (requester : Msisdn) (scheme : ℕ) (string reply : List ℕ) (g : Goes list requester scheme string reply) (codes : List ℕ)
    → Small codes → AllPlain (map (λ code. request requester scheme (packed (text_of (member_of g.fields code))) reply) codes)
members_plain list delay requester scheme string reply g [] small = tt
members_plain list delay requester scheme string reply g (code ∷ codes) (c, small) =
    let shared = goes_shared list requester scheme string reply g in (
      (member_of g.fields code, refl, member_reads list delay requester scheme g.fields shared (λ code. reply) (λ code. goes_room list requester scheme string reply g) code c, shared.plain),
      members_plain list delay requester scheme string reply g codes small,
    )

-- whatever a crew's request gets
pub crew_uncounted : (c : Call) {codes : List ℕ} → codes_of c ≡ some codes → (a : Reply) (test : ℕ → Bool) → (makes_notice (c, a) ≡ false) × (has_kind test c ≡ false)
crew_uncounted c {codes} crew a test = (rw (request_forces c (asked c crew), plain (read_of c) refl) refl, kindless c crew)
  where
    kindless : (c : Call) → codes_of c ≡ some codes → has_kind test c ≡ false
    kindless (request requester scheme string reply) e = refl
    kindless (framed requester message frame) e = refl
    kindless (sending now number buffer) e = refl
    kindless (result now number kind) e = not_some e
    kindless (terminal number holder reply) e = refl
    kindless (routes home coded asked) e = refl

    plain_fields : (f : Request) → read_of c ≡ some f → (e : Erasing) → f.erasing ≡ e → names_another (asker_of c) e ≡ false
    plain_fields f r Empty e = refl
    plain_fields f r (Forced named) e = not_some (sym (forced_alone c f r e) ∙ crew)

    plain : (read : Option Request) → read_of c ≡ read → forces_another (asker_of c) read ≡ false
    plain none r = refl
    plain (some f) r = plain_fields f r f.erasing refl

    asked : (c : Call) → codes_of c ≡ some codes → is_request c ≡ true
    asked (request requester scheme string reply) e = refl
    asked (framed requester message frame) e = refl
    asked (sending now number buffer) e = not_some e
    asked (result now number kind) e = not_some e
    asked (terminal number holder reply) e = not_some e
    asked (routes home coded digits) e = not_some e

-- ---- a call, and the notice of one number

asked_notifies : {list : List ℕ} {r next : Record} {requester : Msisdn} {read : Option Request} {one two : Bool} → Asked list r requester read one two next
    → notified_in (some next)
    ≡ cond (forces_another requester read && two) (record { holder = holder_named read; supervisor = requester }) (notified_in (some r))
asked_notifies {requester = requester} {read = read} negative = rw (and_no (forces_another requester read) false refl) refl
asked_notifies {requester = requester} {read = read} (registration p q x h) = rw (and_no (forces_another requester read) false refl) refl
asked_notifies (erasure p q e h m) = rw (p, e) refl
asked_notifies {r = r} {requester = requester} (herself {named = named} p q e m o) =
    let own : same named requester ≡ true = rw (← same_one r.holder named m) o in rw (p, e, own) refl
asked_notifies {r = r} {requester = requester} (forced {named = named} p q e m o x y z v) =
    let other : same named requester ≡ false = rw (← same_one r.holder named m) o in rw (p, e, other, same_one r.holder named m) refl

-- where a notice is pending behind a visit, whom it is to tell
visit_notifies : {list : List ℕ} {r : Record} {c : Call} {v : Visited} → Does list r c v → is_absent v.next.notice ≡ false
    → notified_in (some v.next) ≡ cond (makes_notice (c, v.reply)) (notified_by (c, v.reply)) (notified_in (some r))
visit_notifies {c = c} (asks i d) p = rw (request_forces c i, request_names c i) (asked_notifies d)
visit_notifies unsent p = refl
visit_notifies (sends w) p = refl
visit_notifies untaken p = refl
visit_notifies (clears f e) p = no_path (sym p)
visit_notifies (goes_on f e) p = refl
visit_notifies (unmoved m n) p = rw n refl
visit_notifies {r = r} (removes {holder = holder} m x z) p = rw (same_one r.holder holder m) refl
visit_notifies (looks m n) p = refl

-- an erasure that makes a notice names the record's holder
asked_holder : {list : List ℕ} {r next : Record} {requester : Msisdn} {read : Option Request} {one two : Bool} → Asked list r requester read one two next
    → (forces_another requester read && two) ≡ true → r.holder ≡ holder_named read
asked_holder {requester = requester} {read = read} negative u = no_path (and_right (forces_another requester read) false u)
asked_holder {requester = requester} {read = read} (registration p q x h) u = no_path (and_right (forces_another requester read) false u)
asked_holder (erasure p q e h m) u = no_path (rw (p, e) at u)
asked_holder {r = r} (herself {named = named} p q e m o) u = rw (p, e) (same_one r.holder named m)
asked_holder {r = r} (forced {named = named} p q e m o x y z v) u = rw (p, e) (same_one r.holder named m)

visit_holder : {list : List ℕ} {r : Record} {c : Call} {v : Visited} → Does list r c v → makes_notice (c, v.reply) ≡ true → r.holder ≡ holder_named_by c
visit_holder {c = c} (asks i d) u = rw (request_names c i) (asked_holder d (rw (request_forces c i) at u))
visit_holder unsent u = no_path u
visit_holder (sends w) u = no_path u
visit_holder untaken u = no_path u
visit_holder (clears f e) u = no_path u
visit_holder (goes_on f e) u = no_path u
visit_holder (unmoved m n) u = no_path (sym n ∙ u)
visit_holder {r = r} (removes {holder = holder} m x z) u = same_one r.holder holder m
visit_holder (looks m n) u = no_path u

-- a notice that kind 5 drops had the most sendings done
visit_last : {list : List ℕ} {r : Record} {c : Call} {v : Visited} → Does list r c v → is_dropped_last (c, v.reply) ≡ true → leb most_sendings (sendings_done r.notice) ≡ true
visit_last {c = c} {v = v} (asks i d) u = no_path (sym (request_kindless c is_five i) ∙ and_left (has_kind is_five c) _ u)
visit_last unsent u = no_path u
visit_last (sends w) u = no_path u
visit_last (untaken {kind = kind}) u = no_path (and_right (is_five kind) false u)
visit_last (clears {kind = kind} f (delivers e)) u = no_path (and_right (is_five kind) false u)
visit_last (clears {kind = kind} f (drops e l)) u = no_path (sym (below_class kind e l).2 ∙ and_left (is_five kind) true u)
visit_last (clears f (gives_up e l m)) u = m
visit_last (goes_on {kind = kind} f p) u = no_path (and_right (is_five kind) false u)
visit_last (unmoved m n) u = no_path u
visit_last (removes m x z) u = no_path u
visit_last (looks m n) u = no_path u

but_absent : (o : Option Record) → is_absent (notice_in (but_holder o)) ≡ is_absent (notice_in o)
but_absent none = refl
but_absent (some r) = refl

but_notified : (o : Option Record) → notified_in (but_holder o) ≡ notified_in o
but_notified none = refl
but_notified (some r) = refl

module _ (list : List ℕ) (delay k : ℕ) where
  -- what a call counts for k, and what becomes of k's notice
  record ByCall (c : Call) (a : Reply) (t u : State) : Type 0 where
    made : of_number list k makes_notice (c, a) ≡ (is_absent (notice_for t k) && not (is_absent (notice_for u k)))
    ended : one (of_number list k is_delivery (c, a)) + one (of_number list k is_dropped_by_kind (c, a)) + one (of_number list k is_dropped_last (c, a))
        ≡ one (not (is_absent (notice_for t k)) && is_absent (notice_for u k))
    holder : of_number list k makes_notice (c, a) ≡ true → holder_of t k ≡ (holder_named_by c).0
    last : of_number list k is_dropped_last (c, a) ≡ true → leb most_sendings (sendings_done (notice_for t k)) ≡ true
    sent : sending_done k (c, a) ≡ true → is_absent (notice_for t k) ≡ false
    notifies : is_absent (notice_for u k) ≡ false → notified_in (record_for u k) ≡ cond (of_number list k makes_notice (c, a)) (notified_by (c, a)) (notified_in (record_for t k))

  -- k's notice stays as it is, and nothing is counted for it
  by_keeping : (c : Call) (a : Reply) (t u : State) → but_holder (record_for u k) ≡ but_holder (record_for t k) → of_number list k makes_notice (c, a) ≡ false
      → one (of_number list k is_delivery (c, a)) + one (of_number list k is_dropped_by_kind (c, a)) + one (of_number list k is_dropped_last (c, a)) ≡ 0 → sending_done k (c, a) ≡ false
      → ByCall c a t u
  by_keeping c a t u e m z s =
      let absent : is_absent (notice_for u k) ≡ is_absent (notice_for t k) = sym (but_absent (record_for u k)) ∙ ap (λ o. is_absent (notice_in o)) e ∙ but_absent (record_for t k) in
      record {
        made = m ∙ rw absent (sym (never_both (is_absent (notice_for t k))));
        ended = z ∙ rw absent (rw (neither_both (is_absent (notice_for t k))) refl);
        holder = λ n. no_path (sym m ∙ n);
        last = λ n. absurd (let o : one (of_number list k is_dropped_last (c, a)) ≡ 1 = ap one n in omega arith);
        sent = λ n. no_path (sym s ∙ n);
        notifies = λ p. sym (but_notified (record_for u k)) ∙ ap notified_in e ∙ but_notified (record_for t k) ∙ rw m;
      }

  by_single : (c : Call) (t : State) → state_sound t ≡ true → ByCall c (single list delay c t).0 t (single list delay c t).1
  by_single c t sound = by_record_lem (names_one list c k) refl (record_for t k) refl
    where
      by_record_lem : (b : Bool) → names_one list c k ≡ b → (o : Option Record) → record_for t k ≡ o → ByCall c (single list delay c t).0 t (single list delay c t).1
      by_record_lem false n o e =
          by_keeping c (single list delay c t).0 t (single list delay c t).1 (ap but_holder (single_other list delay c t sound k n)) (rw n refl) (rw n refl) (passed_unsent list k c {a = (single list delay c t).0} (unnamed n))
      by_record_lem true n none e =
          let m = single_absent list delay c t sound k (named_some (name_of list c) k n) e in
          let none_counted = by_missing list c in
          rw m (record {
            made = rw (n, e) none_counted.made;
            ended = rw (n, e) none_counted.ended;
            holder = λ u. no_path (sym none_counted.made ∙ and_right (names_one list c k) _ u);
            last = λ u. absurd (let o : one (is_dropped_last (c, missed list c)) ≡ 1 = ap one (and_right (names_one list c k) _ u) in omega (arith, none_counted.ended));
            sent = λ u. no_path (sym (passed_unsent list k c missing) ∙ u);
            notifies = λ p. no_path (sym (rw e at p));
          })
      by_record_lem true n (some r) e =
          let x = single_own list delay c t sound k r (named_some (name_of list c) k n) e in
          let d = does list delay c r in
          rw x.0 (record {
            made = rw (n, x.1, e) (by_visit d).made;
            ended = rw (n, x.1, e) (by_visit d).ended;
            holder = λ u. ap (λ o. (holder_in o).0) e ∙ ap (λ (m : Msisdn). m.0) (visit_holder d (and_right (names_one list c k) _ u));
            last = λ u. rw e (visit_last d (and_right (names_one list c k) _ u));
            sent = λ u. rw e (waits_pending r.notice (sent_flies list k d u).0);
            notifies = λ p. rw (n, x.1, e) (visit_notifies d (rw x.1 at p));
          })

  -- a crew's
  by_crew : (c : Call) {codes : List ℕ} → codes_of c ≡ some codes → (a : Reply) (t u : State) → but_holder (record_for u k) ≡ but_holder (record_for t k) → ByCall c a t u
  by_crew c crew a t u e =
      let none_of = crew_uncounted c crew a in
      by_keeping c a t u e (and_no (names_one list c k) (makes_notice (c, a)) (none_of is_zero).0)
      (rw ((none_of is_zero).1, (none_of is_one_to_four).1, (none_of is_five).1, and_no (names_one list c k) false refl) refl) (crew_unsent c crew)
    where
      crew_unsent : (c : Call) {codes : List ℕ} → codes_of c ≡ some codes → sending_done k (c, a) ≡ false
      crew_unsent (request requester scheme string reply) e = refl
      crew_unsent (framed requester message frame) e = refl
      crew_unsent (sending now number buffer) e = not_some e
      crew_unsent (result now number kind) e = refl
      crew_unsent (terminal number holder reply) e = refl
      crew_unsent (routes home coded asked) e = refl

  by_view : {c : Call} → View list delay c → (t : State) → state_sound t ≡ true → ByCall c (call list delay c t).0 t (call list delay c t).1
  by_view (own c e s) t sound = rw (call_single list delay c t e) (by_single c t sound)
  by_view (stops c r f s) t sound = rw (f t sound) (by_codes (codes_of c) refl)
    where
      by_codes : (codes : Option (List ℕ)) → codes_of c ≡ codes → ByCall c r t t
      by_codes none e = absurd (let z : ◌≡◌ {A = ℕ} 0 1 = ap length (sym s ∙ own_step list c e) in omega arith)
      by_codes (some codes) e = by_crew c e r t t refl
  by_view (goes {c = c} {requester = requester} {scheme = scheme} {string = string} {reply = reply} g w s) t sound =
      by_crew c crew (call list delay c t).0 t (call list delay c t).1 (ap (λ u. but_holder (record_for u k)) left ∙ kept)
    where
      crew : codes_of c ≡ some g.codes
      crew = ap codes_read (w.read ∙ g.reads) ∙ g.crew

      members : List Call
      members = single_calls requester scheme reply g.fields g.codes

      left : (call list delay c t).1 ≡ end (single list delay) members t
      left = singly_end list delay (c ∷ []) t ∙ ap (λ cs. end (single list delay) cs t) (append-nil (steps_of list c) ∙ s)

      kept : but_holder (record_for (end (single list delay) members t) k) ≡ but_holder (record_for t k)
      kept =
          plain_end list delay k members t sound
          (members_plain list delay requester scheme string reply g (crew_codes g.codes) (goes_small list requester scheme string reply g))

  call_counts : (c : Call) (t : State) → state_sound t ≡ true → ByCall c (call list delay c t).0 t (call list delay c t).1
  call_counts c = by_view (view list delay c)

  -- ---- over a list of calls: one number

  -- one entry more
  pub often_more : (test : Call × Reply → Bool) (e : Call × Reply) (es : List (Call × Reply))
      → how_often test (got_by list k (e ∷ es)) ≡ one (of_number list k test e) + how_often test (got_by list k es)
  often_more test e es = go (names_one list e.0 k) (test e) refl refl
    where
      go : (b p : Bool) → names_one list e.0 k ≡ b → test e ≡ p → how_often test (got_by list k (e ∷ es)) ≡ one (of_number list k test e) + how_often test (got_by list k es)
      go false p n m = rw n (omega arith)
      go true false n m = rw (n, m) (omega arith)
      go true true n m = rw (n, m) (omega arith)

  pub keeps : (c : Call) (t : State) → state_sound t ≡ true → state_sound (call list delay c t).1 ≡ true
  keeps c t sound = (calls_local list delay).keep c t sound

  pub each_number : (cs : List Call) (t : State) → state_sound t ≡ true
      → Balanced (got_by list k (log (call list delay) cs t)) (pending_for t k) (pending_for (end (call list delay) cs t) k)
  each_number [] t sound = omega arith
  each_number (c ∷ cs) t sound =
      let u = (call list delay c t).1 in
      let e : Call × Reply = (c, (call list delay c t).0) in
      let es = log (call list delay) cs u in
      let it = call_counts c t sound in
      omega (
        arith,
        often_more makes_notice e es,
        often_more is_delivery e es,
        often_more is_dropped_by_kind e es,
        often_more is_dropped_last e es,
        ap one it.made,
        it.ended,
        balance (is_absent (notice_for t k)) (is_absent (notice_for u k)),
        each_number cs u (keeps c t sound),
      )
    where
      balance : (a b : Bool) → one (a && not b) + one (not a) ≡ one (not a && b) + one (not b)
      balance true true = refl
      balance true false = refl
      balance false true = refl
      balance false false = refl

  pub counted_once : (c : Call) (t : State) → state_sound t ≡ true → CountedOnce list delay c t k
  counted_once c t sound =
      let e : Call × Reply = (c, (call list delay c t).0) in
      let it = call_counts c t sound in
      record {
        made = omega (arith, often_more makes_notice e [], ap one it.made);
        holder = λ m. it.holder (is_one (of_number list k makes_notice e) (omega (arith, often_more makes_notice e [], m)));
        ended = omega (arith, often_more is_delivery e [], often_more is_dropped_by_kind e [], often_more is_dropped_last e [], it.ended);
        last = λ m.
            let most = leb-true most_sendings (sendings_done (notice_for t k)) (it.last (is_one (of_number list k is_dropped_last e) (omega (arith, often_more is_dropped_last e [], m)))) in
            omega (arith, most, state_most t k sound);
        sent = it.sent;
      }
    where
      is_one : (b : Bool) → one b ≡ 1 → b ≡ true
      is_one true e = refl
      is_one false e = absurd (omega arith)

  -- ---- between two erasures of one number

  -- a result that does not clear k's notice counts nothing for it
  uncleared : (c : Call) (a : Reply) → notice_cleared k (c, a) ≡ false
      → one (of_number list k is_delivery (c, a)) + one (of_number list k is_dropped_by_kind (c, a)) + one (of_number list k is_dropped_last (c, a)) ≡ 0
  uncleared (request requester scheme string reply) a u = rw (and_no (names_one list (request requester scheme string reply) k) false refl) refl
  uncleared (framed requester message frame) a u = rw (and_no (names_one list (framed requester message frame) k) false refl) refl
  uncleared (sending now number buffer) a u = rw (and_no (eqb number.0 k) false refl) refl
  uncleared (terminal number holder reply) a u = rw (and_no (eqb number.0 k) false refl) refl
  uncleared (routes home coded asked) a u = rw (and_no (names_one list (routes home coded asked) k) false refl) refl
  uncleared (result now number kind) a u = go (eqb number.0 k) refl
    where
      no_return : (n : ℕ) → eqb again_number n ≡ false → is_clearing a.answer ≡ false → (is_of result_class a.answer && eqb (numbers_of a.answer).number n) ≡ false
      no_return n other = by_class (is_of result_class a.answer) (eqb (numbers_of a.answer).number again_number) refl
        where
          by_class : (b m : Bool) → eqb (numbers_of a.answer).number again_number ≡ m → (b && not m) ≡ false → (b && eqb (numbers_of a.answer).number n) ≡ false
          by_class false m e c = refl
          by_class true true e c = rw (eqb-true (numbers_of a.answer).number again_number e) other
          by_class true false e c = no_path (sym c)

      go : (b : Bool) → eqb number.0 k ≡ b
          → one (of_number list k is_delivery (result now number kind, a)) + one (of_number list k is_dropped_by_kind (result now number kind, a)) + one (of_number list k is_dropped_last (result now number kind, a)) ≡ 0
      go false n = rw n refl
      go true n =
          let unclear = rw n at u in
          rw (n, no_return delivered_number refl unclear, no_return dropped_number refl unclear, and_no (is_zero kind) false refl, and_no (is_one_to_four kind) false refl, and_no (is_five kind) false refl) refl

  -- from a pending notice, behind an entry x: before an erasure that makes another stands the result that ends it
  ended_first : (cs : List Call) (t : State) → state_sound t ≡ true → is_absent (notice_for t k) ≡ false → (x : Call × Reply) (j : ℕ)
      → holds_at (of_number list k makes_notice) (log (call list delay) cs t) j ≡ true → Between (notice_cleared k) (x ∷ log (call list delay) cs t) zero (suc j)
  ended_first [] t sound p x j m = no_path m
  ended_first (c ∷ cs) t sound p x zero m = no_path (sym ((call_counts c t sound).made ∙ rw p refl) ∙ m)
  ended_first (c ∷ cs) t sound p x (suc j) m =
      by_cleared (notice_cleared k (c, a)) refl (λ q. ended_first cs u (keeps c t sound) q (c, a) j m)
    where
      a : Reply
      a = (call list delay c t).0

      u : State
      u = (call list delay c t).1

      -- a notice that is not cleared is pending still
      by_absence : (b : Bool) → is_absent (notice_for u k) ≡ b → notice_cleared k (c, a) ≡ false → is_absent (notice_for u k) ≡ false
      by_absence false e n = e
      by_absence true e n = absurd (let z : ◌≡◌ {A = ℕ} 0 1 = sym (uncleared c a n) ∙ (call_counts c t sound).ended ∙ rw (p, e) refl in omega arith)

      by_cleared : (b : Bool) → notice_cleared k (c, a) ≡ b
          → (is_absent (notice_for u k) ≡ false → Between (notice_cleared k) ((c, a) ∷ log (call list delay) cs u) zero (suc j))
          → Between (notice_cleared k) (x ∷ (c, a) ∷ log (call list delay) cs u) zero (suc (suc j))
      by_cleared true n rest = record { place = suc zero; behind = omega arith; before = omega arith; passes = n }
      by_cleared false n rest = farther (omega arith) (rest (by_absence (is_absent (notice_for u k)) refl n))

  -- of a notice in the starting table
  pub ended_before : (cs : List Call) (t : State) → state_sound t ≡ true → pending_for t k ≡ 1 → (j : ℕ) → holds_at (of_number list k makes_notice) (log (call list delay) cs t) j ≡ true
      → (i : ℕ) × (i < j) × (holds_at (notice_cleared k) (log (call list delay) cs t) i ≡ true)
  ended_before cs t sound p j m =
      let b = ended_first cs t sound (is_pending (is_absent (notice_for t k)) p) x j m in at_place b.place b.behind b.before b.passes
    where
      -- any entry in front
      x : Call × Reply
      x = (result 0 (record { 0 = 0 }) 0, missed list (result 0 (record { 0 = 0 }) 0))

      is_pending : (b : Bool) → one (not b) ≡ 1 → b ≡ false
      is_pending true e = absurd (omega arith)
      is_pending false e = refl

      at_place : (place : ℕ) → zero < place → place < suc j → holds_at (notice_cleared k) (x ∷ log (call list delay) cs t) place ≡ true
          → (i : ℕ) × (i < j) × (holds_at (notice_cleared k) (log (call list delay) cs t) i ≡ true)
      at_place zero h l q = absurd (omega arith)
      at_place (suc i) h l q = (i, omega arith, q)

  -- an erasure that makes a notice leaves it pending
  made_pends : (c : Call) (t : State) → state_sound t ≡ true → of_number list k makes_notice (c, (call list delay c t).0) ≡ true → is_absent (notice_for (call list delay c t).1 k) ≡ false
  made_pends c t sound m = not-true _ (and_right (is_absent (notice_for t k)) _ (sym (call_counts c t sound).made ∙ m))

  pub ended_between : (cs : List Call) (t : State) → state_sound t ≡ true → (i j : ℕ) → i < j → holds_at (of_number list k makes_notice) (log (call list delay) cs t) i ≡ true
      → holds_at (of_number list k makes_notice) (log (call list delay) cs t) j ≡ true → Between (notice_cleared k) (log (call list delay) cs t) i j
  ended_between cs t sound i zero h m n = absurd (omega arith)
  ended_between [] t sound i (suc j) h m n = no_path m
  ended_between (c ∷ cs) t sound zero (suc j) h m n = ended_first cs (call list delay c t).1 (keeps c t sound) (made_pends c t sound m) _ j n
  ended_between (c ∷ cs) t sound (suc i) (suc j) h m n =
      farther (omega arith) (ended_between cs (call list delay c t).1 (keeps c t sound) i j (omega arith) m n)

  -- ---- whom a sending tells

  -- a pending notice of k is to tell n
  abbrev pub Latest : Notified → State → Type 0
  Latest n t = is_absent (notice_for t k) ≡ false → notified_in (record_for t k) ≡ n

  -- by the last erasure among the entries that made a notice of k
  abbrev pub noticed : List (Call × Reply) → Notified → Notified
  noticed es n = notified_after (last (only makes_notice (got_by list k es))) n

  noticed_more : (e : Call × Reply) (es : List (Call × Reply)) (n : Notified) → noticed (e ∷ es) n ≡ noticed es (cond (of_number list k makes_notice e) (notified_by e) n)
  noticed_more e es n = go (names_one list e.0 k) (makes_notice e) refl refl
    where
      go : (b p : Bool) → names_one list e.0 k ≡ b → makes_notice e ≡ p → noticed (e ∷ es) n ≡ noticed es (cond (of_number list k makes_notice e) (notified_by e) n)
      go false p q m = rw q refl
      go true false q m = rw (q, m) refl
      go true true q m = rw (q, m) (sym (last_more notified_after (λ n. refl) (λ x a b. refl) e (only makes_notice (got_by list k es)) n))

  latest_on : (c : Call) (t : State) → state_sound t ≡ true → (n : Notified) → Latest n t
      → Latest (cond (of_number list k makes_notice (c, (call list delay c t).0)) (notified_by (c, (call list delay c t).0)) n) (call list delay c t).1
  latest_on c t sound n l p =
      let it = call_counts c t sound in it.notifies p ∙ go (of_number list k makes_notice (c, (call list delay c t).0)) (sym it.made)
    where
      go : (b : Bool) → (is_absent (notice_for t k) && not (is_absent (notice_for (call list delay c t).1 k))) ≡ b
          → cond b (notified_by (c, (call list delay c t).0)) (notified_in (record_for t k)) ≡ cond b (notified_by (c, (call list delay c t).0)) n
      go true e = refl
      go false e = l (before (is_absent (notice_for t k)) (rw p at e))
        where
          before : (b : Bool) → (b && true) ≡ false → b ≡ false
          before true e = e
          before false e = e

  -- a sending that succeeds tells whom the notice of its number is to tell
  sends_to : (now : ℕ) (number : FunctionalNumber) (buffer : List ℕ) (t : State) → state_sound t ≡ true → number.0 ≡ k → (n : Notified) → Latest n t
      → is_sent (call list delay (sending now number buffer) t).0.answer ≡ true
      → (call list delay (sending now number buffer) t).0 ≡ telling number n.holder n.supervisor buffer
  sends_to now number buffer t sound its n l sent = by_record_lem (record_for t k) refl
    where
      it : Call
      it = sending now number buffer

      named : name_of list it ≡ some k
      named = ap some its

      done : (a : Reply) → is_sent a.answer ≡ true → sending_done k (it, a) ≡ true
      done a s = rw (eq-eqb number.0 k its) s

      by_record_lem : (o : Option Record) → record_for t k ≡ o → (single list delay it t).0 ≡ telling number n.holder n.supervisor buffer
      by_record_lem none e =
          let x = single_absent list delay it t sound k named e in
          no_path (sym (passed_unsent list k it missing) ∙ done (missed list it) (ap (λ (y : Reply × State). is_sent y.0.answer) (sym x) ∙ sent))
      by_record_lem (some r) e =
          let x = (single_own list delay it t sound k r named e).0 in
          let d = does list delay it r in
          let s = done (visit list delay it r).reply (ap (λ (y : Reply). is_sent y.answer) (sym x) ∙ sent) in
          let pends = waits_pending r.notice (sent_flies list k d s).0 in
          let latest = l (rw e pends) in
          x ∙ sending_tells list k d s ∙ ap (λ (m : Notified). telling number m.holder m.supervisor buffer) (rw e at latest)

  pub sent_on : (cs : List Call) (t : State) → state_sound t ≡ true → (n : Notified) → Latest n t → (i now : ℕ) (number : FunctionalNumber) (buffer : List ℕ) (a : Reply)
      → number.0 ≡ k → get_elem? (log (call list delay) cs t) i ≡ some (sending now number buffer, a) → is_sent a.answer ≡ true
      → let m = noticed (take i (log (call list delay) cs t)) n in a ≡ telling number m.holder m.supervisor buffer
  sent_on [] t sound n l i now number buffer a its e s = absurd (let z : ◌≡◌ {A = ℕ} 0 1 = cc in omega arith)
  sent_on (c ∷ cs) t sound n l zero now number buffer a its e s =
      let entry : ◌≡◌ {A = Call × Reply} (c, (call list delay c t).0) (sending now number buffer, a) = cc in
      let got : a ≡ (call list delay (sending now number buffer) t).0 = sym (ap (λ (x : Call × Reply). x.1) entry) ∙ ap (λ (x : Call × Reply). (call list delay x.0 t).0) entry in
      got ∙ sends_to now number buffer t sound its n l (ap (λ (r : Reply). is_sent r.answer) (sym got) ∙ s)
  sent_on (c ∷ cs) t sound n l (suc i) now number buffer a its e s =
      let u = (call list delay c t).1 in
      sent_on cs u (keeps c t sound) (cond (of_number list k makes_notice (c, (call list delay c t).0)) (notified_by (c, (call list delay c t).0)) n) (latest_on c t sound n l) i now number buffer a its e s
      ∙ ap (λ (m : Notified). telling number m.holder m.supervisor buffer)
      (sym (noticed_more (c, (call list delay c t).0) (take i (log (call list delay) cs u)) n))
