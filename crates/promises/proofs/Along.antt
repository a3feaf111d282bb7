-- A list of calls, seen from one number: its record before them, what each call got, its record after them; and what a call that visits a record may do to it. Assumes nothing.
use mathlib.Core.Path.{◌≡◌, refl, sym, ap, ◌∙◌}
use mathlib.Core.Logic.{⊎_elim}
use mathlib.Core.Bool.{Bool, true, false, cond, not, ◌&&◌}
use mathlib.Core.Option.{Option, none, some}
use mathlib.Core.List.{List, [], ◌∷◌, map}
use Prim.Native.Nat.{ℕ}
use lib.ListN.{length}
use lib.Dec.{eqb, ltb, leb}
use borrow.Author.Tests.{eqb-true, eq-eqb, ne_eqb, not-true, not-false}
use Rattle.answers.specs.Checks.{◌>>=◌}
use Rattle.answers.proofs.Decide.{answering, decide_each, decide_by, decide_first}
use Rattle.answers.proofs.Tests.{no_path, and_left, and_right}
use Rattle.numbers.specs.Numbers.{nobody, is_nobody}
use Rattle.numbers.specs.declared.FunctionalNumber.{FunctionalNumber}
use Rattle.numbers.specs.declared.Msisdn.{Msisdn}
use Rattle.strings.specs.declared.Operation.{Operation}
use Rattle.strings.specs.declared.Operation.TheVariants.{Register, Erase, Interrogate}
use Rattle.strings.specs.declared.Erasing.{Erasing}
use Rattle.strings.specs.declared.Erasing.TheVariants.{Empty, Forced}
use Rattle.strings.specs.Text.{Request}
use Rattle.strings.specs.Outcomes.{request_of}
use Rattle.records.specs.declared.Record.{Record}
use Rattle.records.specs.Step.{Step}
use Rattle.records.specs.Step as step
use Rattle.records.specs.Holder as holds
use Rattle.records.specs.Sending as launches
use Rattle.records.specs.Resulted.{Refused, Delivered, Dropped, Again}
use Rattle.records.specs.declared.Notice.{Notice}
use Rattle.records.specs.declared.Notice.TheVariants.{Waiting}
use Rattle.records.specs.Steps as steps
use Rattle.records.specs.Steps.{same, held_by, forced_off, is_absent, is_waiting, is_in_flight, sendings_done, launched, with_notice, cleared, most_sendings, last_kind}
use Rattle.tables.specs.Tables.{flags_of}
use Rattle.states.specs.States.{State, state_sound, record_for}
use Rattle.rules.specs.Answers.{Answer, refusal, delivered, dropped, again, buffer_room, is_outcome}
use Rattle.rules.specs.Requests.{has_follow_me, is_supervisor, is_forced, after_erasure, right_checks}
use Rattle.rules.specs.Frames.{Inside, inside_of, own_reply}
use Rattle.rules.specs.Terminal.{terminal_request, both_numbers}
use Rattle.rules.specs.Routing.{with_code_in, by_code}
use Rattle.rules.specs.Figures.{is_routing}
use Rattle.rules.specs.Run.{end, log}
use Rattle.rules.specs.Calls.{Call, request, framed, sending, result, terminal, routes, Reply, read_of, clock_reading, name_of, names_one}
use Rattle.rules.specs.Visits.{Visited, visited, visit_saying, stepped, holder_answered, decides, decided, sent_step, result_step, visit_request, visit_inside, visit, reply_saying, missed_request, missed_inside, missed}
use Rattle.rules.specs.Entries.{never}
use Rattle.promises.specs.Users.{asker_of}
use Rattle.rules.proofs.Once.{single}
use Rattle.rules.proofs.Inside.{outcome_kept}
use Rattle.rules.proofs.Routes.{code_each}
use Rattle.rules.proofs.Unsound.{unsound_single}
use Rattle.rules.proofs.Visits.{record_checks, sent_checks}
use Rattle.rules.proofs.Sound.{single_own, single_absent, single_other}
use Rattle.rules.proofs.Local.{named_some}

-- a request, framed or not
abbrev pub is_request : Call → Bool
is_request (request requester scheme string reply) = true
is_request (framed requester message frame) = true
is_request (sending now number buffer) = false
is_request (result now number kind) = false
is_request (terminal number holder reply) = false
is_request (routes home coded asked) = false

-- ---- what a visit may do to the record r

-- a request, bare or in its frame, by what its string reads as: whether it was answered 01, and 02, and the record that it leaves
pub data Asked (list : List ℕ) (r : Record) (requester : Msisdn) (read : Option Request) : Bool → Bool → Record → Type 0 where
  -- answered with anything but 01 and 02
  negative : Asked list r requester read false false r
  registration : {f : Request} → read ≡ some f → f.operation ≡ Register → r.closed ≡ false → (not (is_nobody r.holder) && not (same r.holder requester)) ≡ false
      → Asked list r requester read true false (held_by requester r)
  erasure : {f : Request} → read ≡ some f → f.operation ≡ Erase → f.erasing ≡ Empty → steps.may_erase f.number requester r.holder ≡ true
      → has_follow_me (flags_of list requester.0) ≡ true
      → Asked list r requester read false true (held_by nobody r)
  -- a forced erasure by the holder herself
  herself : {f : Request} {named : Msisdn} → read ≡ some f → f.operation ≡ Erase → f.erasing ≡ Forced named
      → same r.holder named ≡ true → same r.holder requester ≡ true → Asked list r requester read false true (held_by nobody r)
  -- a forced erasure by another
  forced : {f : Request} {named : Msisdn} → read ≡ some f → f.operation ≡ Erase → f.erasing ≡ Forced named
      → same r.holder named ≡ true → same r.holder requester ≡ false → is_absent r.notice ≡ true
      → has_follow_me (flags_of list requester.0) ≡ true → is_supervisor (flags_of list requester.0) ≡ true → is_nobody r.holder ≡ false
      → Asked list r requester read false true (forced_off requester r)

-- of a visit
abbrev pub AskedIn : List ℕ → Record → Msisdn → Option Request → Visited → Type 0
AskedIn list r requester read v = Asked list r requester read (is_outcome 1 v.reply.answer) (is_outcome 2 v.reply.answer) v.next

-- what a result of a kind returns where it clears the notice: delivered, dropped by kinds 1 to 4, dropped after the last sending by kind 5
pub data Clears (kind : ℕ) (n : Notice) : Answer → Type 0 where
  delivers : eqb kind 0 ≡ true → Clears kind n delivered
  drops : eqb kind 0 ≡ false → ltb kind last_kind ≡ true → Clears kind n dropped
  gives_up : ltb last_kind kind ≡ false → ltb kind last_kind ≡ false → leb most_sendings (sendings_done n) ≡ true → Clears kind n dropped

-- a call
pub data Does (list : List ℕ) (r : Record) : Call → Visited → Type 0 where
  asks : {c : Call} {v : Visited} → is_request c ≡ true → AskedIn list r (asker_of c) (read_of c) v → Does list r c v
  unsent : {now : ℕ} {number : FunctionalNumber} {buffer : List ℕ} {n : ℕ} → Does list r (sending now number buffer) (visited (refusal n) buffer r)
  sends : {now : ℕ} {number : FunctionalNumber} {buffer : List ℕ} → is_waiting r.notice ≡ true
      → Does list r (sending now number buffer) (sent_step number buffer r (launches.Launched (with_notice (launched r.notice) r)))
  untaken : {now kind n : ℕ} {number : FunctionalNumber} → Does list r (result now number kind) (visited (refusal n) [] r)
  clears : {now kind : ℕ} {number : FunctionalNumber} {a : Answer} → is_in_flight r.notice ≡ true → Clears kind r.notice a
      → Does list r (result now number kind) (visited a [] (cleared r))
  goes_on : {now kind : ℕ} {number : FunctionalNumber} → is_in_flight r.notice ≡ true → leb most_sendings (sendings_done r.notice) ≡ false
      → Does list r (result now number kind) (visited again [] (with_notice (Waiting (sendings_done r.notice) (clock_reading now)) r))
  -- at the terminal: answered with anything but 01 and 02, or the holder is forced off
  unmoved : {number : FunctionalNumber} {holder : Msisdn} {reply buffer : List ℕ} {a : Answer} → is_outcome 1 a ≡ false → is_outcome 2 a ≡ false
      → Does list r (terminal number holder reply) (visited a buffer r)
  removes : {number : FunctionalNumber} {holder : Msisdn} {reply : List ℕ} → same r.holder holder ≡ true → is_absent r.notice ≡ true → is_nobody r.holder ≡ false
      → Does list r (terminal number holder reply) (visit_saying 2 reply (forced_off nobody r))
  -- a routing is answered with neither, and leaves the record
  looks : {home asked : List ℕ} {coded : Bool} {a : Answer} → is_outcome 1 a ≡ false → is_outcome 2 a ≡ false → Does list r (routes home coded asked) (visited a [] r)

module _ (list : List ℕ) (r : Record) (requester : Msisdn) (reply : List ℕ) where
  abbrev flags : ℕ
  flags = flags_of list requester.0

  module _ (f : Request) (right : has_follow_me flags ≡ true) where
    abbrev Requested : Visited → Type 0
    Requested = AskedIn list r requester (some f)

    abbrev Stepped : ℕ → Step → Type 0
    Stepped n s = Requested (stepped n reply r s)

    abbrev steps_by : Operation → Erasing → List (Bool × Step)
    steps_by o e = map (answering step.Stays) (record_checks o e f.number requester r)

    by_operation : (o : Operation) (e : Erasing) → f.operation ≡ o → f.erasing ≡ e → (is_forced e && not (is_supervisor flags)) ≡ false
        → Requested (decides o e f.number requester reply r)
    unfolding steps.registered steps.erased steps.forced steps.interrogated
    by_operation Register e p q w =
        decide_by (Stepped 1) (steps_by Register e) (step.Becomes (held_by requester r)) (negative, (negative, (negative, tt)))
        (λ a. registration refl p a.1.0 a.1.1.0)
    by_operation Erase Empty p q w =
        decide_by (Stepped 2) (steps_by Erase Empty) (step.Becomes (held_by nobody r)) (negative, (negative, tt))
        (λ a. erasure refl p q (not-false _ a.1.0) right)
    by_operation Erase (Forced named) p q w =
        decide_by (Stepped 2) (steps_by Erase (Forced named)) (step.Becomes (after_erasure requester (Forced named) r))
        (negative, (negative, (negative, tt))) (λ a. by_holder_lem (same r.holder requester) refl a.0 (not-false _ a.1.0) a.1.1.0)
      where
        by_holder_lem : (b : Bool) → same r.holder requester ≡ b → is_nobody r.holder ≡ false → same r.holder named ≡ true → (not b && not (is_absent r.notice)) ≡ false
            → Requested (visit_saying 2 reply (cond b (held_by nobody r) (forced_off requester r)))
        by_holder_lem true m n h a = herself refl p q h m
        by_holder_lem false m n h a = forced refl p q h m (not-false _ a) right (not-false _ w) n
    by_operation Interrogate e p q w =
        decide_by (λ h. Requested (holder_answered reply r h)) (map (answering holds.Stays) (record_checks Interrogate e f.number requester r)) (holds.Held r.holder)
        (negative, tt) (λ a. negative)

  by_reading : (read : Option Request) → AskedIn list r requester read (visit_request flags requester reply read r)
  unfolding decided
  by_reading none = negative
  by_reading (some f) =
      decide_by (AskedIn list r requester (some f)) (map (answering (λ n. visit_saying n reply r)) (right_checks flags f.erasing)) (decided f requester reply r)
      (negative, (negative, tt)) (λ a. by_operation f (not-false _ a.0) f.operation f.erasing refl refl a.1.0)

-- in its frame too
by_inside : (list : List ℕ) (r : Record) (requester : Msisdn) (frame : List ℕ) (inside : Option Inside)
    → AskedIn list r requester (inside >>= λ i. request_of i.string) (visit_inside (flags_of list requester.0) requester frame inside r)
by_inside list r requester frame none = negative
by_inside list r requester frame (some i) =
    let v = visit_request (flags_of list requester.0) requester own_reply (request_of i.string) r in
    rw (outcome_kept i frame v.reply 1, outcome_kept i frame v.reply 2) (by_reading list r requester own_reply (request_of i.string))

-- what a routing is answered, by the record
code_quiet : (n : ℕ) → eqb 41 n ≡ false → eqb 62 n ≡ false → (home digits : List ℕ) (r : Option Record) → is_outcome n (by_code home digits r) ≡ false
code_quiet n unknown free home digits r = code_each (λ a. is_outcome n a ≡ false) unknown free (λ code. refl) (λ m s. refl) home digits r

-- a visit does one of these
pub does : (list : List ℕ) (delay : ℕ) (c : Call) (r : Record) → Does list r c (visit list delay c r)
unfolding steps.sent steps.resulted steps.forced decided
does list delay (request requester scheme string reply) r = asks refl (by_reading list r requester reply (request_of string))
does list delay (framed requester message frame) r = asks refl (by_inside list r requester frame (inside_of message))
does list delay (sending now number buffer) r =
    decide_by (Does list r (sending now number buffer)) ((ltb (length buffer) buffer_room, visited (refusal 1) buffer r) ∷ [])
    (sent_step number buffer r (steps.sent delay (clock_reading now) r)) (unsent, tt)
    (λ p. decide_by (λ s. Does list r (sending now number buffer) (sent_step number buffer r s)) (map (answering launches.Refused) (sent_checks delay (clock_reading now) r))
    (launches.Launched (with_notice (launched r.notice) r)) (unsent, (unsent, (unsent, tt))) (λ a. sends (not-false _ a.1.0)))
does list delay (result now number kind) r =
    decide_first (λ s. Does list r (result now number kind) (result_step r s))
    ((ltb last_kind kind, Refused 3)
    ∷ (not (is_in_flight r.notice), Refused 4)
    ∷ (eqb kind 0, Delivered (cleared r))
    ∷ (ltb kind last_kind, Dropped (cleared r))
    ∷ (leb most_sendings (sendings_done r.notice), Dropped (cleared r))
    ∷ [])
    (Again (with_notice (Waiting (sendings_done r.notice) (clock_reading now)) r)) (
      λ above. untaken,
      λ most. (
        λ absent. untaken,
        λ flies. (
          λ zero. clears (not-false _ flies) (delivers zero),
          λ above. (
            λ below. clears (not-false _ flies) (drops above below),
            λ least. (λ all. clears (not-false _ flies) (gives_up most least all), λ left. goes_on (not-false _ flies) left),
          ),
        ),
      ),
    )
does list delay (terminal number holder reply) r =
    decide_by (Does list r (terminal number holder reply))
    ((ltb (length reply) buffer_room, visited (refusal 1) reply r) ∷ (not (both_numbers number holder), visited (refusal 7) reply r) ∷ [])
    (decided (terminal_request number holder) nobody reply r) (unmoved refl refl, (unmoved refl refl, tt))
    (λ p. decide_by (λ s. Does list r (terminal number holder reply) (stepped 2 reply r s)) (map (answering step.Stays) (record_checks Erase (Forced holder) number nobody r))
    (step.Becomes (after_erasure nobody (Forced holder) r)) (unmoved refl refl, (unmoved refl refl, (unmoved refl refl, tt)))
    (λ a. rw a.0 (removes (not-false _ a.1.0) (not-false _ (rw a.0 at a).1.1.0) a.0)))
does list delay (routes home coded asked) r =
    looks (code_quiet 1 refl refl home (with_code_in home coded asked) (some r)) (code_quiet 2 refl refl home (with_code_in home coded asked) (some r))

-- ---- a list of calls, seen from the number k

-- the call c got the reply a and did not come to a record of k
pub data Passed (list : List ℕ) (k : ℕ) (c : Call) : Reply → Type 0 where
  unnamed : {a : Reply} → names_one list c k ≡ false → Passed list k c a
  -- k is not in the table
  missing : Passed list k c (missed list c)
  -- the state is unsound
  refused : {n : ℕ} {buffer : List ℕ} → Passed list k c (record { answer = refusal n; buffer = buffer })
  -- or its figures are wrong, which a routing does not look at
  looked : {a : Answer} → is_routing c ≡ true → is_outcome 1 a ≡ false → is_outcome 2 a ≡ false → Passed list k c (record { answer = a; buffer = [] })

-- from k's record before the calls, by the log, to its record after them; none where k is not in the table
pub data Along (list : List ℕ) (k : ℕ) : Option Record → List (Call × Reply) → Option Record → Type 0 where
  ends : {o : Option Record} → Along list k o [] o
  passes : {o p : Option Record} {c : Call} {a : Reply} {l : List (Call × Reply)} → Passed list k c a → Along list k o l p → Along list k o ((c, a) ∷ l) p
  visits : {p : Option Record} {c : Call} {r : Record} {v : Visited} {l : List (Call × Reply)} → names_one list c k ≡ true → Does list r c v
      → Along list k (some v.next) l p → Along list k (some r) ((c, v.reply) ∷ l) p

module _ (list : List ℕ) (delay k : ℕ) where
  -- one call more at the front
  ahead : (c : Call) (t : State) {l : List (Call × Reply)} {p : Option Record}
      → Along list k (record_for (single list delay c t).1 k) l p → Along list k (record_for t k) ((c, (single list delay c t).0) ∷ l) p
  ahead c t {l} {p} rest = by_state (state_sound t) refl
    where
      by_record_lem : state_sound t ≡ true → (b : Bool) (o : Option Record) → names_one list c k ≡ b → record_for t k ≡ o → Along list k o ((c, (single list delay c t).0) ∷ l) p
      by_record_lem sound false o n e = passes (unnamed n) (rw (single_other list delay c t sound k n ∙ e) at rest)
      by_record_lem sound true none n e =
          let m = single_absent list delay c t sound k (named_some (name_of list c) k n) e in
          rw m (passes missing (rw (m, e) at rest))
      by_record_lem sound true (some r) n e =
          let m = single_own list delay c t sound k r (named_some (name_of list c) k n) e in
          rw m.0 (visits n (does list delay c r) (rw m.1 at rest))

      by_state : (b : Bool) → state_sound t ≡ b → Along list k (record_for t k) ((c, (single list delay c t).0) ∷ l) p
      by_state true e = by_record_lem e (names_one list c k) (record_for t k) refl refl
      by_state false e =
          ⊎_elim (λ (n, buffer, m, early). rw m (passes refused (rw m at rest))) (λ (a, m, routing, quiet). rw m (passes (looked routing quiet.0 quiet.1) (rw m at rest)))
          (unsound_single t e list delay c)

  -- any list of calls over any state is such a walk
  pub along : (cs : List Call) (t : State) → Along list k (record_for t k) (log (single list delay) cs t) (record_for (end (single list delay) cs t) k)
  along [] t = ends
  along (c ∷ cs) t = ahead c t (along cs (single list delay c t).1)

-- ---- a call that names k and is answered 02 has visited its record

abbrev Negative : Reply → Type 0
Negative a = is_outcome 2 a.answer ≡ false

missed_request_negative : (flags : ℕ) (reply : List ℕ) (read : Option Request) → Negative (missed_request flags reply read)
missed_request_negative flags reply none = refl
missed_request_negative flags reply (some f) =
    decide_each Negative (map (answering (λ n. reply_saying n reply)) (right_checks flags f.erasing)) (reply_saying 41 reply) (refl, (refl, tt)) refl

pub missed_negative : (list : List ℕ) (c : Call) → Negative (missed list c)
missed_negative list (request requester scheme string reply) = missed_request_negative (flags_of list requester.0) reply (request_of string)
missed_negative list (framed requester message frame) = go (inside_of message)
  where
    go : (inside : Option Inside) → Negative (missed_inside (flags_of list requester.0) frame inside)
    go none = refl
    go (some i) =
        let r = missed_request (flags_of list requester.0) own_reply (request_of i.string) in
        outcome_kept i frame r 2 ∙ missed_request_negative (flags_of list requester.0) own_reply (request_of i.string)
missed_negative list (sending now number buffer) =
    decide_each Negative ((ltb (length buffer) buffer_room, record { answer = refusal 1; buffer = buffer }) ∷ []) (record { answer = refusal 7; buffer = buffer })
    (refl, tt) refl
missed_negative list (result now number kind) = refl
missed_negative list (routes home coded asked) = code_quiet 2 refl refl home (with_code_in home coded asked) none
missed_negative list (terminal number holder reply) =
    decide_each Negative
    ((ltb (length reply) buffer_room, record { answer = refusal 1; buffer = reply }) ∷ (not (both_numbers number holder), record { answer = refusal 7; buffer = reply }) ∷ [])
    (reply_saying 41 reply) (refl, (refl, tt)) refl

pub answered_02 : {list : List ℕ} {k : ℕ} {o p : Option Record} {c : Call} {a : Reply} → Along list k o ((c, a) ∷ []) p → names_one list c k ≡ true
    → is_outcome 2 a.answer ≡ true → (r : Record) × (v : Visited) × Does list r c v × (p ≡ some v.next) × (is_outcome 2 v.reply.answer ≡ true)
answered_02 (passes (unnamed n) ends) m u = no_path (sym n ∙ m)
answered_02 {list} {c = c} (passes missing ends) m u = no_path (sym (missed_negative list c) ∙ u)
answered_02 (passes refused ends) m u = no_path u
answered_02 (passes (looked r p q) ends) m u = no_path (sym q ∙ u)
answered_02 (visits {r = r} {v = v} n d ends) m u = (r, v, d, refl, u)

-- ---- what the tests say

-- the word of an MSISDN, by which it is known
abbrev pub word : Msisdn → ℕ
word m = m.0

pub one_msisdn : (m n : Msisdn) → m.0 ≡ n.0 → m ≡ n
one_msisdn m n e = ap (λ (w : ℕ). record { 0 = w }) e

pub same_one : (m n : Msisdn) → same m n ≡ true → m ≡ n
same_one m n e = one_msisdn m n (eqb-true m.0 n.0 e)

pub one_same : (m n : Msisdn) → m ≡ n → same m n ≡ true
one_same m n e = eq-eqb m.0 n.0 (ap word e)

pub not_same : (m n : Msisdn) → (m ≡ n → ⊥) → same m n ≡ false
not_same m n d = ne_eqb m.0 n.0 (λ e. d (one_msisdn m n e))

pub never_first : {X : Type 0} (test : X → Bool) (x : X) (xs : List X) → never test (x ∷ xs) ≡ true → (test x ≡ false) × (never test xs ≡ true)
never_first test x xs u = (not-true _ (and_left (not (test x)) (never test xs) u), and_right (not (test x)) (never test xs) u)
