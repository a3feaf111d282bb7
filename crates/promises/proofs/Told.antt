-- The told: who is forced off a number is the addressee of every sending that succeeds, up to the result that clears the notice, and reads the number and the supervisor in it, or nobody. Assumes nothing.
use mathlib.Core.Path.{◌≡◌, refl, sym, ap, subst, ◌∙◌}
use mathlib.Core.Bool.{Bool, true, false}
use mathlib.Core.Option.{Option, some}
use mathlib.Core.List.{List, [], ◌∷◌}
use Prim.Native.Nat.{ℕ, zero, suc}
use native.Mathlib.Omega.{arith}
use lib.ListN.{get_elem?}
use lib.Dec.{eqb}
use borrow.Author.Tests.{eq-eqb}
use Rattle.answers.proofs.Checks.{not_some}
use Rattle.answers.proofs.Tests.{no_path, and_right}
use Rattle.numbers.specs.Numbers.{nobody}
use Rattle.numbers.specs.declared.FunctionalNumber.{FunctionalNumber}
use Rattle.numbers.specs.declared.Msisdn.{Msisdn}
use Rattle.strings.specs.declared.Erasing.TheVariants.{Forced}
use Rattle.strings.specs.Text.{Request}
use Rattle.records.specs.declared.Record.{Record}
use Rattle.records.specs.Steps.{same, is_absent}
use Rattle.states.specs.States.{State, record_for}
use Rattle.rules.specs.Answers.{is_outcome}
use Rattle.rules.specs.Run.{log}
use Rattle.rules.specs.Calls.{Call, Reply, request, framed, sending, result, terminal, routes, read_of, names_one, call, steps}
use Rattle.rules.specs.Visits.{Visited}
use Rattle.rules.specs.Entries.{never, holds_of}
use Rattle.promises.specs.Pending.{sending_done, notice_cleared}
use Rattle.promises.specs.Users.{asker_of, telling}
use Rattle.rules.proofs.Once.{single}
use Rattle.rules.proofs.Single.{call_single, singles_log}
use Rattle.rules.proofs.Steps.{forced_alone}
use Rattle.rules.proofs.Calls.{all_steps_single}
use Rattle.promises.proofs.Along.{Asked, negative, registration, erasure, herself, forced, Does, asks, unsent, sends, untaken, clears, goes_on, unmoved, removes, looks, Along, ends, passes, visits, along, answered_02, same_one, not_same, never_first}
use Rattle.promises.proofs.NoticeEnds.{request_unsent, passed_unsent, still_pending}

-- a notice to h from s is pending
record Telling (h s : Msisdn) (r : Record) : Type 0 where
  pending : is_absent r.notice ≡ false
  addressee : r.addressee ≡ h
  supervisor : r.supervisor ≡ s

-- the entry is a sending, and it tells h of s
abbrev pub Tells : Msisdn → Msisdn → Call × Reply → Type 0
Tells h s (request requester scheme string reply, a) = ⊥
Tells h s (framed requester message frame, a) = ⊥
Tells h s (sending now number buffer, a) = a ≡ telling number h s buffer
Tells h s (result now number kind, a) = ⊥
Tells h s (terminal number holder reply, a) = ⊥
Tells h s (routes home coded asked, a) = ⊥

module _ (list : List ℕ) (k : ℕ) where
  -- a sending that succeeds tells the record's addressee of its supervisor
  pub sending_tells : {r : Record} {c : Call} {v : Visited} → Does list r c v → sending_done k (c, v.reply) ≡ true → Tells r.addressee r.supervisor (c, v.reply)
  sending_tells {c = c} {v = v} (asks i d) u = no_path (sym (request_unsent k c v.reply i) ∙ u)
  sending_tells (unsent {number = number}) u = no_path (and_right (eqb number.0 k) false u)
  sending_tells (sends w) u = refl
  sending_tells untaken u = no_path u
  sending_tells (clears w e) u = no_path u
  sending_tells (goes_on w p) u = no_path u
  sending_tells (unmoved p q) u = no_path u
  sending_tells (removes m x z) u = no_path u
  sending_tells (looks p q) u = no_path u

  -- a forced erasure naming h, by another, answered 02, leaves a notice to h from her
  forced_tells : {r next : Record} {h s : Msisdn} {read : Option Request} {one two : Bool} {f : Request} → Asked list r s read one two next
      → read ≡ some f → f.erasing ≡ Forced h → same h s ≡ false → two ≡ true → Telling h s next
  forced_tells negative t e d u = no_path u
  forced_tells (registration p q x w) t e d u = no_path u
  forced_tells (erasure p q w m right) t e d u = absurd (let z : ◌≡◌ {A = ℕ} 0 1 = cc in omega arith)
  forced_tells {r} {h = h} (herself {named = named} p q w m o) t e d u =
      let one : h ≡ r.holder = cc (same_one r.holder named m) in
      no_path (sym d ∙ rw one o)
  forced_tells {r} (forced {named = named} p q w m o x y z v) t e d u =
      record { pending = refl; addressee = cc (same_one r.holder named m); supervisor = refl }

  call_tells : {r : Record} {c : Call} {v : Visited} {h : Msisdn} {f : Request} → Does list r c v → read_of c ≡ some f → f.erasing ≡ Forced h
      → (asker_of c ≡ h → ⊥) → is_outcome 2 v.reply.answer ≡ true → Telling h (asker_of c) v.next
  call_tells {c = c} {h = h} (asks i d) t e o u = forced_tells d t e (not_same h (asker_of c) (λ q. o (sym q))) u
  call_tells unsent t e o u = not_some t
  call_tells (sends w) t e o u = not_some t
  call_tells untaken t e o u = not_some t
  call_tells (clears w q) t e o u = not_some t
  call_tells (goes_on w p) t e o u = not_some t
  call_tells (unmoved p q) t e o u = not_some t
  call_tells (removes m x z) t e o u = not_some t
  call_tells (looks p q) t e o u = not_some t

  -- at the terminal
  terminal_tells : {r : Record} {number : FunctionalNumber} {h : Msisdn} {reply : List ℕ} {v : Visited} → Does list r (terminal number h reply) v
      → is_outcome 2 v.reply.answer ≡ true → Telling h nobody v.next
  terminal_tells (asks i d) u = no_path i
  terminal_tells (unmoved p q) u = no_path (sym q ∙ u)
  terminal_tells {r} {h = h} (removes m x z) u = record { pending = refl; addressee = same_one r.holder h m; supervisor = refl }

  module _ (h s : Msisdn) where
    told_along : {r : Record} {l : List (Call × Reply)} {p : Option Record} → Along list k (some r) l p → Telling h s r → never (notice_cleared k) l ≡ true
        → (i : ℕ) (x : Call × Reply) → get_elem? l i ≡ some x → sending_done k x ≡ true → Tells h s x
    told_along ends t u i x e d = absurd (let z : ◌≡◌ {A = ℕ} 0 1 = cc in omega arith)
    told_along (passes {c = c} n rest) t u zero x e d = no_path (sym (passed_unsent list k c n) ∙ ap (holds_of (sending_done k)) e ∙ d)
    told_along (passes {c = c} {a = a} {l = l} n rest) t u (suc i) x e d = told_along rest t (never_first (notice_cleared k) (c, a) l u).1 i x e d
    told_along {r} (visits {c = c} {v = v} n w rest) t u zero x e d =
        let same_entry : x ≡ (c, v.reply) = cc in
        let sent : Tells r.addressee r.supervisor (c, v.reply) = sending_tells w (ap (holds_of (sending_done k)) e ∙ d) in
        let named : Tells h r.supervisor (c, v.reply) = subst (λ (m : Msisdn). Tells m r.supervisor (c, v.reply)) t.addressee sent in
        rw same_entry (subst (λ (m : Msisdn). Tells h m (c, v.reply)) t.supervisor named)
    told_along (visits {c = c} {v = v} {l = l} n w rest) t u (suc i) x e d =
        let (first, then) = never_first (notice_cleared k) (c, v.reply) l u in
        let still = still_pending list k n w t.pending first in
        told_along rest (record { pending = still.pending; addressee = still.addressee ∙ t.addressee; supervisor = still.supervisor ∙ t.supervisor }) then i x e d

-- ---- the told

-- k's record in a state has a notice to h from s
abbrev NotifiedIn : State → ℕ → Msisdn → Msisdn → Type 0
NotifiedIn after k h s = (r : Record) × (record_for after k ≡ some r) × Telling h s r

-- over any calls, none of them a result that clears k's notice, every sending of k that succeeds tells h of s, whoever holds k meanwhile: among the single steps of the calls, a sending being its own
abbrev pub ToldFrom : List ℕ → ℕ → ℕ → State → Msisdn → Msisdn → Type 0
ToldFrom list delay k after h s =
    (calls : List Call) → never (notice_cleared k) (log (call list delay) (steps list calls) after) ≡ true
    → (i now : ℕ) (number : FunctionalNumber) (buffer : List ℕ) (a : Reply)
    → get_elem? (log (call list delay) (steps list calls) after) i ≡ some (sending now number buffer, a)
    → sending_done k (sending now number buffer, a) ≡ true → a ≡ telling number h s buffer

told_from : (list : List ℕ) (delay k : ℕ) (after : State) (h s : Msisdn) → NotifiedIn after k h s → ToldFrom list delay k after h s
told_from list delay k after h s (r, known, t) calls uncleared i now number buffer a e d =
    let same = singles_log list delay (steps list calls) after (all_steps_single list delay calls) in
    told_along list k h s (rw known at (along list delay k (steps list calls) after)) t (rw same at uncleared) i (sending now number buffer, a)
    (rw same at e) d

-- a call c, framed or not, asks for a forced erasure of k naming h, and its requester is not h; it is answered 02
module _ (list : List ℕ) (delay k : ℕ) (state : State) (h : Msisdn) (c : Call) (f : Request)
    (named : names_one list c k ≡ true) (reads : read_of c ≡ some f) (forces : f.erasing ≡ Forced h)
    (other : asker_of c ≡ h → ⊥) (answered : is_outcome 2 (call list delay c state).0.answer ≡ true) where
  abbrev after : State
  after = (call list delay c state).1

  -- the supervisor
  abbrev s : Msisdn
  s = asker_of c

  singly : call list delay c state ≡ single list delay c state
  singly = call_single list delay c state (forced_alone c f reads forces)

  notified : NotifiedIn after k h s
  notified =
      let (r, v, d, e, u) = answered_02 (along list delay k (c ∷ []) state) named (ap (λ x. is_outcome 2 x.0.answer) (sym singly) ∙ answered) in
      (v.next, ap (λ x. record_for x.1 k) singly ∙ e, call_tells list k d reads forces other u)

  pub holder_is_told : ToldFrom list delay k after h s
  holder_is_told = told_from list delay k after h s notified

-- the same from the terminal: it names h exactly, is answered 02, and nobody is named in the notice
module _ (list : List ℕ) (delay : ℕ) (state : State) (number : FunctionalNumber) (h : Msisdn) (reply : List ℕ)
    (answered : is_outcome 2 (call list delay (terminal number h reply) state).0.answer ≡ true) where
  abbrev cleared_state : State
  cleared_state = (call list delay (terminal number h reply) state).1

  pub told_from_the_terminal : ToldFrom list delay number.0 cleared_state h nobody
  told_from_the_terminal =
      let (r, v, d, e, u) = answered_02 (along list delay number.0 (terminal number h reply ∷ []) state) (eq-eqb number.0 number.0 refl) answered in
      told_from list delay number.0 cleared_state h nobody (v.next, e, terminal_tells list number.0 d u)
