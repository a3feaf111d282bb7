-- M-110: over any list of calls a closed number stays closed, its holder is the one before or nobody, and once it has run out nothing changes it. Assumes nothing.
use mathlib.Core.Path.{◌≡◌, refl, sym, ap, ◌∙◌}
use mathlib.Core.Logic.{◌⊎◌, inl, inr, ⊎_elim}
use mathlib.Core.Bool.{Bool, true, ◌&&◌}
use mathlib.Core.Option.{Option, none, some}
use mathlib.Core.List.{List}
use Prim.Native.Nat.{ℕ}
use Rattle.answers.proofs.Tests.{no_path, and_left, and_right}
use Rattle.numbers.specs.Numbers.{nobody, is_nobody}
use Rattle.numbers.specs.declared.Msisdn.{Msisdn}
use Rattle.strings.specs.Text.{Request}
use Rattle.records.specs.declared.Record.{Record}
use Rattle.records.specs.Steps.{same, held_by, is_absent, has_run_out}
use Rattle.rows.proofs.Notices.{absent_still}
use Rattle.states.specs.States.{State, record_for}
use Rattle.rules.specs.Requests.{holder_in, is_closed}
use Rattle.rules.specs.Run.{end, log}
use Rattle.rules.specs.Calls.{Call, Reply, call, steps}
use Rattle.rules.specs.Visits.{Visited}
use Rattle.promises.specs.Withdrawn.{run_out, Withdrawn}
use Rattle.rules.proofs.Single.{singles_log}
use Rattle.rules.proofs.Calls.{all_steps_single, singly_end}
use Rattle.promises.proofs.Along.{Asked, negative, registration, erasure, herself, forced, Does, asks, unsent, sends, untaken, clears, goes_on, unmoved, removes, looks, Along, ends, passes, visits, along, same_one}

-- ---- one visit

asked_closed : {list : List ℕ} {r next : Record} {requester : Msisdn} {read : Option Request} {one two : Bool} → Asked list r requester read one two next → next.closed ≡ r.closed
asked_closed negative = refl
asked_closed (registration p q x h) = refl
asked_closed (erasure p q h m right) = refl
asked_closed (herself p q h m w) = refl
asked_closed (forced p q h m d x y z v) = refl

visit_closed : {list : List ℕ} {r : Record} {c : Call} {v : Visited} → Does list r c v → v.next.closed ≡ r.closed
visit_closed (asks i d) = asked_closed d
visit_closed unsent = refl
visit_closed (sends w) = refl
visit_closed untaken = refl
visit_closed (clears f e) = refl
visit_closed (goes_on f p) = refl
visit_closed (unmoved p q) = refl
visit_closed (removes m x z) = refl
visit_closed (looks p q) = refl

-- the holder stays or goes
asked_holds : {list : List ℕ} {r next : Record} {requester : Msisdn} {read : Option Request} {one two : Bool} → Asked list r requester read one two next → r.closed ≡ true
    → (next.holder ≡ r.holder) ⊎ (next.holder ≡ nobody)
asked_holds negative c = inl refl
asked_holds (registration p q x h) c = no_path (sym x ∙ c)
asked_holds (erasure p q h m right) c = inr refl
asked_holds (herself p q h m w) c = inr refl
asked_holds (forced p q h m d x y z v) c = inr refl

visit_holds : {list : List ℕ} {r : Record} {c : Call} {v : Visited} → Does list r c v → r.closed ≡ true → (v.next.holder ≡ r.holder) ⊎ (v.next.holder ≡ nobody)
visit_holds (asks i d) c = asked_holds d c
visit_holds unsent c = inl refl
visit_holds (sends w) c = inl refl
visit_holds untaken c = inl refl
visit_holds (clears f e) c = inl refl
visit_holds (goes_on f p) c = inl refl
visit_holds (unmoved p q) c = inl refl
visit_holds (removes m x z) c = inr refl
visit_holds (looks p q) c = inl refl

-- nobody again is nobody
held_again : (r : Record) → is_nobody r.holder ≡ true → held_by nobody r ≡ r
held_again r n = ap (λ (m : Msisdn). held_by m r) (sym (same_one r.holder nobody n))

module _ (r : Record) (c : r.closed ≡ true) (n : is_nobody r.holder ≡ true) (a : is_absent r.notice ≡ true) where
  asked_stays : {list : List ℕ} {next : Record} {requester : Msisdn} {read : Option Request} {one two : Bool} → Asked list r requester read one two next → next ≡ r
  asked_stays negative = refl
  asked_stays (registration p q x h) = no_path (sym x ∙ c)
  asked_stays (erasure p q h m right) = held_again r n
  asked_stays (herself p q h m w) = held_again r n
  asked_stays (forced p q h m d x y z v) = no_path (sym v ∙ n)

  visit_stays : {list : List ℕ} {k : Call} {v : Visited} → Does list r k v → v.next ≡ r
  visit_stays (asks i d) = asked_stays d
  visit_stays unsent = refl
  visit_stays (sends w) = no_path (sym (absent_still r.notice a).0 ∙ w)
  visit_stays untaken = refl
  visit_stays (clears f e) = no_path (sym (absent_still r.notice a).1 ∙ f)
  visit_stays (goes_on f p) = no_path (sym (absent_still r.notice a).1 ∙ f)
  visit_stays (unmoved p q) = refl
  visit_stays (removes m x z) = no_path (sym z ∙ n)
  visit_stays (looks p q) = refl

-- ---- along the calls

module _ (list : List ℕ) (k : ℕ) where
  kept_along : {o p : Option Record} {l : List (Call × Reply)} → Along list k o l p → is_closed p ≡ is_closed o
  kept_along ends = refl
  kept_along (passes n rest) = kept_along rest
  kept_along (visits n d rest) = kept_along rest ∙ visit_closed d

  holds_along : {o p : Option Record} {l : List (Call × Reply)} → Along list k o l p → is_closed o ≡ true
      → ((holder_in p).0 ≡ (holder_in o).0) ⊎ ((holder_in p).0 ≡ 0)
  holds_along ends c = inl refl
  holds_along (passes n rest) c = holds_along rest c
  holds_along (visits n d rest) c =
      ⊎_elim
      (λ same. ⊎_elim (λ h. inl (same ∙ ap (λ (m : Msisdn). m.0) h)) (λ h. inr (same ∙ ap (λ (m : Msisdn). m.0) h)) (visit_holds d c))
      (λ none_left. inr none_left) (holds_along rest (visit_closed d ∙ c))

  stays_along : {r : Record} {p : Option Record} {l : List (Call × Reply)} → Along list k (some r) l p → r.closed ≡ true → is_nobody r.holder ≡ true → is_absent r.notice ≡ true
      → p ≡ some r
  stays_along ends c n a = refl
  stays_along (passes m rest) c n a = stays_along rest c n a
  stays_along {r} (visits m d rest) c n a =
      let e = visit_stays r c n a d in
      stays_along rest (ap (λ (x : Record). x.closed) e ∙ c) (ap (λ (x : Record). is_nobody x.holder) e ∙ n) (ap (λ (x : Record). is_absent x.notice) e ∙ a) ∙ ap some e

module _ (list : List ℕ) (delay k : ℕ) (calls : List Call) (state : State) where
  seen : Along list k (record_for state k) (log (call list delay) (steps list calls) state) (record_for (end (call list delay) calls state) k)
  seen =
      rw (singles_log list delay (steps list calls) state (all_steps_single list delay calls), singly_end list delay calls state)
      (along list delay k (steps list calls) state)

  -- no call opens or closes a number
  pub word_kept : is_closed (record_for (end (call list delay) calls state) k) ≡ is_closed (record_for state k)
  word_kept = kept_along list k seen

  -- from any state: an unsound one stays
  pub withdrawn : is_closed (record_for state k) ≡ true → Withdrawn k state (end (call list delay) calls state)
  unfolding has_run_out
  withdrawn c = record {
    closed = word_kept ∙ c;
    holder = holds_along list k seen c;
    unchanged = stays (record_for state k) refl;
  }
    where
      stays : (o : Option Record) → record_for state k ≡ o → run_out o ≡ true → record_for (end (call list delay) calls state) k ≡ o
      stays none e u = no_path u
      stays (some r) e u =
          let rest = and_right r.closed (is_nobody r.holder && is_absent r.notice) u in
          stays_along list k (rw e at seen) (and_left r.closed _ u) (and_left (is_nobody r.holder) (is_absent r.notice) rest) (and_right (is_nobody r.holder) (is_absent r.notice) rest)
