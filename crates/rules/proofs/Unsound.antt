-- Over an unsound table or wrong figures every call but a routing is refused, and every call leaves both. Assumes nothing.
use mathlib.Core.Path.{◌≡◌, refl, sym, ap, ◌∙◌}
use mathlib.Core.Logic.{◌⊎◌, inl, inr, ⊎_elim}
use mathlib.Core.Bool.{Bool, true, false, not, ◌&&◌}
use mathlib.Core.List.{List, [], ◌∷◌, ◌++◌, map}
use Prim.Native.Nat.{ℕ}
use lib.ListN.{length, drop}
use lib.Dec.{ltb}
use Rattle.answers.specs.Checks.{decide, is_none}
use Rattle.answers.proofs.Tests.{no_path}
use Rattle.numbers.specs.Numbers.{nobody}
use Rattle.numbers.specs.declared.FunctionalNumber.{FunctionalNumber}
use Rattle.numbers.specs.declared.Msisdn.{Msisdn}
use Rattle.strings.specs.Text.{Request}
use Rattle.strings.specs.Outcomes.{request_of}
use Rattle.frames.specs.Messages.{frame_room, unread_message, register_of}
use Rattle.tables.specs.Tables.{table_sound, list_sound, flags_of}
use Rattle.states.specs.States.{State, figures_right, state_sound, row_for, record_for}
use Rattle.rules.specs.Answers.{Answer, refusal, Outcome, made, is_outcome, buffer_room, refusing}
use Rattle.rules.specs.Requests.{refusal_checks, once, asking_by, requesting_by}
use Rattle.rules.specs.Crews.{requesting}
use Rattle.rules.specs.Frames.{registered, framed_by, framed_request}
use Rattle.rules.specs.Notices.{sending_checks, sent_at, sending_notice, result_checks, result_at, taking_result}
use Rattle.rules.specs.Terminal.{terminal_request, terminal_checks, terminal_erasure}
use Rattle.rules.specs.Run.{end}
use Rattle.rules.specs.Routing.{routing}
use Rattle.rules.specs.Demand.{is_crew_outcome}
use Rattle.rules.specs.Figures.{is_early, is_routing}
use Rattle.rules.specs.Calls.{Call, request, framed, sending, result, terminal, routes, Reply, replied, clock_reading, call}
use Rattle.rules.proofs.Routes.{routing_each}
use Rattle.rules.proofs.Once.{requesting_once, framed_once, single}

module _ (t : State) (unsound : state_sound t ≡ false) where
  abbrev RefusedWith : Reply × State → Type 0
  RefusedWith r = (n : ℕ) × (buffer : List ℕ) × (r ≡ (record { answer = refusal n; buffer = buffer }, t)) × (is_early (refusal n) ≡ true)

  abbrev RefusedAt : Outcome → Type 0
  RefusedAt o = RefusedWith (replied o)

  -- what a routing gets, whatever the state
  abbrev Quiet : Answer → Type 0
  Quiet a = (is_outcome 1 a ≡ false) × (is_outcome 2 a ≡ false) × (is_crew_outcome a ≡ false)

  -- refused, or a routing, which does not look at the figures
  abbrev Idle : Call → Reply × State → Type 0
  Idle c r = RefusedWith r ⊎ ((a : Answer) × (r ≡ (record { answer = a; buffer = [] }, t)) × (is_routing c ≡ true) × Quiet a)

  abbrev AllEarly : List (Bool × ℕ) → Type 0
  AllEarly [] = Unit {0}
  AllEarly (c ∷ cs) = (is_early (refusal c.1) ≡ true) × AllEarly cs

  -- the checks before 2 and 10 are early refusals, and one of the two holds
  refused_by : (buffer : List ℕ) (earlier : List (Bool × ℕ)) → AllEarly earlier → (later : List (Bool × Outcome)) (done : Outcome) (a b : Bool) → (a && b) ≡ false
      → RefusedAt (decide (map (λ c. (c.0, made (refusal c.1) t buffer)) earlier ++ ((not a, made (refusal 2) t buffer) ∷ (not b, made (refusal 10) t buffer) ∷ later)) done)
  refused_by buffer [] all later done false b e = (2, buffer, refl, refl)
  refused_by buffer [] all later done true false e = (10, buffer, refl, refl)
  refused_by buffer [] all later done true true e = no_path (sym e)
  refused_by buffer ((true, n) ∷ earlier) (first, all) later done a b e = (n, buffer, refl, first)
  refused_by buffer ((false, n) ∷ earlier) (first, all) later done a b e = refused_by buffer earlier all later done a b e

  request_refused : (done : Request → Outcome) (list reply : List ℕ) (requester : Msisdn) (scheme : ℕ) (string : List ℕ)
      → RefusedAt (requesting_by done t list reply requester scheme string)
  request_refused done list reply requester scheme string =
      let checks = refusing t reply (refusal_checks (table_sound t.table) (figures_right t) list reply requester scheme string) in
      refused_by reply ((ltb (length reply) buffer_room, 1) ∷ (not (list_sound list), 8) ∷ []) (refl, (refl, tt)) (drop 4 checks)
      (asking_by done t (flags_of list requester.0) reply (request_of string)) (table_sound t.table) (figures_right t) unsound

  framed_refused : (asked : ℕ → List ℕ → Outcome) (list frame message : List ℕ) → RefusedAt (framed_by asked t list frame message)
  framed_refused asked list frame message =
      refused_by frame ((ltb (length frame) frame_room, 1) ∷ (is_none (register_of message), unread_message) ∷ (not (list_sound list), 8) ∷ []) (refl, (refl, (refl, tt))) [] (registered asked t frame (register_of message))
      (table_sound t.table) (figures_right t) unsound

  sending_refused : (buffer : List ℕ) (number : FunctionalNumber) (delay clock : ℕ) → RefusedAt (sending_notice t buffer number delay clock)
  unfolding sending_notice
  sending_refused buffer number delay clock =
      let checks = refusing t buffer (sending_checks (table_sound t.table) (figures_right t) buffer number.0 (record_for t number.0) delay clock) in
      refused_by buffer ((ltb (length buffer) buffer_room, 1) ∷ []) (refl, tt) (drop 3 checks) (sent_at number (row_for t number.0) t buffer) (table_sound t.table) (figures_right t) unsound

  result_refused : (number : FunctionalNumber) (kind clock : ℕ) → RefusedAt (taking_result t number kind clock)
  unfolding taking_result
  result_refused number kind clock =
      let checks = refusing t [] (result_checks (table_sound t.table) (figures_right t) number.0 (record_for t number.0) kind) in
      refused_by [] [] tt (drop 2 checks) (result_at kind clock (row_for t number.0) t) (table_sound t.table) (figures_right t) unsound

  terminal_refused : (reply : List ℕ) (number : FunctionalNumber) (holder : Msisdn) → RefusedAt (terminal_erasure t reply number holder)
  unfolding terminal_erasure
  terminal_refused reply number holder =
      let checks = refusing t reply (terminal_checks (table_sound t.table) (figures_right t) reply number holder) in
      refused_by reply ((ltb (length reply) buffer_room, 1) ∷ []) (refl, tt) (drop 3 checks) (once t reply nobody (terminal_request number holder)) (table_sound t.table) (figures_right t) unsound

  routing_idles : (home : List ℕ) (coded : Bool) (asked : List ℕ) → Idle (routes home coded asked) (record { answer = routing t.table home coded asked; buffer = [] }, t)
  routing_idles home coded asked =
      inr (
        routing t.table home coded asked,
        refl,
        refl,
        routing_each Quiet (refl, refl, refl) (refl, refl, refl) (λ code. (refl, refl, refl)) (λ m s. (refl, refl, refl)) (refl, refl, refl) (refl, refl, refl) t.table home coded asked,
      )

  pub unsound_single : (list : List ℕ) (delay : ℕ) (c : Call) → Idle c (single list delay c t)
  unfolding requesting_once framed_once
  unsound_single list delay (request requester scheme string reply) = inl (request_refused _ list reply requester scheme string)
  unsound_single list delay (framed requester message frame) = inl (framed_refused _ list frame message)
  unsound_single list delay (sending now number buffer) = inl (sending_refused buffer number delay (clock_reading now))
  unsound_single list delay (result now number kind) = inl (result_refused number kind (clock_reading now))
  unsound_single list delay (terminal number holder reply) = inl (terminal_refused reply number holder)
  unsound_single list delay (routes home coded asked) = routing_idles home coded asked

  pub unsound_call : (list : List ℕ) (delay : ℕ) (c : Call) → Idle c (call list delay c t)
  unfolding requesting framed_request
  unsound_call list delay (request requester scheme string reply) = inl (request_refused _ list reply requester scheme string)
  unsound_call list delay (framed requester message frame) = inl (framed_refused _ list frame message)
  unsound_call list delay (sending now number buffer) = inl (sending_refused buffer number delay (clock_reading now))
  unsound_call list delay (result now number kind) = inl (result_refused number kind (clock_reading now))
  unsound_call list delay (terminal number holder reply) = inl (terminal_refused reply number holder)
  unsound_call list delay (routes home coded asked) = routing_idles home coded asked

  -- either leaves the state
  pub unsound_stays : (list : List ℕ) (delay : ℕ) (c : Call) → (call list delay c t).1 ≡ t
  unsound_stays list delay c = ⊎_elim (λ (n, buffer, e, early). ap (λ r. r.1) e) (λ (a, e, looks, quiet). ap (λ r. r.1) e) (unsound_call list delay c)

  pub unsound_end : (list : List ℕ) (delay : ℕ) (cs : List Call) → end (call list delay) cs t ≡ t
  unsound_end list delay [] = refl
  unsound_end list delay (c ∷ cs) = ap (end (call list delay) cs) (unsound_stays list delay c) ∙ unsound_end list delay cs
