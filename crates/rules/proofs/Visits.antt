-- The second form of the rules equals the first: what each call comes to, by the record that it visits, by the row that it misses, or before it names a number. Assumes nothing.
use mathlib.Core.Path.{◌≡◌, refl, sym, ap, ◌∙◌}
use mathlib.Core.Bool.{Bool, true, false, cond, not, ◌&&◌, ◌||◌}
use mathlib.Core.Option.{Option, none, some}
use mathlib.Core.List.{List, [], ◌∷◌, map}
use Prim.Native.Nat.{ℕ}
use lib.ListN.{length}
use lib.Dec.{eqb, ltb, leb}
use borrow.Author.Tests.{eqb-true, not-false}
use Rattle.answers.specs.Checks.{decide, is_none, any_holds}
use Rattle.answers.proofs.Tests.{no_path, and_right, or_neither, or_right}
use Rattle.answers.proofs.Checks.{not_some}
use Rattle.answers.proofs.Decide.{chosen, answering, decide_of, decide_each, all_pass, any_answering, none_holds, one_holds}
use Rattle.packing.specs.Packing.{unpacked}
use Rattle.numbers.specs.Numbers.{is_number, stored_form, nobody, is_nobody}
use Rattle.numbers.specs.declared.FunctionalNumber.{FunctionalNumber}
use Rattle.numbers.specs.declared.Msisdn.{Msisdn}
use Rattle.strings.specs.declared.Operation.{Operation}
use Rattle.strings.specs.declared.Operation.TheVariants.{Register, Erase, Interrogate}
use Rattle.strings.specs.declared.Erasing.{Erasing}
use Rattle.strings.specs.declared.Erasing.TheVariants.{Empty, Forced}
use Rattle.strings.specs.Text.{Request, request_from, erasing_sound}
use Rattle.strings.specs.Outcomes.{request_of}
use Rattle.strings.proofs.Text.{sound_rules}
use Rattle.strings.proofs.ReadBack.{read_only}
use Rattle.strings.proofs.Octets.{request_reads}
use Rattle.records.specs.declared.Notice.TheVariants.{Waiting}
use Rattle.records.specs.declared.Record.{Record}
use Rattle.records.specs.Step.{Step}
use Rattle.records.specs.Step as step
use Rattle.records.specs.Holder.{Holder}
use Rattle.records.specs.Holder as holds
use Rattle.records.specs.Sending as launches
use Rattle.records.specs.Resulted.{Refused, Delivered, Dropped, Again}
use Rattle.records.specs.Steps as steps
use Rattle.rows.specs.Rows.{row_sound}
use Rattle.rows.proofs.Rows.{sound_row}
use Rattle.tables.specs.Keys.{Found}
use Rattle.std.specs.Prelude.{Some, None}
use Rattle.tables.specs.Tables.{record_of, flags_of}
use Rattle.tables.proofs.Sound.{table_row}
use Rattle.tables.proofs.Stored.{row_found, record_found_lem, record_missing}
use Rattle.states.specs.States.{State, state_sound, row_for, record_for, record_where, record_in, stored_in}
use Rattle.states.proofs.States.{state_table, state_right, stored_back}
use Rattle.rules.specs.Answers.{Answer, refusal, error, delivered, dropped, again, Outcome, made, buffer_room, is_outcome, refusing}
use Rattle.rules.specs.Requests as requests
use Rattle.rules.specs.Requests.{Stepping, comes_to, says}
use Rattle.rules.specs.Frames.{own_reply}
use Rattle.rules.specs.Notices as notices
use Rattle.rules.specs.Terminal.{terminal_request, both_numbers, terminal_erasure}
use Rattle.rules.specs.Routing.{with_code_in, routing_checks, by_code}
use Rattle.rules.proofs.Routes.{routing_looks, routing_stops}
use Rattle.rules.specs.Calls.{Call, request, framed, sending, result, terminal, routes, Reply, replied, clock_reading, number_read, name_of}
use Rattle.rules.specs.Visits.{step_at, tell_at, decides_at, visited, storing, leaving, visit_saying, stepped, holder_answered, erases, decides, decided, sent_step, result_step, visit_sending, visit_result, visit_request, visit_terminal, visit, reply_saying, missed_sending, missed_result, missed_request, missed_terminal, missed, enveloped}
use Rattle.rules.proofs.Once.{requesting_once, single}
use Rattle.rules.proofs.Inside.{turned, outcome_kept, Opened, shut, carries, opened}

-- ---- the row of a number in a sound state

module _ (t : State) (k i : ℕ) (sound : state_sound t ≡ true) (e : row_for t k ≡ Some i) where
  pub found_sound : row_sound t.table i ≡ true
  found_sound = table_row t.table (state_table t sound) i (row_found t.table k i e).0

  pub found_number : is_number k ≡ true
  found_number = rw (← (row_found t.table k i e).1) (sound_row t.table i found_sound).number

  pub found_back : stored_in t i (record_in t i) ≡ t
  found_back = stored_back t i sound (row_found t.table k i e).0

-- ---- requests

-- what was read keeps the string's rules
read_sound : (string : List ℕ) (f : Request) → request_of string ≡ some f → erasing_sound f.operation f.erasing ≡ true
read_sound string f e = (sound_rules f (read_only (unpacked string) (request_reads string e).1).0).erasing

-- the checks of the record, by the operation
abbrev pub record_checks : Operation → Erasing → FunctionalNumber → Msisdn → Record → List (Bool × ℕ)
record_checks Register e number requester r =
    (steps.is_own number requester, 67)
    ∷ (r.closed, 64)
    ∷ (not (is_nobody r.holder) && not (steps.same r.holder requester), 61)
    ∷ []
record_checks Erase Empty number requester r = (is_nobody r.holder, 62) ∷ (not (steps.may_erase number requester r.holder), 63) ∷ []
record_checks Erase (Forced m) number requester r =
    (is_nobody r.holder, 62)
    ∷ (not (steps.same r.holder m), 63)
    ∷ (not (steps.same r.holder requester) && not (steps.is_absent r.notice), 68)
    ∷ []
record_checks Interrogate e number requester r = (is_nobody r.holder, 62) ∷ []

module _ (t : State) (i : ℕ) (requester : Msisdn) where
  abbrev it : Record
  it = record_in t i

  -- the checks before a step of the record
  stepping :
      (n : ℕ) (checks : List (Bool × ℕ)) (next : Record)
      → decide (map (requests.staying t) checks) (comes_to (says n) (stored_in t i next)) ≡ step_at t i n (decide (map (answering step.Stays) checks) (step.Becomes next))
  stepping n checks next = decide_of (λ m. comes_to (says m) t) (step_at t i n) step.Stays (λ m. refl) checks (step.Becomes next)

  by_record_lem :
      (o : Operation) (e : Erasing) (number : FunctionalNumber)
      → decide (map (requests.staying t) (record_checks o e number requester it)) (requests.carried_out o e requester t i) ≡ decides_at o e number requester t i
  unfolding steps.registered steps.erased steps.forced steps.interrogated
  by_record_lem Register e number = stepping 1 (record_checks Register e number requester it) (steps.held_by requester it)
  by_record_lem Erase Empty number = stepping 2 (record_checks Erase Empty number requester it) (steps.held_by nobody it)
  by_record_lem Erase (Forced m) number = stepping 2 (record_checks Erase (Forced m) number requester it) (requests.after_erasure requester (Forced m) it)
  by_record_lem Interrogate e number =
      decide_of (λ m. comes_to (says m) t) (tell_at t) holds.Stays (λ m. refl) (record_checks Interrogate e number requester it) (holds.Held it.holder)

  -- the checks that bear on an operation
  in_order :
      (o : Operation) (e : Erasing) (number : FunctionalNumber) (additional : List ℕ) → erasing_sound o e ≡ true
      → decide (map (requests.staying t) (requests.step_checks requester (request_from o number e additional) (some it))) (requests.carried_out o e requester t i)
      ≡ decide (map (requests.staying t) (record_checks o e number requester it)) (requests.carried_out o e requester t i)
  in_order Register Empty number additional h = refl
  in_order Register (Forced m) number additional h = no_path h
  in_order Erase Empty number additional h = refl
  in_order Erase (Forced m) number additional h = refl
  in_order Interrogate Empty number additional h = refl
  in_order Interrogate (Forced m) number additional h = no_path h

module _ (t : State) (requester : Msisdn) (f : Request) where
  abbrev stepped_at : Found → Stepping
  stepped_at place = decide (map (requests.staying t) (requests.step_checks requester f (record_where t place))) (requests.carried_out_at f place requester t)

  step_place : (place : Found) → row_for t f.number.0 ≡ place → requests.step t requester f ≡ stepped_at place
  unfolding requests.step record_of
  step_place place e = ap stepped_at e

  pub step_visits : (i : ℕ) → row_for t f.number.0 ≡ Some i → erasing_sound f.operation f.erasing ≡ true
      → requests.step t requester f ≡ decides_at f.operation f.erasing f.number requester t i
  step_visits i e h =
      step_place (Some i) e
      ∙ in_order t i requester f.operation f.erasing f.number f.additional h
      ∙ by_record_lem t i requester f.operation f.erasing f.number

  pub step_misses : row_for t f.number.0 ≡ None → requests.step t requester f ≡ comes_to (says 41) t
  step_misses e = step_place None e

-- a single request by its step: what is replied, and stored
module _ (t : State) (i : ℕ) (same : stored_in t i (record_in t i) ≡ t) (requester : Msisdn) (reply : List ℕ) where
  -- storing the record that row i has changes nothing
  stays : (n : ℕ) → requests.saying n t reply ≡ storing t i (visit_saying n reply (record_in t i))
  stays n = rw same

  replies_step : (n : ℕ) (s : Step) → requests.replying reply (step_at t i n s) ≡ storing t i (stepped n reply (record_in t i) s)
  replies_step n (step.Stays m) = stays m
  replies_step n (step.Becomes next) = refl

  replies_holder : (h : Holder) → requests.replying reply (tell_at t h) ≡ storing t i (holder_answered reply (record_in t i) h)
  replies_holder (holds.Stays m) = stays m
  replies_holder (holds.Held msisdn) = rw same

  replies : (o : Operation) (e : Erasing) (number : FunctionalNumber)
      → requests.replying reply (decides_at o e number requester t i) ≡ storing t i (decides o e number requester reply (record_in t i))
  replies Register e number = replies_step 1 (steps.registered number requester (record_in t i))
  replies Erase e number = replies_step 2 (erases e number requester (record_in t i))
  replies Interrogate e number = replies_holder (steps.interrogated (record_in t i))

  visits : (flags : ℕ) (f : Request) → row_for t f.number.0 ≡ Some i → erasing_sound f.operation f.erasing ≡ true
      → requests.asking_by (requests.once t reply requester) t flags reply (some f) ≡ storing t i (visit_request flags requester reply (some f) (record_in t i))
  unfolding decided
  visits flags f e h =
      ap (λ done. decide (map (requests.negative t reply) (requests.right_checks flags f.erasing)) done)
      (ap (requests.replying reply) (step_visits t requester f i e h) ∙ replies f.operation f.erasing f.number)
      ∙ decide_of (λ n. requests.saying n t reply) (storing t i) (λ n. visit_saying n reply (record_in t i)) stays (requests.right_checks flags f.erasing)
      (decided f requester reply (record_in t i))

module _ (list reply : List ℕ) (requester : Msisdn) (scheme : ℕ) (string : List ℕ) where
  abbrev refusals : List (Bool × Answer)
  refusals = requests.refusal_checks true true list reply requester scheme string

  -- what a request that names k has: checks that all pass, and fields that are read
  pub record Naming (k : ℕ) : Type 0 where
    pub passed : any_holds refusals ≡ false
    pub fields : Request
    pub reads : request_of string ≡ some fields
    pub names : fields.number.0 ≡ k

  pub naming : (k : ℕ) → name_of list (request requester scheme string reply) ≡ some k → Naming k
  naming k e = go (any_holds refusals) refl (request_of string) refl e
    where
      go : (b : Bool) → any_holds refusals ≡ b → (read : Option Request) → request_of string ≡ read → cond b none (number_read read) ≡ some k → Naming k
      go true h read r e = not_some e
      go false h none r e = not_some e
      go false h (some f) r e = record { passed = h; fields = f; reads = r; names = cc }

  -- its requester is a number
  pub requester_number_lem : (k : ℕ) → name_of list (request requester scheme string reply) ≡ some k → is_number requester.0 ≡ true
  requester_number_lem k e = not-false (is_number requester.0) (all_pass refusals (naming k e).passed).1.1.1.1.0

  -- a request that names none has a check that holds: a string that does not read is one
  unnamed : name_of list (request requester scheme string reply) ≡ none → any_holds refusals ≡ true
  unnamed e = go (any_holds refusals) refl (request_of string) refl e
    where
      go : (b : Bool) → any_holds refusals ≡ b → (read : Option Request) → request_of string ≡ read → cond b none (number_read read) ≡ none → b ≡ true
      go true h read r e = refl
      go false h none r e =
          let reads = or_neither (ltb requests.most_string_octets (length string)) (is_none (request_of string)) (all_pass refusals h).1.1.1.1.1.1.1.0 in
          sym reads.1 ∙ ap is_none r
      go false h (some f) r e = not_some (sym e)

  -- over a sound state
  module _ (t : State) (sound : state_sound t ≡ true) where
    -- whatever is done where no check holds
    module _ (done : Request → Outcome) where
      abbrev asked : Outcome
      asked = requests.requesting_by done t list reply requester scheme string

      abbrev behind : Outcome
      behind = requests.asking_by done t (flags_of list requester.0) reply (request_of string)

      in_two : asked ≡ decide (refusing t reply refusals) behind
      in_two = rw (state_table t sound, state_right t sound)

      any_refuses : any_holds (refusing t reply refusals) ≡ any_holds refusals
      any_refuses = any_answering (λ a. made a t reply) refusals

      -- one is refused before it names a number
      pub by_stops : any_holds refusals ≡ true → asked ≡ made (decide refusals (error 36)) t reply
      by_stops h =
          in_two
          ∙ one_holds (refusing t reply refusals) behind (made (error 36) t reply) (any_refuses ∙ h)
          ∙ decide_of (λ a. made a t reply) (λ a. made a t reply) (λ a. a) (λ a. refl) refusals (error 36)

      -- none refuses it: its requester's flags and what is done decide
      pub by_asks : (f : Request) → any_holds refusals ≡ false → request_of string ≡ some f
          → asked ≡ requests.asking_by done t (flags_of list requester.0) reply (some f)
      by_asks f passed reads =
          in_two
          ∙ none_holds (refusing t reply refusals) behind (any_refuses ∙ passed)
          ∙ ap (requests.asking_by done t (flags_of list requester.0) reply) reads

    request_stops : any_holds refusals ≡ true → requesting_once t list reply requester scheme string ≡ made (decide refusals (error 36)) t reply
    unfolding requesting_once
    request_stops = by_stops (requests.once t reply requester)

    module _ (f : Request) (passed : any_holds refusals ≡ false) (reads : request_of string ≡ some f) where
      pub request_asks : requesting_once t list reply requester scheme string ≡ requests.asking_by (requests.once t reply requester) t (flags_of list requester.0) reply (some f)
      unfolding requesting_once
      request_asks = by_asks (requests.once t reply requester) f passed reads

      -- the number is in row i: that row's record decides
      pub request_visits : (i : ℕ) → row_for t f.number.0 ≡ Some i
          → requesting_once t list reply requester scheme string
          ≡ storing t i (visit_request (flags_of list requester.0) requester reply (some f) (record_in t i))
      request_visits i e =
          request_asks
          ∙ visits t i (found_back t f.number.0 i sound e) requester reply (flags_of list requester.0) f e (read_sound string f reads)

      -- the number is not in the table
      pub request_misses : row_for t f.number.0 ≡ None
          → requesting_once t list reply requester scheme string ≡ leaving t (missed_request (flags_of list requester.0) reply (some f))
      request_misses e =
          request_asks
          ∙ ap (λ done. decide (map (requests.negative t reply) (requests.right_checks (flags_of list requester.0) f.erasing)) (requests.replying reply done))
          (step_misses t requester f e)
          ∙ decide_of (λ n. requests.saying n t reply) (leaving t) (λ n. reply_saying n reply) (λ n. refl)
          (requests.right_checks (flags_of list requester.0) f.erasing) (reply_saying 41 reply)

-- ---- sendings

-- the checks of the record
abbrev pub sent_checks : ℕ → ℕ → Record → List (Bool × ℕ)
sent_checks delay clock r =
    (not (steps.delay_allowed delay), 6) ∷ (not (steps.is_waiting r.notice), 4) ∷ (not (steps.is_due delay clock r.notice), 5) ∷ []

module _ (t : State) (buffer : List ℕ) (number : FunctionalNumber) (delay clock : ℕ) (sound : state_sound t ≡ true) where
  abbrev sendings : Bool → Bool → Found → Outcome
  sendings sound_table right_figures place =
      decide (refusing t buffer (notices.sending_checks sound_table right_figures buffer number.0 (record_where t place) delay clock))
      (notices.sent_at number place t buffer)

  sending_at : (place : Found) → row_for t number.0 ≡ place → notices.sending_notice t buffer number delay clock ≡ sendings true true place
  unfolding notices.sending_notice record_of
  sending_at place e = rw (state_table t sound, state_right t sound) (ap (sendings true true) e)

  by_sending : (i : ℕ) → stored_in t i (record_in t i) ≡ t → is_number number.0 ≡ true
      → sendings true true (Some i) ≡ storing t i (visit_sending delay clock number buffer (record_in t i))
  unfolding steps.sent
  by_sending i same isOne = rw isOne
      (chosen (storing t i) (ltb (length buffer) buffer_room) (refuses (refusal 1))
      (decide_of (λ n. made (refusal n) t buffer) (λ s. storing t i (sent_step number buffer it s)) launches.Refused (λ n. refuses (refusal n))
      (sent_checks delay clock it) (launches.Launched (steps.with_notice (steps.launched it.notice) it))))
    where
      it : Record
      it = record_in t i

      refuses : (a : Answer) → made a t buffer ≡ storing t i (visited a buffer it)
      refuses a = rw same

  -- the number is in row i: that row's record decides
  pub sending_visits : (i : ℕ) → row_for t number.0 ≡ Some i
      → notices.sending_notice t buffer number delay clock ≡ storing t i (visit_sending delay clock number buffer (record_in t i))
  sending_visits i e =
      sending_at (Some i) e ∙ by_sending i (found_back t number.0 i sound e) (found_number t number.0 i sound e)

  -- the number is not in the table
  pub sending_misses : row_for t number.0 ≡ None → notices.sending_notice t buffer number delay clock ≡ leaving t (missed_sending buffer)
  sending_misses e =
      sending_at None e ∙ rw (or_right (not (is_number number.0)) true refl) (chosen (leaving t) (ltb (length buffer) buffer_room) refl refl)

-- ---- results

-- the checks of the kind and the record
abbrev result_checks : ℕ → Record → List (Bool × ℕ)
result_checks kind r = (ltb steps.last_kind kind, 3) ∷ (not (steps.is_in_flight r.notice), 4) ∷ []

module _ (t : State) (number : FunctionalNumber) (kind clock : ℕ) (sound : state_sound t ≡ true) where
  abbrev results : Bool → Bool → Found → Outcome
  results sound_table right_figures place =
      decide (refusing t [] (notices.result_checks sound_table right_figures number.0 (record_where t place) kind)) (notices.result_at kind clock place t)

  result_at_lem : (place : Found) → row_for t number.0 ≡ place → notices.taking_result t number kind clock ≡ results true true place
  unfolding notices.taking_result record_of
  result_at_lem place e = rw (state_table t sound, state_right t sound) (ap (results true true) e)

  -- what is returned and left where no check holds; kind 0 clears, since it is below 5
  returns : (i : ℕ) (zero below last : Bool) → (zero ≡ true → below ≡ true)
      → let it = record_in t i in
      let failed = steps.with_notice (Waiting (steps.sendings_done it.notice) clock) it in
      made (cond zero delivered (cond (below || last) dropped again)) (stored_in t i (cond (below || last) (steps.cleared it) failed)) []
      ≡ storing t i (result_step it
      (decide ((zero, Delivered (steps.cleared it)) ∷ (below, Dropped (steps.cleared it)) ∷ (last, Dropped (steps.cleared it)) ∷ []) (Again failed)))
  returns i true true last h = refl
  returns i true false last h = no_path (h refl)
  returns i false true last h = refl
  returns i false false true h = refl
  returns i false false false h = refl

  by_result : (i : ℕ) → stored_in t i (record_in t i) ≡ t → is_number number.0 ≡ true
      → results true true (Some i) ≡ storing t i (visit_result kind clock (record_in t i))
  unfolding steps.resulted
  by_result i same isOne = rw isOne
      (ap (λ done. decide (refusing t [] (map (answering refusal) (result_checks kind it))) done)
      (returns i (eqb kind 0) (ltb kind steps.last_kind) (leb steps.most_sendings (steps.sendings_done it.notice)) (λ e. rw (eqb-true kind 0 e)))
      ∙ decide_of (λ n. made (refusal n) t []) (λ s. storing t i (result_step it s)) Refused (λ n. rw same) (result_checks kind it) _)
    where
      it : Record
      it = record_in t i

  -- the number is in row i: that row's record decides
  pub result_visits : (i : ℕ) → row_for t number.0 ≡ Some i → notices.taking_result t number kind clock ≡ storing t i (visit_result kind clock (record_in t i))
  result_visits i e =
      result_at_lem (Some i) e ∙ by_result i (found_back t number.0 i sound e) (found_number t number.0 i sound e)

  -- the number is not in the table
  pub result_misses : row_for t number.0 ≡ None → notices.taking_result t number kind clock ≡ leaving t missed_result
  result_misses e = result_at_lem None e ∙ rw (or_right (not (is_number number.0)) true refl)

-- ---- the terminal

module _ (t : State) (reply : List ℕ) (number : FunctionalNumber) (holder : Msisdn) (sound : state_sound t ≡ true) where
  abbrev erasure : Request
  erasure = terminal_request number holder

  -- table and figures are right, so 1 and 7 are left of the checks
  two_left :
      terminal_erasure t reply number holder
      ≡ decide (refusing t reply ((ltb (length reply) buffer_room, refusal 1) ∷ (not (both_numbers number holder), refusal 7) ∷ [])) (requests.once t reply nobody erasure)
  unfolding terminal_erasure
  two_left = rw (state_table t sound, state_right t sound)

  -- the number is in row i: that row's record decides
  pub terminal_visits : (i : ℕ) → row_for t number.0 ≡ Some i → terminal_erasure t reply number holder ≡ storing t i (visit_terminal number holder reply (record_in t i))
  unfolding decided
  terminal_visits i e = two_left ∙ chosen (storing t i) (ltb (length reply) buffer_room) (rw same) (go (both_numbers number holder) refl)
    where
      same : stored_in t i (record_in t i) ≡ t
      same = found_back t number.0 i sound e

      go : (b : Bool) → both_numbers number holder ≡ b
          → cond (not b) (made (refusal 7) t reply) (requests.once t reply nobody erasure)
          ≡ storing t i (cond (not b) (visited (refusal 7) reply (record_in t i)) (decides Erase (Forced holder) number nobody reply (record_in t i)))
      go false h = rw same
      go true h =
          ap (requests.replying reply) (step_visits t nobody erasure i e (and_right (is_number number.0) (is_number holder.0) h))
          ∙ replies t i same nobody reply Erase (Forced holder) number

  -- the number is not in the table
  pub terminal_misses : row_for t number.0 ≡ None → terminal_erasure t reply number holder ≡ leaving t (missed_terminal number holder reply)
  terminal_misses e =
      two_left
      ∙ chosen (leaving t) (ltb (length reply) buffer_room) refl
      (chosen (leaving t) (not (both_numbers number holder)) refl (ap (requests.replying reply) (step_misses t nobody erasure e)))

-- ---- routings

module _ (list home : List ℕ) (coded : Bool) (asked : List ℕ) where
  abbrev digits : List ℕ
  digits = with_code_in home coded asked

  abbrev unread : Bool
  unread = any_holds (routing_checks true home coded asked)

  -- one that names k: no check holds, and k is the number with its code in front
  pub routing_names : (k : ℕ) → name_of list (routes home coded asked) ≡ some k → (unread ≡ false) × (stored_form digits ≡ k)
  routing_names k e = go unread refl e
    where
      go : (b : Bool) → unread ≡ b → cond b none (some (stored_form digits)) ≡ some k → (unread ≡ false) × (stored_form digits ≡ k)
      go true h e = not_some e
      go false h e = (h, cc)

  -- one that names none: a check holds
  routing_nameless : name_of list (routes home coded asked) ≡ none → unread ≡ true
  routing_nameless e = go unread e
    where
      go : (b : Bool) → cond b none (some (stored_form digits)) ≡ none → b ≡ true
      go true e = refl
      go false e = not_some (sym e)

-- ---- calls

module _ (list : List ℕ) (delay : ℕ) (t : State) (sound : state_sound t ≡ true) where
  -- the number that the call names is in row i: that row's record decides
  abbrev VisitsAt : Call → ℕ → Type 0
  VisitsAt c i = single list delay c t ≡ ((visit list delay c (record_in t i)).reply, stored_in t i (visit list delay c (record_in t i)).next)

  bare_visits : (requester : Msisdn) (scheme : ℕ) (string reply : List ℕ) (k i : ℕ) → name_of list (request requester scheme string reply) ≡ some k
      → row_for t k ≡ Some i → VisitsAt (request requester scheme string reply) i
  bare_visits requester scheme string reply k i n e =
      let x = naming list reply requester scheme string k n in
      ap replied (request_visits list reply requester scheme string t sound x.fields x.passed x.reads i (rw x.names e) ∙ rw x.reads)

  pub single_visits : (c : Call) (k i : ℕ) → name_of list c ≡ some k → row_for t k ≡ Some i → VisitsAt c i
  single_visits (request requester scheme string reply) k i n e = bare_visits requester scheme string reply k i n e
  single_visits (framed requester message frame) k i n e = go (opened list frame message requester delay)
    where
      go : Opened list frame message requester delay → VisitsAt (framed requester message frame) i
      go (shut r unsaid why nameless c s) = not_some (sym nameless ∙ n)
      go (carries j inside passes w) =
          w.singles t sound ∙ ap (turned (enveloped j frame)) (bare_visits requester j.scheme j.string own_reply k i (sym w.name ∙ n) e) ∙ rw inside refl
  single_visits (sending now number buffer) k i n e = ap replied (sending_visits t buffer number delay (clock_reading now) sound i (cc))
  single_visits (result now number kind) k i n e = ap replied (result_visits t number kind (clock_reading now) sound i (cc))
  single_visits (terminal number holder reply) k i n e = ap replied (terminal_visits t reply number holder sound i (cc))
  single_visits (routes home coded asked) k i n e =
      let (reads, number) = routing_names list home coded asked k n in
      let looks = routing_looks t.table home coded asked (state_table t sound) reads ∙ ap (by_code home (with_code_in home coded asked)) (ap (record_for t) number ∙ record_found_lem t.table k i e) in
      λ j. (record { answer = looks j; buffer = [] }, sym (found_back t k i sound e) j)

  -- it is not in the table
  bare_misses : (requester : Msisdn) (scheme : ℕ) (string reply : List ℕ) (k : ℕ) → name_of list (request requester scheme string reply) ≡ some k
      → row_for t k ≡ None → single list delay (request requester scheme string reply) t ≡ (missed list (request requester scheme string reply), t)
  bare_misses requester scheme string reply k n e =
      let x = naming list reply requester scheme string k n in
      ap replied (request_misses list reply requester scheme string t sound x.fields x.passed x.reads (rw x.names e) ∙ rw x.reads)

  pub single_misses : (c : Call) (k : ℕ) → name_of list c ≡ some k → row_for t k ≡ None → single list delay c t ≡ (missed list c, t)
  single_misses (request requester scheme string reply) k n e = bare_misses requester scheme string reply k n e
  single_misses (framed requester message frame) k n e = go (opened list frame message requester delay)
    where
      go : Opened list frame message requester delay → single list delay (framed requester message frame) t ≡ (missed list (framed requester message frame), t)
      go (shut r unsaid why nameless c s) = not_some (sym nameless ∙ n)
      go (carries j inside passes w) =
          w.singles t sound ∙ ap (turned (enveloped j frame)) (bare_misses requester j.scheme j.string own_reply k (sym w.name ∙ n) e) ∙ rw inside refl
  single_misses (sending now number buffer) k n e = ap replied (sending_misses t buffer number delay (clock_reading now) sound (cc))
  single_misses (result now number kind) k n e = ap replied (result_misses t number kind (clock_reading now) sound (cc))
  single_misses (terminal number holder reply) k n e = ap replied (terminal_misses t reply number holder sound (cc))
  single_misses (routes home coded asked) k n e =
      let (reads, number) = routing_names list home coded asked k n in
      let looks = routing_looks t.table home coded asked (state_table t sound) reads ∙ ap (by_code home (with_code_in home coded asked)) (ap (record_for t) number ∙ record_missing t.table k e) in
      ap (λ a. (record { answer = a; buffer = [] }, t)) looks

-- the call names none: it gets the same over every sound state, no outcome, and the state stays
module _ (list : List ℕ) (delay : ℕ) where
  abbrev Stops : Call → Type 0
  Stops c = (r : Reply) × ((n : ℕ) → is_outcome n r.answer ≡ false) × ((t : State) → state_sound t ≡ true → single list delay c t ≡ (r, t))

  bare_stops : (requester : Msisdn) (scheme : ℕ) (string reply : List ℕ) → name_of list (request requester scheme string reply) ≡ none
      → Stops (request requester scheme string reply)
  bare_stops requester scheme string reply n = (
    _,
    λ m. decide_each (λ a. is_outcome m a ≡ false) (requests.refusal_checks true true list reply requester scheme string) (error 36)
        (refl, (refl, (refl, (refl, (refl, (refl, (refl, (refl, tt)))))))) refl,
    λ t sound. ap replied (request_stops list reply requester scheme string t sound (unnamed list reply requester scheme string n)),
  )

  pub single_stops : (c : Call) → name_of list c ≡ none → Stops c
  single_stops (request requester scheme string reply) n = bare_stops requester scheme string reply n
  single_stops (framed requester message frame) n = go (opened list frame message requester delay)
    where
      go : Opened list frame message requester delay → Stops (framed requester message frame)
      go (shut r unsaid why nameless c s) = (r, λ m. rw unsaid refl, s)
      go (carries j inside passes w) =
          let (r, unsaid, stops) = bare_stops requester j.scheme j.string own_reply (sym w.name ∙ n) in
          (enveloped j frame r, λ m. outcome_kept j frame r m ∙ unsaid m, λ t sound. w.singles t sound ∙ ap (turned (enveloped j frame)) (stops t sound))
  single_stops (sending now number buffer) n = not_some (sym n)
  single_stops (result now number kind) n = not_some (sym n)
  single_stops (terminal number holder reply) n = not_some (sym n)
  single_stops (routes home coded asked) n = (
    record { answer = decide (routing_checks true home coded asked) (error 36); buffer = [] },
    λ m. decide_each (λ a. is_outcome m a ≡ false) (routing_checks true home coded asked) (error 36) (refl, (refl, (refl, (refl, tt)))) refl,
    λ t sound. ap (λ a. (record { answer = a; buffer = [] }, t)) (routing_stops t.table home coded asked (state_table t sound) (routing_nameless list home coded asked n)),
  )
