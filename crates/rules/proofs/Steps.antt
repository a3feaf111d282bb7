-- What a call is by its single steps: its own, none, or a crew's single requests. Assumes nothing.
use mathlib.Core.Path.{◌≡◌, refl, ap, ◌∙◌, sym}
use mathlib.Core.Logic.{⊎_elim}
use mathlib.Core.Bool.{Bool, true, false, cond, ◌&&◌}
use mathlib.Core.Option.{Option, none, some}
use mathlib.Core.List.{List, [], ◌∷◌, map}
use Prim.Native.Nat.{ℕ, ◌%◌, ◌≤◌}
use native.Mathlib.Omega.{arith}
use lib.ListN.{length, drop}
use borrow.Author.Tests.{not-false, ltb-false, eqb-true}
use Rattle.answers.specs.Begins.{begins}
use Rattle.answers.specs.Checks.{◌>>=◌, only_if, any_holds, decide}
use Rattle.answers.specs.Leading.{each}
use Rattle.answers.proofs.Tests.{no_path, and_left, and_right}
use Rattle.answers.proofs.Checks.{not_some, bind_some}
use Rattle.answers.proofs.Decide.{all_pass}
use Rattle.packing.specs.Packing.{packed, unpacked}
use Rattle.numbers.specs.declared.Msisdn.{Msisdn}
use Rattle.crews.specs.declared.Crew.TheVariants.{Single, Codes}
use Rattle.crews.specs.Crews.{lead_code, bulk_text, is_code, is_in, counted_codes_at, crew_of, counted, count_of}
use Rattle.crews.proofs.Codes.{code_below}
use Rattle.crews.proofs.Crews.{sound_codes, crew_only}
use Rattle.strings.specs.declared.Operation.{Operation}
use Rattle.strings.specs.declared.Operation.TheVariants.{Register, Erase, Interrogate}
use Rattle.strings.specs.declared.Erasing.{Erasing}
use Rattle.strings.specs.declared.Erasing.TheVariants.{Empty, Forced}
use Rattle.strings.specs.Text.{Request, may_carry, is_lead, request_sound, text_of}
use Rattle.strings.specs.Outcomes.{request_of}
use Rattle.strings.proofs.Text.{sound_rules}
use Rattle.strings.proofs.ReadBack.{read_only}
use Rattle.strings.proofs.Octets.{request_reads}
use Rattle.tables.specs.Tables.{flags_of}
use Rattle.states.specs.States.{State, beside, state_sound}
use Rattle.rules.specs.Answers.{crew_registered, crew_erased, Outcome, buffer_room}
use Rattle.rules.specs.Requests.{is_forced, has_follow_me, refusal_checks, right_checks, negative, saying}
use Rattle.rules.specs.Crews.{with_code, member_of, crew_codes, crew_number, Walk, walked, set_out, crew_outcome, carried_out_for, requesting}
use Rattle.rules.specs.Frames.{framed_checks, Inside, inside_of, own_reply}
use Rattle.rules.specs.Calls.{Call, request, framed, sending, result, terminal, routes, Reply, replied, call, read_of, codes_read, codes_of, names_one, single_calls, stops_crew, steps_of, steps}
use Rattle.rules.specs.Visits.{enveloped}
use Rattle.rules.specs.Singles.{Roomy}
use Rattle.rules.specs.Demand.{is_crew_outcome}
use Rattle.rules.proofs.Inside.{turned, Wraps, itself, Opened, shut, carries, opened}
use Rattle.rules.proofs.Visits.{by_stops, by_asks}
use Rattle.rules.proofs.Crews.{Small, Shared, member_named, members_single, Walks, walks}
use Rattle.rules.proofs.Single.{AllSingle}
use Rattle.rules.proofs.Runs.{any_names}

-- its own step
pub own_step : (list : List ℕ) (c : Call) → codes_of c ≡ none → steps_of list c ≡ c ∷ []
own_step list (request requester scheme string reply) e = go (request_of string) refl e
  where
    go : (read : Option Request) → request_of string ≡ read → codes_read read ≡ none
        → steps_of list (request requester scheme string reply) ≡ request requester scheme string reply ∷ []
    go none r e = rw r refl
    go (some f) r e = rw (r, e) refl
own_step list (framed requester message frame) e = by_inside (inside_of message) refl e
  where
    it : Call
    it = framed requester message frame

    by_read : (i : Inside) → inside_of message ≡ some i → (read : Option Request) → request_of i.string ≡ read → codes_read read ≡ none → steps_of list it ≡ it ∷ []
    by_read i q none r e = rw (q, r) refl
    by_read i q (some f) r e = rw (q, r, e) refl

    by_inside : (inside : Option Inside) → inside_of message ≡ inside → codes_read (inside >>= λ i. request_of i.string) ≡ none → steps_of list it ≡ it ∷ []
    by_inside none q e = rw q refl
    by_inside (some i) q e = by_read i q (request_of i.string) refl e
own_step list (sending now number buffer) e = refl
own_step list (result now number kind) e = refl
own_step list (terminal number holder reply) e = refl
own_step list (routes home coded asked) e = refl

-- a crew's request that its frame stops has none
no_steps : (list : List ℕ) (requester : Msisdn) (message frame : List ℕ) {codes : List ℕ} → any_holds (framed_checks true true list frame message) ≡ true
    → codes_of (framed requester message frame) ≡ some codes → steps_of list (framed requester message frame) ≡ []
no_steps list requester message frame {codes} h e = by_inside (inside_of message) refl e
  where
    by_read : (i : Inside) → inside_of message ≡ some i → (read : Option Request) → request_of i.string ≡ read → codes_read read ≡ some codes
        → steps_of list (framed requester message frame) ≡ []
    by_read i q none r e = not_some e
    by_read i q (some f) r e = rw (h, q, r, e) refl

    by_inside : (inside : Option Inside) → inside_of message ≡ inside → codes_read (inside >>= λ i. request_of i.string) ≡ some codes
        → steps_of list (framed requester message frame) ≡ []
    by_inside none q e = not_some e
    by_inside (some i) q e = by_read i q (request_of i.string) refl e

-- where no call is a crew's, the single steps are the calls
pub own_steps : (list : List ℕ) (cs : List Call) → AllSingle cs → steps list cs ≡ cs
own_steps list [] a = refl
own_steps list (c ∷ cs) (e, a) = rw (own_step list c e, own_steps list cs a) refl

-- ---- a crew's request

-- its field says how many codes it has
crew_count : (field : List ℕ) {codes : List ℕ} → crew_of field ≡ some codes → count_of field ≡ Codes (length codes)
unfolding count_of crew_of
crew_count field {codes} e = go (begins bulk_text field) refl e
  where
    go : (b : Bool) → begins bulk_text field ≡ b → (only_if b (drop (length bulk_text) field) >>= counted_codes_at) ≡ some codes
        → cond b (counted (only_if b (drop (length bulk_text) field) >>= counted_codes_at)) Single ≡ Codes (length codes)
    go true q e = ap counted e
    go false q e = not_some e

carried_plain : (o : Operation) (e : Erasing) → may_carry o e ≡ true → e ≡ Empty
carried_plain Register Empty h = refl
carried_plain Erase Empty h = refl
carried_plain Interrogate Empty h = refl
carried_plain Register (Forced m) h = no_path h
carried_plain Erase (Forced m) h = no_path h
carried_plain Interrogate (Forced m) h = no_path h

module _ (f : Request) {codes : List ℕ} (sound : request_sound f ≡ true) (crew : crew_of f.additional ≡ some codes) where
  crew_kept_lem : (is_lead f.number && may_carry f.operation f.erasing) ≡ true
  crew_kept_lem = rw (crew_count f.additional crew) at (sound_rules f sound).crew

  -- it is plain
  pub crew_plain : f.erasing ≡ Empty
  crew_plain = carried_plain f.operation f.erasing (and_right (is_lead f.number) (may_carry f.operation f.erasing) crew_kept_lem)

  -- its lead number is the one with code 01
  pub lead_number : with_code f.number.0 lead_code ≡ f.number.0
  unfolding with_code
  lead_number =
      let ends = eqb-true (f.number.0 % 100) lead_code (and_left (is_lead f.number) (may_carry f.operation f.erasing) crew_kept_lem) in
      omega arith

-- a requester with Follow Me passes the checks of her rights, if she forces nobody
passes_rights : (t : State) (reply : List ℕ) (flags : ℕ) (e : Erasing) (done : Outcome) → has_follow_me flags ≡ true → e ≡ Empty
    → decide (map (negative t reply) (right_checks flags e)) done ≡ done
passes_rights t reply flags e done h p = rw (h, p) refl

-- what a call's string reads as was read from octets
read_from : (c : Call) {f : Request} → read_of c ≡ some f → (string : List ℕ) × (request_of string ≡ some f)
read_from (request requester scheme string reply) e = (string, e)
read_from (framed requester message frame) {f} e = bind_some (inside_of message) (λ i. request_of i.string) e (λ i inside r. (i.string, r))
read_from (sending now number buffer) e = not_some e
read_from (result now number kind) e = not_some e
read_from (terminal number holder reply) e = not_some e
read_from (routes home coded asked) e = not_some e

-- a forced erasure is no crew's: a supervisor clears no crew
pub forced_alone : (c : Call) (f : Request) {named : Msisdn} → read_of c ≡ some f → f.erasing ≡ Forced named → codes_of c ≡ none
forced_alone c f {named} reads forces = rw reads (go (crew_of f.additional) refl)
  where
    go : (codes : Option (List ℕ)) → crew_of f.additional ≡ codes → codes ≡ none
    go none e = refl
    go (some codes) e =
        let (string, r) = read_from c reads in
        let plain = crew_plain f (read_only (unpacked string) (request_reads string r).1).0 e in
        no_path (sym (ap is_forced plain) ∙ ap is_forced forces)

small_codes : (codes : List ℕ) → each is_code codes ≡ true → Small codes
unfolding each
small_codes [] h = tt
small_codes (code ∷ codes) h = (code_below code (and_left (is_code code) (each is_code codes) h), small_codes codes (and_right (is_code code) (each is_code codes) h))

-- one that no check stops: what it reads as, and what its single requests share
pub record Goes (list : List ℕ) (requester : Msisdn) (scheme : ℕ) (string reply : List ℕ) : Type 0 where
  pub fields : Request
  pub codes : List ℕ
  pub reads : request_of string ≡ some fields
  pub crew : crew_of fields.additional ≡ some codes
  pub passed : any_holds (refusal_checks true true list reply requester scheme string) ≡ false
  pub right : has_follow_me (flags_of list requester.0) ≡ true

-- its codes have two digits
pub codes_small : (f : Request) (codes : List ℕ) → crew_of f.additional ≡ some codes → Small (crew_codes codes)
codes_small f codes crew = (omega arith, small_codes codes (sound_codes codes (crew_only f.additional crew).1))

-- what its single requests share
pub passed_shared : (list : List ℕ) (requester : Msisdn) (scheme : ℕ) (string reply : List ℕ) (f : Request) (codes : List ℕ) → request_of string ≡ some f
    → crew_of f.additional ≡ some codes → any_holds (refusal_checks true true list reply requester scheme string) ≡ false → Shared list requester scheme f
passed_shared list requester scheme string reply f codes reads crew passes =
    let sound = (read_only (unpacked string) (request_reads string reads).1).0 in
    let passed = all_pass (refusal_checks true true list reply requester scheme string) passes in
    record {
      listed = not-false _ passed.1.0;
      number = not-false _ passed.1.1.1.1.0;
      coded = not-false _ passed.1.1.1.1.1.0;
      plain = crew_plain f sound crew;
      lead = (sound_rules f sound).number;
    }

module _ (list : List ℕ) (requester : Msisdn) (scheme : ℕ) (string reply : List ℕ) (g : Goes list requester scheme string reply) where
  abbrev read : Request
  read = g.fields

  pub goes_room : buffer_room ≤ length reply
  goes_room = omega (arith, ltb-false (length reply) buffer_room (all_pass (refusal_checks true true list reply requester scheme string) g.passed).0)

  pub goes_shared : Shared list requester scheme read
  goes_shared = passed_shared list requester scheme string reply read g.codes g.reads g.crew g.passed

  pub goes_small : Small (crew_codes g.codes)
  goes_small = codes_small read g.codes g.crew

  -- the walk over its single requests
  abbrev pub walk : State → Walk
  walk t = walked requester read (crew_codes g.codes) (set_out t)

  pub goes_walks : (t : State) → state_sound t ≡ true → requesting t list reply requester scheme string ≡ crew_outcome (crew_number read.operation) reply (walk t)
  unfolding requesting
  goes_walks t sound =
      by_asks list reply requester scheme string t sound (λ h. carried_out_for t reply requester h (crew_of h.additional)) read g.passed g.reads
      ∙ passes_rights t reply (flags_of list requester.0) read.erasing _ g.right goes_shared.plain
      ∙ ap (carried_out_for t reply requester read) g.crew

  -- it is answered 11 or 12
  goes_answered : (t : State) → state_sound t ≡ true → is_crew_outcome (requesting t list reply requester scheme string).answer ≡ true
  goes_answered t sound = ap (λ o. is_crew_outcome o.answer) (goes_walks t sound) ∙ by_operation read.operation
    where
      by_operation : (o : Operation) → is_crew_outcome (crew_outcome (crew_number o) reply (walk t)).answer ≡ true
      by_operation Register = refl
      by_operation Erase = refl
      by_operation Interrogate = refl

-- ---- a call by its steps

-- its own step; or none, and it leaves every state; or the single requests of a crew
pub data View (list : List ℕ) (delay : ℕ) : Call → Type 0 where
  own : (c : Call) → codes_of c ≡ none → steps_of list c ≡ c ∷ [] → View list delay c
  stops : (c : Call) (r : Reply) → ((t : State) → state_sound t ≡ true → call list delay c t ≡ (r, t)) → steps_of list c ≡ [] → View list delay c
  goes : {c : Call} {turn : Reply → Reply} {requester : Msisdn} {scheme : ℕ} {string reply : List ℕ} (g : Goes list requester scheme string reply)
      → Wraps list delay turn c (request requester scheme string reply) → steps_of list c ≡ single_calls requester scheme reply g.fields g.codes
      → View list delay c

-- of a request, bare or in its frame
module _ (list : List ℕ) (delay : ℕ) (requester : Msisdn) (scheme : ℕ) (string reply : List ℕ) (c : Call) (turn : Reply → Reply)
    (w : Wraps list delay turn c (request requester scheme string reply))
    (crew-steps : (f : Request) (codes : List ℕ) → request_of string ≡ some f → crew_of f.additional ≡ some codes
    → steps_of list c ≡ cond (stops_crew list requester scheme string reply) [] (single_calls requester scheme reply f codes)) where
  module _ (f : Request) (codes : List ℕ) (reads : request_of string ≡ some f) (crew : crew_of f.additional ≡ some codes) where
    -- what is done where no check holds
    abbrev done : State → Request → Outcome
    done t h = carried_out_for t reply requester h (crew_of h.additional)

    stays : (r : Reply) → ((t : State) → state_sound t ≡ true → call list delay (request requester scheme string reply) t ≡ (r, t))
        → stops_crew list requester scheme string reply ≡ true → View list delay c
    stays r f' p = stops c (turn r) (λ t sound. w.calls t sound ∙ ap (turned turn) (f' t sound)) (crew-steps f codes reads crew ∙ rw p)

    crew_view : (a b : Bool) → any_holds (refusal_checks true true list reply requester scheme string) ≡ a → has_follow_me (flags_of list requester.0) ≡ b
        → View list delay c
    unfolding requesting
    crew_view true b p q = stays _ (λ t sound. ap replied (by_stops list reply requester scheme string t sound (done t) p)) (rw p)
    crew_view false false p q =
        stays (replied (saying 42 (beside [] []) reply)).0 (λ t sound. ap replied (by_asks list reply requester scheme string t sound (done t) f p reads ∙ rw q)) (rw (p, q))
    crew_view false true p q =
        goes (record { fields = f; codes = codes; reads = reads; crew = crew; passed = p; right = q }) w (crew-steps f codes reads crew ∙ rw (p, q))

  alone_view : codes_read (request_of string) ≡ none → View list delay c
  alone_view e = let alone : codes_of c ≡ none = ap codes_read w.read ∙ e in own c alone (own_step list c alone)

  request_view : View list delay c
  request_view = by_read (request_of string) refl
    where
      by_codes : (f : Request) → request_of string ≡ some f → (codes : Option (List ℕ)) → crew_of f.additional ≡ codes → View list delay c
      by_codes f r none e = alone_view (rw r e)
      by_codes f r (some codes) e =
          crew_view f codes r e (any_holds (refusal_checks true true list reply requester scheme string)) (has_follow_me (flags_of list requester.0)) refl refl

      by_read : (read : Option Request) → request_of string ≡ read → View list delay c
      by_read none r = alone_view (rw r refl)
      by_read (some f) r = by_codes f r (crew_of f.additional) refl

pub view : (list : List ℕ) (delay : ℕ) (c : Call) → View list delay c
view list delay (request requester scheme string reply) =
    request_view list delay requester scheme string reply _ _ (itself list delay (request requester scheme string reply)) (λ f codes r e. rw (r, e) refl)
view list delay (framed requester message frame) = go (opened list frame message requester delay)
  where
    it : Call
    it = framed requester message frame

    -- one that its frame stops
    stopped : (r : Reply) → ((t : State) → state_sound t ≡ true → call list delay it t ≡ (r, t)) → any_holds (framed_checks true true list frame message) ≡ true
        → (codes : Option (List ℕ)) → codes_of it ≡ codes → View list delay it
    stopped r f h none e = own it e (own_step list it e)
    stopped r f h (some codes) e = stops it r f (no_steps list requester message frame h e)

    go : Opened list frame message requester delay → View list delay it
    go (shut r unsaid why nameless c s) =
        ⊎_elim (λ h. stopped r c h (codes_of it) refl) (λ n. let alone : codes_of it ≡ none = rw n refl in own it alone (own_step list it alone)) why
    go (carries i inside passes w) =
        request_view list delay requester i.scheme i.string own_reply it (enveloped i frame) w (λ f codes r e. rw (passes, inside, r, e) refl)
view list delay (sending now number buffer) = own (sending now number buffer) refl refl
view list delay (result now number kind) = own (result now number kind) refl refl
view list delay (terminal number holder reply) = own (terminal number holder reply) refl refl
view list delay (routes home coded asked) = own (routes home coded asked) refl refl

-- a crew's request that goes is answered 11 or 12, in its frame too
pub goes_said : (list : List ℕ) (delay : ℕ) {c : Call} {turn : Reply → Reply} (requester : Msisdn) (scheme : ℕ) (string reply : List ℕ)
    → Goes list requester scheme string reply → Wraps list delay turn c (request requester scheme string reply) → (t : State) → state_sound t ≡ true
    → is_crew_outcome (call list delay c t).0.answer ≡ true
goes_said list delay requester scheme string reply g w t sound =
    let r = (call list delay (request requester scheme string reply) t).0 in
    ap (λ x. is_crew_outcome x.0.answer) (w.calls t sound)
    ∙ rw (w.outcomes r crew_registered, w.outcomes r crew_erased) (goes_answered list requester scheme string reply g t sound)

-- ---- the single requests of a crew that goes

module _ (list : List ℕ) (delay : ℕ) (requester : Msisdn) (scheme : ℕ) (string reply : List ℕ) (g : Goes list requester scheme string reply)
    (buffers : ℕ → List ℕ) (roomy : Roomy buffers) where
  abbrev shared : Shared list requester scheme g.fields
  shared = goes_shared list requester scheme string reply g

  pub small : Small (crew_codes g.codes)
  small = goes_small list requester scheme string reply g

  abbrev one : ℕ → Call
  one code = request requester scheme (packed (text_of (member_of g.fields code))) (buffers code)

  abbrev pub singly : List Call
  singly = map one (crew_codes g.codes)

  pub singly_single : AllSingle singly
  singly_single = members_single list delay requester scheme g.fields shared buffers roomy (crew_codes g.codes) small

  pub singly_walks : (t : State) → state_sound t ≡ true
      → Walks list delay requester scheme g.fields shared buffers roomy g.right (crew_codes g.codes) (set_out t)
  singly_walks t sound = walks list delay requester scheme g.fields shared buffers roomy g.right (crew_codes g.codes) (set_out t) small sound

  -- the names of the single requests are the crew's
  pub names_in : (codes : List ℕ) (k : ℕ) → Small codes
      → any_names (names_one list) (map one codes) k ≡ is_in k (map (with_code g.fields.number.0) codes)
  unfolding is_in
  names_in [] k s = refl
  names_in (code ∷ codes) k (c, s) =
      rw (member_named list delay requester scheme g.fields shared buffers roomy code c, names_in codes k s) refl
