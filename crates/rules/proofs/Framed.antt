-- A framed request equals the bare one, whatever the bare one's reply buffer held; and what each check of the frame gives. Assumes nothing.
use mathlib.Core.Path.{◌≡◌, refl, ap, ◌∙◌}
use mathlib.Core.Logic.{⊎_elim}
use mathlib.Core.Bool.{Bool, true, false, cond, not, ◌||◌}
use mathlib.Core.Option.{Option, none, some}
use mathlib.Core.List.{List, [], ◌∷◌, map}
use Prim.Native.Nat.{ℕ, ◌≤◌, ◌<◌}
use native.Mathlib.Omega.{arith}
use lib.ListN.{length, take}
use lib.Dec.{eqb, ltb}
use borrow.Author.Tests.{lt-ltb, le-ltb, ne_eqb, eqb-true}
use Rattle.answers.specs.Checks.{decide, is_none, any_holds}
use Rattle.answers.proofs.Tests.{or_cases}
use Rattle.answers.proofs.Decide.{answering, Each, decide_each}
use Rattle.packing.specs.Packing.{packed}
use Rattle.numbers.specs.Numbers.{is_number, two_digits}
use Rattle.numbers.specs.declared.Msisdn.{Msisdn}
use Rattle.crews.specs.Crews.{crew_of}
use Rattle.strings.specs.Text.{Request, coding_scheme}
use Rattle.strings.specs.Outcomes.{request_of}
use Rattle.frames.specs.Components.{wrong, asks}
use Rattle.frames.specs.Components as components
use Rattle.frames.specs.Messages.{frame_room, Register, register_of}
use Rattle.tables.specs.Tables.{table_sound, list_sound, flags_of}
use Rattle.states.specs.States.{State, figures_right, state_sound}
use Rattle.states.proofs.States.{state_table, state_right}
use Rattle.rules.specs.Answers.{Answer, refusal, error, outcome, reject, refusal_class, error_class, outcome_class, numbers_of, is_of, is_refusal, is_error, Outcome, made, buffer_room, holder_text, packed_over, octet_count, refusing}
use Rattle.rules.specs.Requests.{saying, most_string_octets, right_checks, Verdict, says, tells, step, negative, answered, asking_by}
use Rattle.rules.specs.Crews.{crew_codes, crew_number, crew_reply, walked, set_out, carried_out_for, requesting}
use Rattle.rules.specs.Frames.{framed_checks, in_frame, Inside, own_reply, framed_request}
use Rattle.rules.specs.Calls.{framed, Reply, replied, call}
use Rattle.rules.specs.Visits.{reply_saying}
use Rattle.rules.specs.Framed.{given_back, AsBare}
use Rattle.rules.proofs.Inside.{string_written, refusal_kept, in_envelope, frame_rejects, frame_asks}

-- two ways of deciding, by the same checks
decide_both : {A B X : Type 0} (R : A → B → Type 0) (h : X → A) (k : X → B) (checks : List (Bool × X)) (u : A) (v : B) → Each (λ x. R (h x) (k x)) checks → R u v
    → R (decide (map (answering h) checks) u) (decide (map (answering k) checks) v)
decide_both R h k [] u v each last = last
decide_both R h k (check ∷ checks) u v each last = go check.0 (decide_both R h k checks u v each.1 last)
  where
    go : (b : Bool) → R (decide (map (answering h) checks) u) (decide (map (answering k) checks) v)
        → R (cond b (h check.1) (decide (map (answering h) checks) u)) (cond b (k check.1) (decide (map (answering k) checks) v))
    go true rest = each.0
    go false rest = rest

-- ---- a bare request over any words, with room in its buffer

module _ (t : State) (list : List ℕ) (requester : Msisdn) (scheme : ℕ) (string : List ℕ) where
  abbrev flags : ℕ
  flags = flags_of list requester.0

  abbrev done : List ℕ → Request → Outcome
  done reply f = carried_out_for t reply requester f (crew_of f.additional)

  -- the errors
  abbrev errors : List (Bool × Answer)
  errors =
      (not (is_number requester.0), error 35)
      ∷ (not (eqb scheme coding_scheme), error 71)
      ∷ (eqb (length string) 0, error 35)
      ∷ (ltb most_string_octets (length string) || is_none (request_of string), error 36)
      ∷ []

  -- ---- it is answered an outcome or an error, over a sound list and state

  module _ (reply : List ℕ) where
    abbrev Heard : Outcome → Type 0
    Heard o = (is_of outcome_class o.answer || is_error o.answer) ≡ true

    heard_step : (v : Verdict) (new : State) → Heard (answered reply v new)
    heard_step (says n) new = refl
    heard_step (tells msisdn) new = refl

    heard_done : (f : Request) (codes : Option (List ℕ)) → Heard (carried_out_for t reply requester f codes)
    heard_done f none = heard_step (step t requester f).verdict (step t requester f).state
    heard_done f (some codes) = refl

    pub heard_read : (read : Option Request) → Heard (asking_by (done reply) t flags reply read)
    heard_read none = refl
    heard_read (some f) =
        decide_each Heard (map (negative t reply) (right_checks flags f.erasing)) (done reply f) (refl, (refl, tt)) (heard_done f (crew_of f.additional))

    heard : buffer_room ≤ length reply → list_sound list ≡ true → state_sound t ≡ true → Heard (requesting t list reply requester scheme string)
    unfolding requesting
    heard room listed sound = rw (le-ltb (length reply) buffer_room room, listed, state_table t sound, state_right t sound)
        (decide_each Heard (refusing t reply errors) (asking_by (done reply) t flags reply (request_of string)) (refl, (refl, (refl, (refl, tt)))) (heard_read (request_of string)))

  -- ---- its answer, its string and its state do not depend on what the buffer held: they are the same in a frame

  module _ (first number : ℕ) (frame a b : List ℕ) where
    abbrev Alike : Outcome → Outcome → Type 0
    Alike o p = in_frame first number frame o ≡ in_frame first number frame p

    alike_saying : (n : ℕ) (text : List ℕ) (new : State) → Alike (made (outcome n (octet_count text)) new (packed_over text a)) (made (outcome n (octet_count text)) new (packed_over text b))
    alike_saying n text new = rw (string_written text a, string_written text b) refl

    alike_step : (v : Verdict) (new : State) → Alike (answered a v new) (answered b v new)
    alike_step (says n) new = alike_saying n (two_digits n) new
    alike_step (tells msisdn) new = rw (string_written (holder_text msisdn) a, string_written (holder_text msisdn) b) refl

    alike_done : (f : Request) (codes : Option (List ℕ)) → Alike (carried_out_for t a requester f codes) (carried_out_for t b requester f codes)
    alike_done f none = alike_step (step t requester f).verdict (step t requester f).state
    alike_done f (some codes) =
        let w = walked requester f (crew_codes codes) (set_out t) in alike_saying (crew_number f.operation) (crew_reply (crew_number f.operation) w) w.state

    alike_read : (read : Option Request) → Alike (asking_by (done a) t flags a read) (asking_by (done b) t flags b read)
    alike_read none = refl
    alike_read (some f) =
        decide_both Alike (λ n. saying n t a) (λ n. saying n t b) (right_checks flags f.erasing) (done a f) (done b f)
        (alike_saying 42 (two_digits 42) t, (alike_saying 22 (two_digits 22) t, tt)) (alike_done f (crew_of f.additional))

    alike : buffer_room ≤ length a → buffer_room ≤ length b
        → Alike (requesting t list a requester scheme string) (requesting t list b requester scheme string)
    unfolding requesting
    alike p q = rw (le-ltb (length a) buffer_room p, le-ltb (length b) buffer_room q)
        (decide_both Alike (λ x. made x t a) (λ x. made x t b) ((not (list_sound list), refusal 8) ∷ (not (table_sound t.table), refusal 2) ∷ (not (figures_right t), refusal 10) ∷ errors)
        (asking_by (done a) t flags a (request_of string)) (asking_by (done b) t flags b (request_of string))
        (refl, (refl, (refl, (refl, (refl, (refl, (refl, tt))))))) (alike_read (request_of string)))

-- ---- the framed request

-- no outcome and no error is a refusal
pub no_refusal : (a : Answer) → (is_of outcome_class a || is_error a) ≡ true → is_refusal a ≡ false
no_refusal a h =
    let class = or_cases (is_of outcome_class a) (is_error a) h in
    ne_eqb (numbers_of a).class refusal_class (λ e. ⊎_elim (λ o. omega (arith, eqb-true (numbers_of a).class outcome_class o)) (λ o. omega (arith, eqb-true (numbers_of a).class error_class o)) class)

module _ (list : List ℕ) (delay : ℕ) (requester : Msisdn) (message frame : List ℕ) (state : State) where
  abbrev got : Reply × State
  got = call list delay (framed requester message frame) state

  -- what each check gives: a refusal, with frame, table and figures as they were
  abbrev refused_with : ℕ → Reply × State
  refused_with n = (record { answer = refusal n; buffer = frame }, state)

  pub framed_short : length frame < frame_room → got ≡ refused_with 1
  unfolding framed_request
  framed_short short = rw (lt-ltb (length frame) frame_room short) refl

  module _ (room : frame_room ≤ length frame) where
    pub framed_unread : register_of message ≡ none → got ≡ refused_with 11
    unfolding framed_request
    framed_unread unread = rw (le-ltb (length frame) frame_room room, unread) refl

    module _ (r : Register) (reads : register_of message ≡ some r) where
      pub framed_unlisted : list_sound list ≡ false → got ≡ refused_with 8
      unfolding framed_request
      framed_unlisted unlisted = rw (le-ltb (length frame) frame_room room, reads, unlisted) refl

      module _ (listed : list_sound list ≡ true) where
        pub framed_unsound : table_sound state.table ≡ false → got ≡ refused_with 2
        unfolding framed_request
        framed_unsound unsound = rw (le-ltb (length frame) frame_room room, reads, listed, unsound) refl

        pub framed_miscounted : table_sound state.table ≡ true → figures_right state ≡ false → got ≡ refused_with 10
        unfolding framed_request
        framed_miscounted sound differ = rw (le-ltb (length frame) frame_room room, reads, listed, sound, differ) refl

        module _ (sound : state_sound state ≡ true) where
          passes : any_holds (framed_checks true true list frame message) ≡ false
          passes = rw (le-ltb (length frame) frame_room room, reads, listed) refl

          -- "only then a Reject"
          pub framed_rejected : (problem : ℕ) → r.body ≡ wrong problem → got ≡ (given_back r frame (reject problem) (components.reject r.number problem), state)
          unfolding framed_request
          framed_rejected problem b = ap replied (frame_rejects list frame message _ state sound r reads passes problem b)

          -- the framed request equals the bare one
          module _ (scheme : ℕ) (string : List ℕ) (body : r.body ≡ asks scheme string) (reply : List ℕ) (enough : buffer_room ≤ length reply) where
            abbrev bare : Outcome
            bare = requesting state list reply requester scheme string

            -- what the bare request comes to, in the frame
            pub framed_bare : framed_request state list frame requester message ≡ in_frame r.first r.number frame bare
            unfolding framed_request
            framed_bare =
                frame_asks list frame message _ state sound r reads passes scheme string body
                ∙ alike state list requester scheme string r.first r.number frame own_reply reply (omega arith) enough

            got_bare : got ≡ replied (in_frame r.first r.number frame bare)
            got_bare = ap replied framed_bare

            abbrev inside : Inside
            inside = record { first = r.first; number = r.number; scheme = scheme; string = string }

            pub as_bare : AsBare list delay requester message frame r scheme string reply state
            as_bare = let answers = heard state list requester scheme string reply enough listed sound in record {
              state_after = ap (λ x. x.1) (got_bare ∙ in_envelope inside frame bare);
              outcome_framed = λ n octets e. ap (λ x. x.0) got_bare ∙ rw e refl;
              holder_framed = λ msisdn octets e. ap (λ x. x.0) got_bare ∙ rw e refl;
              error_framed = λ n e. ap (λ x. x.0) got_bare ∙ rw e refl;
              answered = answers;
              unrefused =
                  ap (λ x. is_refusal x.0.answer) (got_bare ∙ in_envelope inside frame bare)
                  ∙ refusal_kept inside frame (replied bare).0
                  ∙ no_refusal bare.answer answers;
            }

            -- an outcome of two characters comes back with them
            pub framed_says : (n : ℕ) → (replied bare).0 ≡ reply_saying n reply
                → got.0 ≡ given_back r frame (outcome n) (components.result r.number (packed (two_digits n)))
            framed_says n e =
                as_bare.outcome_framed n (octet_count (two_digits n)) (ap (λ x. x.answer) e)
                ∙ ap (λ s. given_back r frame (outcome n) (components.result r.number s)) (ap (λ x. take (octet_count (two_digits n)) x.buffer) e ∙ string_written (two_digits n) reply)
