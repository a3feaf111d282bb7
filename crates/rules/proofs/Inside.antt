-- A framed call beside the request inside it. Over a sound state it has one reply whatever the state, which stays; or it is the request inside, with its reply put into the frame. Assumes nothing.
use mathlib.Core.Path.{◌≡◌, refl, sym, ap, ◌∙◌}
use mathlib.Core.Logic.{◌⊎◌, inl, inr}
use mathlib.Core.Bool.{Bool, true, false, cond}
use mathlib.Core.Option.{Option, none, some}
use mathlib.Core.List.{List, []}
use Prim.Native.Nat.{ℕ}
use lib.ListN.{length, take, drop}
use lib.Seq.{take_at}
use Rattle.answers.specs.Checks.{decide, is_none, any_holds, ◌>>=◌}
use Rattle.answers.proofs.Tests.{no_path}
use Rattle.answers.proofs.Checks.{not_some}
use Rattle.answers.proofs.Decide.{decide_of, decide_each, all_pass, any_answering, none_holds, one_holds}
use Rattle.packing.specs.Packing.{packed}
use Rattle.numbers.specs.declared.Msisdn.{Msisdn}
use Rattle.frames.specs.Components.{Body, wrong, asks}
use Rattle.frames.specs.Components as components
use Rattle.frames.specs.Messages.{Register, register_of}
use Rattle.states.specs.States.{State, beside, state_sound}
use Rattle.states.proofs.States.{state_table, state_right}
use Rattle.rules.specs.Answers.{Answer, refusal, error, outcome, holder_is, return_error, reject, sent_to, delivered, dropped, again, found, none_due, ask_network, routed_to, Outcome, made, outcome_class, is_of, is_refusal, is_outcome, packed_over, octet_count, refusing}
use Rattle.rules.specs.Crews.{requesting}
use Rattle.rules.specs.Frames.{framed_checks, releasing, answered_in, in_frame, Inside, inside_of, own_reply, registered, framed_by, framed_request}
use Rattle.rules.specs.Calls.{Call, request, framed, Reply, replied, call, read_of, name_of}
use Rattle.rules.specs.Visits.{enveloped}
use Rattle.rules.proofs.Once.{requesting_once, framed_once, single}

-- a reply turned, with the state as it is
abbrev pub turned : (Reply → Reply) → Reply × State → Reply × State
turned f r = (f r.0, r.1)

-- the call c is d, with its reply turned
pub record Wraps (list : List ℕ) (delay : ℕ) (turn : Reply → Reply) (c d : Call) : Type 0 where
  pub outcomes : (r : Reply) (n : ℕ) → is_outcome n (turn r).answer ≡ is_outcome n r.answer
  pub calls : (t : State) → state_sound t ≡ true → call list delay c t ≡ turned turn (call list delay d t)
  pub singles : (t : State) → state_sound t ≡ true → single list delay c t ≡ turned turn (single list delay d t)
  pub name : name_of list c ≡ name_of list d
  pub read : read_of c ≡ read_of d

-- every call is itself, with its reply as it is
pub itself : (list : List ℕ) (delay : ℕ) (c : Call) → Wraps list delay (λ r. r) c c
itself list delay c = record { outcomes = λ r n. refl; calls = λ t sound. refl; singles = λ t sound. refl; name = refl; read = refl }

-- ---- an answer in its frame

module _ (first number : ℕ) (frame : List ℕ) (state : State) (reply : List ℕ) where
  abbrev within : Answer → Reply
  within a = (replied (answered_in first number frame (beside [] []) reply a)).0

  -- the state is the request's, and so is the outcome, and a refusal is one
  abbrev Within : Answer → Type 0
  Within a =
      (replied (answered_in first number frame state reply a) ≡ (within a, state))
      × ((n : ℕ) → is_outcome n (within a).answer ≡ is_outcome n a)
      × (is_refusal (within a).answer ≡ is_refusal a)

  in_frame_lem : (a : Answer) → Within a
  in_frame_lem (refusal n) = (refl, λ m. refl, refl)
  in_frame_lem (error n) = (refl, λ m. refl, refl)
  in_frame_lem (outcome n octets) = (refl, λ m. refl, refl)
  in_frame_lem (holder_is msisdn octets) = (refl, λ m. refl, refl)
  in_frame_lem (return_error n octets) = (refl, λ m. refl, refl)
  in_frame_lem (reject n octets) = (refl, λ m. refl, refl)
  in_frame_lem (sent_to addressee octets) = (refl, λ m. refl, refl)
  in_frame_lem delivered = (refl, λ m. refl, refl)
  in_frame_lem dropped = (refl, λ m. refl, refl)
  in_frame_lem again = (refl, λ m. refl, refl)
  in_frame_lem (found functional) = (refl, λ m. refl, refl)
  in_frame_lem none_due = (refl, λ m. refl, refl)
  in_frame_lem (ask_network code) = (refl, λ m. refl, refl)
  in_frame_lem (routed_to msisdn subaddress) = (refl, λ m. refl, refl)

-- what comes to an outcome in the frame is that outcome without it
pub outcome_kept : (i : Inside) (frame : List ℕ) (r : Reply) (n : ℕ) → is_outcome n (enveloped i frame r).answer ≡ is_outcome n r.answer
outcome_kept i frame r = (in_frame_lem i.first i.number frame (beside [] []) r.buffer r.answer).1

pub refusal_kept : (i : Inside) (frame : List ℕ) (r : Reply) → is_refusal (enveloped i frame r).answer ≡ is_refusal r.answer
refusal_kept i frame r = (in_frame_lem i.first i.number frame (beside [] []) r.buffer r.answer).2

pub in_envelope : (i : Inside) (frame : List ℕ) (o : Outcome) → replied (in_frame i.first i.number frame o) ≡ turned (enveloped i frame) (replied o)
in_envelope i frame o = (in_frame_lem i.first i.number frame o.state o.buffer o.answer).0

-- the string that a reply holds: what was packed over its front
pub string_written : (text reply : List ℕ) → take (octet_count text) (packed_over text reply) ≡ packed text
string_written text reply = take_at (packed text) (drop (length (packed text)) reply) (octet_count text) refl

-- ---- the checks of a frame, over a sound state, whatever is asked inside

module _ (list frame message : List ℕ) where
  abbrev checks : List (Bool × Answer)
  checks = framed_checks true true list frame message

  abbrev refused : Bool
  refused = any_holds checks

  module _ (asked : ℕ → List ℕ → Outcome) (t : State) (sound : state_sound t ≡ true) where
    abbrev behind : Outcome
    behind = registered asked t frame (register_of message)

    in_two : framed_by asked t list frame message ≡ decide (refusing t frame checks) behind
    in_two = rw (state_table t sound, state_right t sound)

    any_refuses : any_holds (refusing t frame checks) ≡ refused
    any_refuses = any_answering (λ a. made a t frame) checks

    -- one refuses it
    frame_refuses : refused ≡ true → framed_by asked t list frame message ≡ made (decide checks (refusal 11)) t frame
    frame_refuses h =
        in_two
        ∙ one_holds (refusing t frame checks) behind (made (refusal 11) t frame) (any_refuses ∙ h)
        ∙ decide_of (λ a. made a t frame) (λ a. made a t frame) (λ a. a) (λ a. refl) checks (refusal 11)

    -- none does
    frame_passes : refused ≡ false → framed_by asked t list frame message ≡ behind
    frame_passes h = in_two ∙ none_holds (refusing t frame checks) behind (any_refuses ∙ h)

    module _ (r : Register) (reads : register_of message ≡ some r) (passes : refused ≡ false) where
      pub frame_rejects : (problem : ℕ) → r.body ≡ wrong problem
          → framed_by asked t list frame message ≡ releasing (reject problem) t r.first frame (components.reject r.number problem)
      frame_rejects problem b = frame_passes passes ∙ rw (reads, b) refl

      pub frame_asks : (scheme : ℕ) (string : List ℕ) → r.body ≡ asks scheme string
          → framed_by asked t list frame message ≡ in_frame r.first r.number frame (asked scheme string)
      frame_asks scheme string b = frame_passes passes ∙ rw (reads, b) refl

  -- ---- the frame opened

  module _ (requester : Msisdn) where
    abbrev it : Call
    it = framed requester message frame

    -- the request inside, bare, with a reply buffer of its own
    abbrev bare : Inside → Call
    bare i = request requester i.scheme i.string own_reply

    -- where it names a number, the request inside names it
    pub named_inside : (k : ℕ) → name_of list it ≡ some k → (i : Inside) × (inside_of message ≡ some i) × (name_of list (bare i) ≡ some k)
    named_inside k n = go refused (inside_of message) refl n
      where
        go : (b : Bool) (inside : Option Inside) → inside_of message ≡ inside → cond b none (inside >>= λ i. name_of list (bare i)) ≡ some k
            → (i : Inside) × (inside_of message ≡ some i) × (name_of list (bare i) ≡ some k)
        go true inside e n = not_some n
        go false none e n = not_some n
        go false (some i) e n = (i, e, n)

    module _ (delay : ℕ) where
      -- the same reply r over every sound state, which stays
      abbrev Always : Reply → (State → Reply × State) → Type 0
      Always r f = (t : State) → state_sound t ≡ true → f t ≡ (r, t)

      pub data Opened : Type 0 where
        -- refused by a check of the frame, or rejected: no outcome, and no number is named
        shut : (r : Reply) → is_of outcome_class r.answer ≡ false → (refused ≡ true) ⊎ (inside_of message ≡ none) → name_of list it ≡ none
            → Always r (call list delay it) → Always r (single list delay it) → Opened
        carries : (i : Inside) → inside_of message ≡ some i → refused ≡ false → Wraps list delay (enveloped i frame) it (bare i) → Opened

      opened_refused : refused ≡ true → Opened
      unfolding framed_request framed_once
      opened_refused h =
          shut _ (decide_each (λ a. is_of outcome_class a ≡ false) checks (refusal 11) (refl, (refl, (refl, (refl, (refl, tt))))) refl) (inl h) (rw h refl)
          (λ t sound. ap replied (frame_refuses _ t sound h)) (λ t sound. ap replied (frame_refuses _ t sound h))

      by_body : (r : Register) → register_of message ≡ some r → refused ≡ false → (body : Body) → r.body ≡ body → Opened
      unfolding framed_request framed_once
      by_body r e h (wrong problem) b =
          shut (replied (releasing (reject problem) (beside [] []) r.first frame (components.reject r.number problem))).0 refl (inr (rw (e, b) refl)) (rw (h, e, b) refl)
          (λ t sound. ap replied (frame_rejects _ t sound r e h problem b)) (λ t sound. ap replied (frame_rejects _ t sound r e h problem b))
      by_body r e h (asks scheme string) b = carries i (rw (e, b) refl) h (record {
        outcomes = outcome_kept i frame;
        calls = λ t sound. ap replied (frame_asks _ t sound r e h scheme string b) ∙ in_envelope i frame (requesting t list own_reply requester scheme string);
        singles = λ t sound. ap replied (frame_asks _ t sound r e h scheme string b) ∙ in_envelope i frame (requesting_once t list own_reply requester scheme string);
        name = rw (h, e, b) refl;
        read = rw (e, b) refl;
      })
        where
          i : Inside
          i = record { first = r.first; number = r.number; scheme = scheme; string = string }

      pub opened : Opened
      opened = go refused refl (register_of message) refl
        where
          go : (b : Bool) → refused ≡ b → (read : Option Register) → register_of message ≡ read → Opened
          go true h read e = opened_refused h
          go false h none e = no_path (sym (all_pass checks h).1.0 ∙ ap is_none e)
          go false h (some r) e = by_body r e h r.body refl
