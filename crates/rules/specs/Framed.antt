-- Document 02, M-101: what is proved of a framed request beside the bare one, which the same requester asks with the string inside and any reply buffer. Assumes nothing.
use Rattle.std.specs.Prelude.{◌≡◌, true, false, ◌||◌, List, ℕ, length, take}
use Rattle.std.proofs.Math.Option.{Option, some}
use Rattle.numbers.specs.declared.Msisdn.{Msisdn}
use Rattle.frames.specs.Components.{Component}
use Rattle.frames.specs.Components as components
use Rattle.frames.specs.Messages.{Register, inverted, Release, release_of}
use Rattle.states.specs.States.{State}
use Rattle.rules.specs.Answers.{Answer, error, outcome, holder_is, return_error, outcome_class, numbers_of, is_of, is_refusal, is_error}
use Rattle.rules.specs.Frames.{answer_to, released}
use Rattle.rules.specs.Calls.{request, framed, Reply, call}

-- what a caller gets with a Release Complete: the answer with its octet count, and the frame buffer
abbrev pub given_back : Register → List ℕ → (ℕ → Answer) → Component → Reply
given_back r frame answer c = record { answer = answer (length (answer_to r.first c)); buffer = released r.first frame c }

-- what it reads as: the first octet with its flag inverted, and the component
abbrev pub back_to : Register → Component → Option Release
back_to r c = some (record { first = inverted r.first; answer = c })

module _ (list : List ℕ) (delay : ℕ) (requester : Msisdn) (message frame : List ℕ) (r : Register) (scheme : ℕ) (string reply : List ℕ) (state : State) where
  abbrev pub bare_got : Reply × State
  bare_got = call list delay (request requester scheme string reply) state

  abbrev pub framed_got : Reply × State
  framed_got = call list delay (framed requester message frame) state

  -- an outcome's packed string: the first octets of the bare request's reply buffer
  abbrev pub string_got : ℕ → List ℕ
  string_got octets = take octets bare_got.0.buffer

  pub record AsBare : Type 0 where
    -- table and figures afterwards are the bare request's
    pub state_after : framed_got.1 ≡ bare_got.1
    -- the same outcome, its string in a Return Result; "The invoke number returns unchanged"
    pub outcome_framed :
        (n octets : ℕ) → bare_got.0.answer ≡ outcome n octets → framed_got.0 ≡ given_back r frame (outcome n) (components.result r.number (string_got octets))
    pub holder_framed :
        (msisdn octets : ℕ) → bare_got.0.answer ≡ holder_is msisdn octets
        → framed_got.0 ≡ given_back r frame (holder_is msisdn) (components.result r.number (string_got octets))
    -- an error in a Return Error
    pub error_framed : (n : ℕ) → bare_got.0.answer ≡ error n → framed_got.0 ≡ given_back r frame (return_error n) (components.error r.number n)
    -- the bare request has no other answer, and so the framed one is not refused
    pub answered : (is_of outcome_class bare_got.0.answer || is_error bare_got.0.answer) ≡ true
    pub unrefused : is_refusal framed_got.0.answer ≡ false

  -- what was written, by the answer's octet count
  abbrev pub framed_octets : List ℕ
  framed_octets = take (numbers_of framed_got.0.answer).count framed_got.0.buffer

  -- the reader of Release Completes reads it as what it is
  pub record ReadsBack : Type 0 where
    pub outcome_reads : (n octets : ℕ) → bare_got.0.answer ≡ outcome n octets → release_of framed_octets ≡ back_to r (components.result r.number (string_got octets))
    pub holder_reads : (msisdn octets : ℕ) → bare_got.0.answer ≡ holder_is msisdn octets → release_of framed_octets ≡ back_to r (components.result r.number (string_got octets))
    pub error_reads : (n : ℕ) → bare_got.0.answer ≡ error n → release_of framed_octets ≡ back_to r (components.error r.number n)
