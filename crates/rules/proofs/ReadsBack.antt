-- What the framed request writes, the reader of Release Completes reads as what it is. Assumes nothing.
use mathlib.Core.Path.{◌≡◌, refl, sym, ap, ◌∙◌}
use mathlib.Core.Bool.{true}
use mathlib.Core.Option.{some}
use mathlib.Core.List.{List}
use Prim.Native.Nat.{ℕ, ◌≤◌}
use native.Mathlib.Omega.{arith}
use lib.ListN.{length, take, drop}
use lib.Seq.{take_at}
use lib.Dec.{eqb}
use borrow.Author.Tests.{le-leb}
use Rattle.numbers.specs.declared.Msisdn.{Msisdn}
use Rattle.frames.specs.Components.{Component, wrong, asks, most_result_octets, readable_answer}
use Rattle.frames.specs.Components as components
use Rattle.frames.specs.Messages.{frame_room, protocol, first_octet, inverted, Register, register_of, release_of}
use Rattle.frames.proofs.Flags.{half_kept}
use Rattle.frames.proofs.Exact.{number_only, release_back_lem}
use Rattle.tables.specs.Tables.{list_sound}
use Rattle.states.specs.States.{State, state_sound}
use Rattle.rules.specs.Answers.{Answer, outcome, holder_is, return_error, reject, numbers_of, buffer_room}
use Rattle.rules.specs.Frames.{answer_to}
use Rattle.rules.specs.Calls.{framed, Reply, call}
use Rattle.rules.specs.Framed.{given_back, back_to, bare_got, string_got, ReadsBack}
use Rattle.rules.proofs.Short.{take_most, request_short}
use Rattle.rules.proofs.Framed.{framed_rejected, as_bare}

-- the first octet of an answer begins a message too
inverted_begins : (f : ℕ) → first_octet f ≡ true → first_octet (inverted f) ≡ true
inverted_begins f h = ap (λ (n : ℕ). eqb n protocol) (half_kept f) ∙ h

module _ (frame message : List ℕ) (r : Register) (reads : register_of message ≡ some r) where
  -- the octets that an answer counts
  abbrev counted : Reply → List ℕ
  counted g = take (numbers_of g.answer).count g.buffer

  back : (answer : ℕ → Answer) (c : Component) → readable_answer c ≡ true → (g : Reply) → g ≡ given_back r frame answer c
      → (numbers_of (answer (length (answer_to r.first c)))).count ≡ length (answer_to r.first c) → release_of (counted g) ≡ back_to r c
  back answer c readable g e count =
      ap (λ x. release_of (counted x)) e
      ∙ release_back_lem _ _ (
        take_at (answer_to r.first c) (drop (length (answer_to r.first c)) frame) _ (sym count),
        inverted_begins r.first (number_only message r reads).begun,
        readable,
      )

module _ (list : List ℕ) (delay : ℕ) (requester : Msisdn) (message frame : List ℕ) (state : State) (room : frame_room ≤ length frame) (r : Register)
    (reads : register_of message ≡ some r) (listed : list_sound list ≡ true) (sound : state_sound state ≡ true) where
  pub rejected_reads : (problem : ℕ) → r.body ≡ wrong problem
      → release_of (counted frame message r reads (call list delay (framed requester message frame) state).0) ≡ back_to r (components.reject r.number problem)
  rejected_reads problem b =
      back frame message r reads (reject problem) (components.reject r.number problem) refl _
      (ap (λ x. x.0) (framed_rejected list delay requester message frame state room r reads listed sound problem b)) refl

  module _ (scheme : ℕ) (string : List ℕ) (body : r.body ≡ asks scheme string) (reply : List ℕ) (enough : buffer_room ≤ length reply) where
    abbrev string_of_lem : ℕ → List ℕ
    string_of_lem octets = string_got list delay requester message frame r scheme string reply state octets

    abbrev bare : Answer
    bare = (bare_got list delay requester message frame r scheme string reply state).0.answer

    short : (octets : ℕ) → (numbers_of bare).count ≡ octets → readable_answer (components.result r.number (string_of_lem octets)) ≡ true
    short octets e =
        le-leb (length (string_of_lem octets)) most_result_octets (omega (arith, e, request_short state list reply requester scheme string, take_most octets (bare_got list delay requester message frame r scheme string reply state).0.buffer))

    pub reads_back : ReadsBack list delay requester message frame r scheme string reply state
    reads_back = let told = as_bare list delay requester message frame state room r reads listed sound scheme string body reply enough in record {
      outcome_reads = λ n octets e. back frame message r reads (outcome n) _ (short octets (ap (λ a. (numbers_of a).count) e)) _ (told.outcome_framed n octets e) refl;
      holder_reads = λ msisdn octets e. back frame message r reads (holder_is msisdn) _ (short octets (ap (λ a. (numbers_of a).count) e)) _ (told.holder_framed msisdn octets e) refl;
      error_reads = λ n e. back frame message r reads (return_error n) (components.error r.number n) refl _ (told.error_framed n e) refl;
    }
