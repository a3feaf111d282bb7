-- The string inside a Register by its place in the message, the answer in its frame, and the framed request at each of its checks. Assumes nothing.
use mathlib.Core.Path.{◌≡◌, refl, sym, ap, ◌∙◌}
use mathlib.Core.Bool.{true, false}
use mathlib.Core.Option.{some}
use mathlib.Core.List.{List, []}
use Prim.Native.Nat.{ℕ, ◌-◌, ◌≤◌, ◌<◌}
use native.Mathlib.Omega.{arith}
use lib.ListN.{length, take, drop}
use lib.Dec.{leb}
use borrow.Author.Tests.{leb-true, le-leb, le-ltb}
use Rattle.answers.specs.Writing.{Stands}
use Rattle.answers.proofs.Tests.{and_left, and_right, and_both}
use Rattle.numbers.specs.declared.Msisdn.{Msisdn}
use Rattle.std.specs.Prelude.{Result, Ok, Err}
use Rattle.answers.specs.declared.Refusal.{Refusal}
use Rattle.answers.specs.Numbers.{refusal_number}
use Rattle.frames.specs.declared.Asked.{Asked}
use Rattle.frames.specs.declared.Register as read
use Rattle.frames.specs.Components as components
use Rattle.frames.specs.Components.{Component, most_result_octets}
use Rattle.frames.specs.Messages.{frame_room, version, Register, register_of, release, inverted}
use Rattle.frames.specs.Read.{last_of, told_body, or_unread, told_register}
use Rattle.frames.proofs.Inside.{unread_err, register_so, asks_so, count_within, register_count, register_place}
use Rattle.rules.specs.Answers.{Answer, refusal, error, outcome, holder_is, return_error, reject, sent_to, delivered, dropped, again, found, none_due, ask_network, routed_to, Outcome, made, most_reply_octets, numbers_of}
use Rattle.rules.proofs.Short.{request_short}
use Rattle.rules.proofs.Framed.{framed_short, framed_unread, framed_unlisted, framed_rejected, framed_bare}
use Rattle.rules.specs.Crews.{requesting}
use Rattle.tables.specs.Tables.{list_sound}
use Rattle.states.specs.States.{State, beside, state_sound, refusal_of, said_check}
use Rattle.states.proofs.States.{check_refuses}
use Rattle.rules.specs.Frames.{releasing, answered_in, in_frame, own_reply, framed_request}
use Rattle.rules.specs.Calls.{Reply}
use Rattle.exchange.specs.Said.{string_fits}

-- ---- an answer in its frame

pub stands_released : (answer : ℕ → Answer) (t : State) (frame : List ℕ) (first : ℕ) (c : Component) (n : ℕ) (new : List ℕ) → Stands (release (inverted first) c) frame n new
    → made (answer n) t new ≡ releasing answer t first frame c
stands_released answer t frame first c n new s = rw (s.buffer, s.count) refl

-- the answer in its frame does not look at the state
in_state : (first number : ℕ) (frame : List ℕ) (t : State) (reply : List ℕ) (a : Answer) {b : Answer} {new : List ℕ} → made b (beside [] []) new ≡ answered_in first number frame (beside [] []) reply a
    → made b t new ≡ answered_in first number frame t reply a
in_state first number frame t reply a {b} {new} e = ap (λ (o : Outcome). made o.answer t o.buffer) e ∙ go a
  where
    Same : Answer → Type 0
    Same a = made (answered_in first number frame (beside [] []) reply a).answer t (answered_in first number frame (beside [] []) reply a).buffer ≡ answered_in first number frame t reply a

    go : (a : Answer) → Same a
    go (refusal n) = refl
    go (error n) = refl
    go (outcome n octets) = refl
    go (holder_is msisdn octets) = refl
    go (return_error n octets) = refl
    go (reject n octets) = refl
    go (sent_to addressee octets) = refl
    go delivered = refl
    go dropped = refl
    go again = refl
    go (found functional) = refl
    go none_due = refl
    go (ask_network code) = refl
    go (routed_to msisdn subaddress) = refl

-- what was asked inside, with its answer in the frame
pub answered_inside : (first number : ℕ) (frame : List ℕ) (asked : Outcome) (said b : Answer) (t : State) (reply new : List ℕ) → made said t reply ≡ asked
    → made b (beside [] []) new ≡ answered_in first number frame (beside [] []) reply said → made b t new ≡ in_frame first number frame asked
answered_inside first number frame asked said b t reply new e f = in_state first number frame t reply said f ∙ ap (in_frame first number frame) e

-- a reply's string stands in it, and in a result
pub reply_fits : (state : State) (list reply : List ℕ) (requester : Msisdn) (scheme : ℕ) (string : List ℕ) (a : Answer) (t : State) (new : List ℕ)
    → made a t new ≡ requesting state list reply requester scheme string → most_reply_octets ≤ length new → string_fits a (length new) ≡ true
reply_fits state list reply requester scheme string a t new e room =
    let short = ap (λ (o : Outcome). (numbers_of o.answer).count) e in
    let most = request_short state list reply requester scheme string in
    and_both (leb (numbers_of a).count (length new)) (leb (numbers_of a).count most_result_octets) (le-leb (numbers_of a).count (length new) (omega (arith, short, most)))
    (le-leb (numbers_of a).count most_result_octets (omega (arith, short, most)))

module _ (a : Answer) (room : ℕ) (fits : string_fits a room ≡ true) where
  pub fits_reply : (numbers_of a).count ≤ room
  fits_reply = leb-true _ _ (and_left (leb (numbers_of a).count room) (leb (numbers_of a).count most_result_octets) fits)

  pub fits_result : (numbers_of a).count ≤ most_result_octets
  fits_result = leb-true _ _ (and_right (leb (numbers_of a).count room) (leb (numbers_of a).count most_result_octets) fits)

-- ---- the string inside, by its place

module _ (m : List ℕ) {r : Result read.Register Refusal} (told : told_register r m ≡ or_unread (register_of m)) (v : read.Register) (e : r ≡ Ok v) where
  abbrev before_version : List ℕ
  before_version = take (length m - length version) m

  pub was_numbered : register_of m ≡ some (record { first = v.first; number = v.number; body = told_body v.body before_version })
  was_numbered = sym (register_so m told v e)

  module _ (a : Asked) (b : v.body ≡ Ok a) where
    pub string_place : take (length m - length version - (length m - length version - a.count)) (drop (length m - length version - a.count) m) ≡ last_of a.count before_version
    string_place =
        let end = length m - length version in
        let back : end - (end - a.count) ≡ a.count = omega (arith, count_within m told v e a b) in
        let x = last_of a.count before_version in
        let n : length x ≡ a.count = register_count m told v e a b in
        rw back (rw n at (register_place m v.first v.number a.scheme x (sym (asks_so m told v e a b))))

-- ---- the framed request at each of its checks: what the call gives, as one outcome

outcome_of : Reply × State → Outcome
outcome_of p = made p.0.answer p.1 p.0.buffer

module _ (state : State) (list frame : List ℕ) (requester : Msisdn) (message : List ℕ) where
  abbrev whole : Outcome
  whole = framed_request state list frame requester message

  pub refused_1 : length frame < frame_room → made (refusal 1) state frame ≡ whole
  unfolding outcome_of
  refused_1 short = sym (ap outcome_of (framed_short list 0 requester message frame state short))

  module _ (room : frame_room ≤ length frame) where
    pub refused_11 :
        {a : Result read.Register Refusal} (r : Refusal) → told_register a message ≡ or_unread (register_of message) → a ≡ Err r
        → made (refusal (refusal_number r)) state frame ≡ whole
    unfolding outcome_of
    refused_11 r told is =
        let e = unread_err (register_of message) (rw is at told) in
        rw e.1 (sym (ap outcome_of (framed_unread list 0 requester message frame state room e.0)))

    module _ (r : Register) (reads : register_of message ≡ some r) where
      pub refused_8 : list_sound list ≡ false → made (refusal 8) state frame ≡ whole
      unfolding outcome_of
      refused_8 unlisted = sym (ap outcome_of (framed_unlisted list 0 requester message frame state room r reads unlisted))

      module _ (listed : list_sound list ≡ true) where
        pub refused_state :
            {a : Result Unit Refusal} (r : Refusal) → said_check a ≡ refusal_of state → a ≡ Err r → made (refusal (refusal_number r)) state frame ≡ whole
        unfolding framed_request
        refused_state {a} r said is = rw (le-ltb (length frame) frame_room room, reads, listed) (check_refuses state a said (λ m. made (refusal m) state frame) _ r is)

        module _ (sound : state_sound state ≡ true) where
          pub rejected : (problem n : ℕ) (new : List ℕ) → r.body ≡ components.wrong problem
              → Stands (release (inverted r.first) (components.reject r.number problem)) frame n new → made (reject problem n) state new ≡ whole
          unfolding outcome_of
          rejected problem n new wrong stands =
              stands_released (reject problem) state frame r.first (components.reject r.number problem) n new stands
              ∙ sym (ap outcome_of (framed_rejected list 0 requester message frame state room r reads listed sound problem wrong))

          pub asked : (scheme : ℕ) (string : List ℕ) → r.body ≡ components.asks scheme string
              → in_frame r.first r.number frame (requesting state list own_reply requester scheme string) ≡ whole
          asked scheme string asks = sym (framed_bare list 0 requester message frame state room r reads listed sound scheme string asks own_reply (omega arith))
