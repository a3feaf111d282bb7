-- A reply has at most 25 octets, the reply to a crew of ten; a frame that the framed request writes has at most 46. Assumes nothing.
use mathlib.Core.Bool.{Bool, true, false, cond}
use mathlib.Core.Option.{Option, none, some}
use mathlib.Core.List.{List, [], ◌∷◌, ◌++◌}
use Prim.Native.Nat.{ℕ, zero, suc, ◌+◌, ◌/◌, ◌%◌, ◌≤◌, zero-le}
use native.Mathlib.Omega.{arith}
use lib.ListN.{length, take, length-append}
use lib.Dec.{ltb}
use Rattle.answers.proofs.Decide.{decide_each}
use Rattle.packing.specs.Packing.{octets_for}
use Rattle.packing.proofs.Laws.{length_packed}
use Rattle.numbers.specs.Numbers.{digits_up_to, digits_of, two_digits}
use Rattle.numbers.specs.declared.Msisdn.{Msisdn}
use Rattle.frames.specs.Components.{Body, wrong, asks}
use Rattle.frames.specs.Components as components
use Rattle.frames.specs.Messages.{Register, register_of, release, inverted}
use Rattle.frames.proofs.Lengths.{release_length, result_length, error_length, reject_length}
use Rattle.tables.specs.Tables.{table_sound}
use Rattle.states.specs.States.{State, figures_right}
use Rattle.rules.specs.Answers.{Answer, refusal, error, outcome, holder_is, return_error, reject, sent_to, delivered, dropped, again, found, none_due, ask_network, routed_to, numbers_of, Outcome, most_reply_octets, holder_text, octet_count, refusing}
use Rattle.rules.specs.Crews.{crew_number, crew_reply, requesting}
use Rattle.rules.specs.Frames.{framed_checks, answered_in, own_reply, bodied, registered, framed_request}
use Rattle.rules.proofs.Tallied.{reply_short}
use Rattle.rules.proofs.Each.{request_each}

-- the digits of any word
pub digits_short : (room w : ℕ) → length (digits_up_to room w) ≤ room
unfolding digits_up_to
digits_short zero w = zero-le
digits_short (suc room) w = go (ltb w 10) (digits_short room (w / 10))
  where
    go : (b : Bool) → length (digits_up_to room (w / 10)) ≤ room → length (cond b [] (digits_up_to room (w / 10) ++ ((48 + w % 10) ∷ []))) ≤ suc room
    go true h = zero-le
    go false h = omega (arith, length-append (digits_up_to room (w / 10)) ((48 + w % 10) ∷ []))

text_short : (text : List ℕ) → length text ≤ 28 → octet_count text ≤ most_reply_octets
unfolding octets_for
text_short text h = omega (arith, length_packed text)

held_short : (w : ℕ) → octet_count (holder_text w) ≤ most_reply_octets
unfolding digits_of
held_short w = text_short (holder_text w) (omega (arith, digits_short 15 w))

abbrev Short : Outcome → Type 0
Short o = (numbers_of o.answer).count ≤ most_reply_octets

pub request_short : (state : State) (list reply : List ℕ) (requester : Msisdn) (scheme : ℕ) (string : List ℕ) → Short (requesting state list reply requester scheme string)
request_short state list reply =
    request_each state reply Short (λ n. zero-le) (λ n. zero-le) (λ n l e. text_short (two_digits n) (omega arith)) (λ new. text_short (two_digits 1) (omega arith))
    (λ new. text_short (two_digits 2) (omega arith)) held_short (λ o w tallied. text_short (crew_reply (crew_number o) w) (reply_short (crew_number o) w tallied)) list

-- ---- a frame that the framed request writes has at most 46 octets: 21 and the longest reply

abbrev pub most_frame : ℕ
most_frame = 46

abbrev FrameShort : Outcome → Type 0
FrameShort o = (numbers_of o.answer).count ≤ most_frame

pub take_most : (n : ℕ) (l : List ℕ) → length (take n l) ≤ n
take_most zero l = zero-le
take_most (suc n) [] = zero-le
take_most (suc n) (x ∷ l) = omega (arith, take_most n l)

module _ (first number : ℕ) (frame : List ℕ) (state : State) (reply : List ℕ) where
  result_short : (octets : ℕ) → octets ≤ most_reply_octets → length (release (inverted first) (components.result number (take octets reply))) ≤ most_frame
  result_short octets h =
      let short = take_most octets reply in
      omega (arith, h, short, release_length (inverted first) (components.result number (take octets reply)), result_length number (take octets reply) (omega (arith, h, short)))

  answered_short : (a : Answer) → (numbers_of a).count ≤ most_reply_octets → FrameShort (answered_in first number frame state reply a)
  answered_short (outcome n octets) h = result_short octets h
  answered_short (holder_is msisdn octets) h = result_short octets h
  answered_short (error n) h = omega (arith, release_length (inverted first) (components.error number n), error_length number n)
  answered_short (refusal n) h = zero-le
  answered_short (return_error n octets) h = omega (arith, h)
  answered_short (reject n octets) h = omega (arith, h)
  answered_short (sent_to addressee octets) h = omega (arith, h)
  answered_short delivered h = zero-le
  answered_short dropped h = zero-le
  answered_short again h = zero-le
  answered_short (found functional) h = zero-le
  answered_short none_due h = zero-le
  answered_short (ask_network code) h = zero-le
  answered_short (routed_to msisdn subaddress) h = omega (arith, h)

module _ (state : State) (list frame : List ℕ) (requester : Msisdn) (message : List ℕ) where
  body_short : (first number : ℕ) (b : Body) → FrameShort (bodied (requesting state list own_reply requester) state frame first number b)
  body_short first number (wrong problem) = omega (arith, release_length (inverted first) (components.reject number problem), reject_length number problem)
  body_short first number (asks scheme string) =
      let o = requesting state list own_reply requester scheme string in
      answered_short first number frame o.state o.buffer o.answer (request_short state list own_reply requester scheme string)

  registered_short : (r : Option Register) → FrameShort (registered (requesting state list own_reply requester) state frame r)
  registered_short none = zero-le
  registered_short (some r) = body_short r.first r.number r.body

  pub frame_short : FrameShort (framed_request state list frame requester message)
  unfolding framed_request
  frame_short =
      decide_each FrameShort (refusing state frame (framed_checks (table_sound state.table) (figures_right state) list frame message)) _ (zero-le, (zero-le, (zero-le, (zero-le, (zero-le, tt)))))
      (registered_short (register_of message))
