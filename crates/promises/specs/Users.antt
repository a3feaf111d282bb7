-- What the users' theorems speak of: the erasures that may end a hold, the registration that begins one, what a sending tells, and a request that no refusal and no error stops. Assumes nothing.
use Rattle.std.specs.Prelude.{ℕ, ◌≤◌, ◌≡◌, Bool, true, false, ◌&&◌, ◌||◌, List, length, eqb}
use Rattle.std.proofs.Math.Option.{Option, none, some}
use Rattle.std.proofs.Math.ListN.{get_elem?}
use Rattle.numbers.specs.Numbers.{is_number}
use Rattle.numbers.specs.declared.FunctionalNumber.{FunctionalNumber}
use Rattle.numbers.specs.declared.Msisdn.{Msisdn}
use Rattle.strings.specs.declared.Erasing.{Erasing}
use Rattle.strings.specs.declared.Erasing.TheVariants.{Empty, Forced}
use Rattle.strings.specs.Text.{Request, coding_scheme}
use Rattle.strings.specs.Notices.{notice_text, notice_fields}
use Rattle.strings.specs.Outcomes.{request_of}
use Rattle.records.specs.Steps.{same, is_own}
use Rattle.tables.specs.Tables.{list_sound, flags_of}
use Rattle.states.specs.States.{State, record_for}
use Rattle.rules.specs.Answers.{sent_to, is_outcome, buffer_room, packed_over, octet_count}
use Rattle.rules.specs.Requests.{has_follow_me, is_erase, no_notice, most_string_octets}
use Rattle.rules.specs.Calls.{Call, request, framed, sending, result, terminal, routes, Reply, read_of, names_one}
use Rattle.rules.specs.Demand.{registers, requester_of, holder_of}

-- ---- the driver

-- flags 3: "1 has Follow Me, 2 supervisor"
abbrev pub both_flags : ℕ
both_flags = 3

-- who asks: a call's requester
abbrev pub asker_of : Call → Msisdn
asker_of c = record { 0 = requester_of c }

-- an erasure that may end the hold of h: plain, by h, or (M-105) by the number's own subscriber, listed with flag 1; or forced, naming h exactly, by h herself or by a requester with flags 3 at phase 0
abbrev pub erases_hold : Msisdn → Bool → FunctionalNumber → Msisdn → ℕ → Erasing → Bool
erases_hold h phase0 number requester flags Empty = same requester h || (is_own number requester && has_follow_me flags)
erases_hold h phase0 number requester flags (Forced named) = same named h && (same requester h || (eqb flags both_flags && phase0))

abbrev pub erases_hold_in : Msisdn → Bool → Msisdn → ℕ → Option Request → Bool
erases_hold_in h phase0 requester flags none = false
erases_hold_in h phase0 requester flags (some f) = is_erase f.operation && erases_hold h phase0 f.number requester flags f.erasing

-- M-111: at the node's terminal, naming h exactly, at phase 0
abbrev pub clears_hold : Msisdn → Bool → Call → Bool
clears_hold h phase0 (request requester scheme string reply) = false
clears_hold h phase0 (framed requester message frame) = false
clears_hold h phase0 (sending now number buffer) = false
clears_hold h phase0 (result now number kind) = false
clears_hold h phase0 (terminal number holder reply) = same holder h && phase0
clears_hold h phase0 (routes home coded asked) = false

-- the call is a request, framed or not, whose string reads as such an erasure, or the terminal's
abbrev pub may_end_hold : List ℕ → Msisdn → Bool → Call → Bool
may_end_hold list h phase0 c = erases_hold_in h phase0 (asker_of c) (flags_of list (requester_of c)) (read_of c) || clears_hold h phase0 c

-- a sending or a result
abbrev pub is_of_notice : Call → Bool
is_of_notice (request requester scheme string reply) = false
is_of_notice (framed requester message frame) = false
is_of_notice (sending now number buffer) = true
is_of_notice (result now number kind) = true
is_of_notice (terminal number holder reply) = false
is_of_notice (routes home coded asked) = false

-- of a single call c over a state, that got the reply a and left the state `after`: it has ended h's hold of k
pub record HoldEnded (list : List ℕ) (h : Msisdn) (k : ℕ) (c : Call) (state : State) (a : Reply) (after : State) : Type 0 where
  pub named : names_one list c k ≡ true
  pub erasure : may_end_hold list h (no_notice (record_for state k)) c ≡ true
  pub answered : is_outcome 2 a.answer ≡ true
  pub nobody : holder_of after k ≡ 0

-- it has given k to its requester
pub record HoldBegun (list : List ℕ) (k : ℕ) (c : Call) (a : Reply) (after : State) : Type 0 where
  pub named : names_one list c k ≡ true
  pub registration : registers c ≡ true
  pub answered : is_outcome 1 a.answer ≡ true
  pub requester : holder_of after k ≡ requester_of c

-- an entry of a log that may have ended h's hold of k: it names k, is such an erasure, and was answered 02 (so at phase 0, where it has to be)
abbrev pub ends_hold : List ℕ → Msisdn → ℕ → Call × Reply → Bool
ends_hold list h k entry = names_one list entry.0 k && may_end_hold list h true entry.0 && is_outcome 2 entry.1.answer

-- an entry that may have begun m's hold of k: it names k, is a registration by m, and was answered 01
abbrev pub begins_hold : List ℕ → Msisdn → ℕ → Call × Reply → Bool
begins_hold list m k entry =
    names_one list entry.0 k && registers entry.0 && is_outcome 1 entry.1.answer && eqb (requester_of entry.0) m.0

-- an entry of a log that passes a test, and its place
pub record Stood (test : Call × Reply → Bool) (entries : List (Call × Reply)) : Type 0 where
  pub place : ℕ
  pub entry : Call × Reply
  pub stands : get_elem? entries place ≡ some entry
  pub passes : test entry ≡ true

-- ---- the controller

-- a request over a sound state that no refusal and no error stops: its string reads as f
pub record WellFormed (list : List ℕ) (requester : Msisdn) (scheme : ℕ) (string reply : List ℕ) (f : Request) : Type 0 where
  pub room : buffer_room ≤ length reply
  pub sound : list_sound list ≡ true
  pub requester_number : is_number requester.0 ≡ true
  pub coded : scheme ≡ coding_scheme
  pub least : 1 ≤ length string
  pub most : length string ≤ most_string_octets
  pub reads : request_of string ≡ some f

-- ---- the told

-- what a sending of the number gets where it tells h of s: h and the octet count, and the buffer with the text of the number and s; nobody is named where s is nobody (M-111)
abbrev pub telling : FunctionalNumber → Msisdn → Msisdn → List ℕ → Reply
telling number h s buffer =
    let text = notice_text (notice_fields number s) in
    record { answer = sent_to h.0 (octet_count text); buffer = packed_over text buffer }
