-- What happens to one number's record: "A call takes one number's record and gives the next record back". Each step is a list of checks in document 01's order, and the next record. Assumes nothing.
use Rattle.std.specs.Prelude.{ℕ, ◌+◌, ◌-◌, ◌%◌, ◌^◌, Bool, true, false, cond, not, ◌&&◌, ◌||◌, [], ◌∷◌, ◌==◌, nat_le, nat_lt}
use Rattle.answers.specs.Checks.{decide}
use Rattle.numbers.specs.Numbers.{nobody, is_nobody}
use Rattle.numbers.specs.declared.FunctionalNumber.{FunctionalNumber}
use Rattle.numbers.specs.declared.Msisdn.{Msisdn}
use Rattle.records.specs.declared.Notice.{Notice}
use Rattle.records.specs.declared.Notice.TheVariants.{Absent, Waiting, InFlight}
use Rattle.records.specs.declared.Record.{Record}
use Rattle.records.specs.Step.{Step}
use Rattle.records.specs.Step as step
use Rattle.records.specs.Holder.{Holder}
use Rattle.records.specs.Holder as holder
use Rattle.records.specs.Sending.{Sending}
use Rattle.records.specs.Sending as sending
use Rattle.records.specs.Resulted.{Resulted}
use Rattle.records.specs.Resulted.{Refused, Delivered, Dropped, Again}

-- ---- who holds the number

-- two MSISDNs with the same digits
abbrev pub same : Msisdn → Msisdn → Bool
same m n = m.0 == n.0

-- the record, held by m
abbrev pub held_by : Msisdn → Record → Record
held_by m r = record { holder = m; notice = r.notice; addressee = r.addressee; supervisor = r.supervisor; closed = r.closed }

-- ---- notices

-- M-102: "one sending and five repeats"
abbrev pub most_sendings : ℕ
most_sendings = 6

abbrev pub is_absent : Notice → Bool
is_absent Absent = true
is_absent (Waiting k s) = false
is_absent (InFlight k) = false

abbrev pub is_waiting : Notice → Bool
is_waiting Absent = false
is_waiting (Waiting k s) = true
is_waiting (InFlight k) = false

abbrev pub is_in_flight : Notice → Bool
is_in_flight Absent = false
is_in_flight (Waiting k s) = false
is_in_flight (InFlight k) = true

-- the sendings done
abbrev pub sendings_done : Notice → ℕ
sendings_done Absent = 0
sendings_done (Waiting k s) = k
sendings_done (InFlight k) = k

-- the record with another notice to the same addressee, from the same supervisor
abbrev pub with_notice : Notice → Record → Record
with_notice n r = record { holder = r.holder; notice = n; addressee = r.addressee; supervisor = r.supervisor; closed = r.closed }

-- the record with its notice cleared
abbrev pub cleared : Record → Record
cleared r = record { holder = r.holder; notice = Absent; addressee = nobody; supervisor = nobody; closed = r.closed }

-- the holder forced off by a supervisor (M-111: at the terminal, by nobody), with a notice to her: "the phase becomes 1 with addressee and supervisor set"
abbrev pub forced_off : Msisdn → Record → Record
forced_off supervisor r = record { holder = nobody; notice = Waiting 0 0; addressee = r.holder; supervisor = supervisor; closed = r.closed }

-- ---- requests

-- "requester and functional number have the same digits": she is the number's own subscriber
abbrev pub is_own : FunctionalNumber → Msisdn → Bool
is_own number requester = number.0 == requester.0

-- M-105: "The decision who may erase plainly" has two permitted cases: the holder, and the number's own subscriber
abbrev pub may_erase : FunctionalNumber → Msisdn → Msisdn → Bool
may_erase number requester holder = same holder requester || is_own number requester

-- 67: "registration where number and requester have the same digits"; M-110: 64 "for registering a closed number, another holder or not, directly after 67"; 61: "registration, another holder".
-- "registration answers 01 and the requester holds the number"
unfoldable pub registered : FunctionalNumber → Msisdn → Record → Step
registered number requester r =
    decide
    ((is_own number requester, step.Stays 67)
    ∷ (r.closed, step.Stays 64)
    ∷ (not (is_nobody r.holder) && not (same r.holder requester), step.Stays 61)
    ∷ [])
    (step.Becomes (held_by requester r))

-- 62: "erasure or interrogation, no holder"; 63: "erasure, holder is not the requester", unless it is M-105's second case. "Erasure answers 02 and nobody holds it"
unfoldable pub erased : FunctionalNumber → Msisdn → Record → Step
erased number requester r =
    decide ((is_nobody r.holder, step.Stays 62) ∷ (not (may_erase number requester r.holder), step.Stays 63) ∷ []) (step.Becomes (held_by nobody r))

-- 63: "forced, holder is not the MSISDN named"; 68: "forced, holder differs from the supervisor, phase is not 0".
-- "A forced erasure answers 02; if supervisor and holder differ, the phase becomes 1 with addressee and supervisor set"
unfoldable pub forced : Msisdn → Msisdn → Record → Step
forced supervisor named r =
    decide
    ((is_nobody r.holder, step.Stays 62)
    ∷ (not (same r.holder named), step.Stays 63)
    ∷ (not (same r.holder supervisor) && not (is_absent r.notice), step.Stays 68)
    ∷ [])
    (step.Becomes (cond (same r.holder supervisor) (held_by nobody r) (forced_off supervisor r)))

-- 62: "erasure or interrogation, no holder". "Interrogation answers 03", with the holder
unfoldable pub interrogated : Record → Holder
interrogated r = decide ((is_nobody r.holder, holder.Stays 62) ∷ []) (holder.Held r.holder)

-- ---- sendings and results

-- "The second counter has 32 bits and wraps. Elapsed is now minus the last failure, modulo 2^32"
unfoldable pub elapsed : ℕ → ℕ → ℕ
elapsed clock last = (clock + (2 ^ 32 - last)) % 2 ^ 32

-- "The delay is 60 to 600 seconds"
abbrev pub shortest_delay : ℕ
shortest_delay = 60

abbrev pub longest_delay : ℕ
longest_delay = 600

-- M-107: "Delay 0 now means 300 seconds"
abbrev pub usual_delay : ℕ
usual_delay = 300

unfoldable pub delay_of : ℕ → ℕ
delay_of delay = cond (delay == 0) usual_delay delay

unfoldable pub delay_allowed : ℕ → Bool
delay_allowed delay = nat_le shortest_delay (delay_of delay) && nat_le (delay_of delay) longest_delay

-- "Phase 1 is due at once; other odd phases are due when elapsed is at least the delay"
abbrev pub is_due : ℕ → ℕ → Notice → Bool
is_due delay clock Absent = false
is_due delay clock (Waiting k s) = k == 0 || nat_le (delay_of delay) (elapsed clock s)
is_due delay clock (InFlight k) = false

-- one more sending done: "the phase grows by 1, the last word becomes 0": word six, before M-110 the last
abbrev pub launched : Notice → Notice
launched Absent = Absent
launched (Waiting k s) = InFlight (k + 1)
launched (InFlight k) = InFlight k

-- "6 (delay), 4 (phase not odd), 5 (not due). Then the phase grows by 1"
unfoldable pub sent : ℕ → ℕ → Record → Sending
sent delay clock r =
    decide
    ((not (delay_allowed delay), sending.Refused 6)
    ∷ (not (is_waiting r.notice), sending.Refused 4)
    ∷ (not (is_due delay clock r.notice), sending.Refused 5)
    ∷ [])
    (sending.Launched (with_notice (launched r.notice) r))

-- "kind: 0 delivered, 1 … 4 …, 5 any other error"
abbrev pub last_kind : ℕ
last_kind = 5

-- "Kinds 0 to 4 clear the notice", M-102: "kind 5 clears at 12"; "otherwise the phase grows by 1 and the last word is now.
-- It returns delivered for kind 0, dropped where 1 to 5 clears, again otherwise"
unfoldable pub resulted : ℕ → ℕ → Record → Resulted
resulted kind clock r =
    decide
    ((nat_lt last_kind kind, Refused 3)
    ∷ (not (is_in_flight r.notice), Refused 4)
    ∷ ((kind == 0), Delivered (cleared r))
    ∷ (nat_lt kind last_kind, Dropped (cleared r))
    ∷ (nat_le most_sendings (sendings_done r.notice), Dropped (cleared r))
    ∷ [])
    (Again (with_notice (Waiting (sendings_done r.notice) clock) r))

-- ---- withdrawing a number, M-110

-- "Closing a number keeps its holder, forbids new registration, and lets erasure and notices run out"
abbrev pub closing : Record → Record
closing r = record { holder = r.holder; notice = r.notice; addressee = r.addressee; supervisor = r.supervisor; closed = true }

-- "Adding puts an open number without holder"
abbrev pub free_record : Record
free_record = record { holder = nobody; notice = Absent; addressee = nobody; supervisor = nobody; closed = false }

-- "Compacting removes closed rows with no holder and no notice"
unfoldable pub has_run_out : Record → Bool
has_run_out r = r.closed && (is_nobody r.holder && is_absent r.notice)
