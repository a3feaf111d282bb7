-- Document 02, M-108: "forced erasures answered 02 where supervisor and holder differ equal notices delivered, plus notices dropped by kinds 1 to 4, plus notices dropped after the last sending, plus notices pending". Assumes nothing.
use Rattle.std.specs.Prelude.{◌≡◌, Bool, true, false, not, ◌&&◌, List, [], ◌∷◌, ℕ, zero, suc, ◌+◌, ◌<◌, length, take, get_or, eqb, ltb, leb}
use Rattle.std.proofs.Math.Option.{Option, none, some}
use Rattle.std.proofs.Math.ListN.{get_elem?}
use Rattle.numbers.specs.Numbers.{nobody}
use Rattle.numbers.specs.declared.FunctionalNumber.{FunctionalNumber}
use Rattle.numbers.specs.declared.Msisdn.{Msisdn}
use Rattle.strings.specs.declared.Erasing.{Erasing}
use Rattle.strings.specs.declared.Erasing.TheVariants.{Empty, Forced}
use Rattle.strings.specs.Text.{Request}
use Rattle.records.specs.declared.Record.{Record}
use Rattle.records.specs.Steps.{same, is_absent, sendings_done, most_sendings, last_kind}
use Rattle.rows.specs.Rows.{number_at, one}
use Rattle.tables.specs.Tables.{rows_in}
use Rattle.tables.specs.Figures.{how_many, has_notice_at}
use Rattle.states.specs.States.{State, record_for}
use Rattle.rules.specs.Answers.{delivered_number, dropped_number, is_outcome, is_result, is_sent}
use Rattle.rules.specs.Run.{only, last, end, log}
use Rattle.rules.specs.Calls.{Call, request, framed, sending, result, terminal, routes, Reply, call, read_of, names_one}
use Rattle.rules.specs.Demand.{holder_of, got_by}
use Rattle.rules.specs.Entries.{holds_at, Between}
use Rattle.promises.specs.Pending.{notice_for, sending_done, notice_cleared}
use Rattle.promises.specs.Users.{asker_of, telling}

-- ---- what is counted: entries of a log, a call with what it got

-- "where supervisor and holder differ": the erasure's holder is the MSISDN that it names
abbrev pub names_another : Msisdn → Erasing → Bool
names_another supervisor Empty = false
names_another supervisor (Forced holder) = not (same holder supervisor)

abbrev pub forces_another : Msisdn → Option Request → Bool
forces_another supervisor none = false
forces_another supervisor (some f) = names_another supervisor f.erasing

-- a forced erasure of another's number, framed or not; M-111: the terminal's is counted "always"
abbrev pub forces_off : Call → Bool
forces_off (request requester scheme string reply) = forces_another requester (read_of (request requester scheme string reply))
forces_off (framed requester message frame) = forces_another requester (read_of (framed requester message frame))
forces_off (sending now number buffer) = false
forces_off (result now number kind) = false
forces_off (terminal number holder reply) = true
forces_off (routes home coded asked) = false

-- "forced erasures answered 02 where supervisor and holder differ"
abbrev pub makes_notice : Call × Reply → Bool
makes_notice entry = forces_off entry.0 && is_outcome 2 entry.1.answer

-- the call is a result of such a kind
abbrev pub has_kind : (ℕ → Bool) → Call → Bool
has_kind test (request requester scheme string reply) = false
has_kind test (framed requester message frame) = false
has_kind test (sending now number buffer) = false
has_kind test (result now number kind) = test kind
has_kind test (terminal number holder reply) = false
has_kind test (routes home coded asked) = false

-- a result of such a kind that returned the number n
abbrev pub returns : ℕ → (ℕ → Bool) → Call × Reply → Bool
returns n test entry = has_kind test entry.0 && is_result n entry.1.answer

abbrev pub is_zero : ℕ → Bool
is_zero kind = eqb kind 0

abbrev pub is_one_to_four : ℕ → Bool
is_one_to_four kind = leb 1 kind && ltb kind last_kind

abbrev pub is_five : ℕ → Bool
is_five kind = eqb kind last_kind

-- "notices delivered", by kind 0
abbrev pub is_delivery : Call × Reply → Bool
is_delivery entry = returns delivered_number is_zero entry

-- "notices dropped by kinds 1 to 4"
abbrev pub is_dropped_by_kind : Call × Reply → Bool
is_dropped_by_kind entry = returns dropped_number is_one_to_four entry

-- "notices dropped after the last sending", by kind 5
abbrev pub is_dropped_last : Call × Reply → Bool
is_dropped_last entry = returns dropped_number is_five entry

-- the entry names k and passes the test
abbrev pub of_number : List ℕ → ℕ → (Call × Reply → Bool) → Call × Reply → Bool
of_number list k test entry = names_one list entry.0 k && test entry

-- ---- the five counts, four of them "counted from the calls and answers"

abbrev pub how_often : (Call × Reply → Bool) → List (Call × Reply) → ℕ
how_often test entries = length (only test entries)

abbrev pub erasures : List (Call × Reply) → ℕ
erasures entries = how_often makes_notice entries

abbrev pub deliveries : List (Call × Reply) → ℕ
deliveries entries = how_often is_delivery entries

abbrev pub dropped_by_kind : List (Call × Reply) → ℕ
dropped_by_kind entries = how_often is_dropped_by_kind entries

abbrev pub dropped_last : List (Call × Reply) → ℕ
dropped_last entries = how_often is_dropped_last entries

-- the notices that ended
abbrev pub endings : List (Call × Reply) → ℕ
endings entries = deliveries entries + dropped_by_kind entries + dropped_last entries

-- "the last from the table": of one number, and of all rows
abbrev pub pending_for : State → ℕ → ℕ
pending_for state k = one (not (is_absent (notice_for state k)))

abbrev pub pending_in : State → ℕ
pending_in state = how_many (has_notice_at state.table) (rows_in state.table)

-- the equation: the notices pending before count as erasures of their addressees
abbrev pub Balanced : List (Call × Reply) → ℕ → ℕ → Type 0
Balanced entries before after = erasures entries + before ≡ endings entries + after

-- ---- a table's numbers together

abbrev pub sum_to : (ℕ → ℕ) → ℕ → ℕ
sum_to f zero = 0
sum_to f (suc n) = sum_to f n + f n

-- the sum over all numbers of the table
abbrev pub over_numbers : State → (ℕ → ℕ) → ℕ
over_numbers state f = sum_to (λ i. f (number_at state.table i)) (rows_in state.table)

-- M-103: "notices waiting and notices in flight", as the start page has them
abbrev pub waiting_figure : State → ℕ
waiting_figure state = get_or state.figures 1 0

abbrev pub in_flight_figure : State → ℕ
in_flight_figure state = get_or state.figures 2 0

-- ---- whom a sending tells

-- the holder who is to be told, and the supervisor whom the notice names
pub record Notified : Type 0 where
  pub holder : Msisdn
  pub supervisor : Msisdn

abbrev pub named_in : Erasing → Msisdn
named_in Empty = nobody
named_in (Forced holder) = holder

abbrev pub holder_named : Option Request → Msisdn
holder_named none = nobody
holder_named (some f) = named_in f.erasing

-- the holder whom a call names: in its string, or at the terminal
abbrev pub holder_named_by : Call → Msisdn
holder_named_by (request requester scheme string reply) = holder_named (read_of (request requester scheme string reply))
holder_named_by (framed requester message frame) = holder_named (read_of (framed requester message frame))
holder_named_by (sending now number buffer) = nobody
holder_named_by (result now number kind) = nobody
holder_named_by (terminal number holder reply) = holder
holder_named_by (routes home coded asked) = nobody

-- by an erasure: the MSISDN that it names, and who asks for it; at the terminal, nobody
abbrev pub notified_by : Call × Reply → Notified
notified_by entry = record { holder = holder_named_by entry.0; supervisor = asker_of entry.0 }

-- by the starting table: the notice's addressee and supervisor
abbrev pub notified_in : Option Record → Notified
notified_in none = record { holder = nobody; supervisor = nobody }
notified_in (some r) = record { holder = r.addressee; supervisor = r.supervisor }

-- by the last erasure, or as it was before
abbrev pub notified_after : Option (Call × Reply) → Notified → Notified
notified_after none before = before
notified_after (some entry) before = notified_by entry

-- what is proved of every list of calls, accepted and refused: requests (bare, framed, crews), sendings, results, erasures at the terminal and routings, with one list and one delay, from a sound table with right figures; the equations from any table
module _ (list : List ℕ) (delay : ℕ) (calls : List Call) (state : State) where
  abbrev got : List (Call × Reply)
  got = log (call list delay) calls state

  abbrev after : State
  after = end (call list delay) calls state

  pub record Accounted : Type 0 where
    -- for every number by itself; a crew's request stands under its lead number, and counts nothing
    pub each_number : (k : ℕ) → Balanced (got_by list k got) (pending_for state k) (pending_for after k)
    -- and for all calls and the whole table
    pub all_numbers : Balanced got (pending_in state) (pending_in after)
    -- each count is its sum over all numbers of the table: no entry is counted for two numbers, and none for a number that is not there
    pub erasures_sum : erasures got ≡ over_numbers state (λ k. erasures (got_by list k got))
    pub deliveries_sum : deliveries got ≡ over_numbers state (λ k. deliveries (got_by list k got))
    pub dropped_sum : dropped_by_kind got ≡ over_numbers state (λ k. dropped_by_kind (got_by list k got))
    pub last_sum : dropped_last got ≡ over_numbers state (λ k. dropped_last (got_by list k got))
    pub pending_sum : pending_in after ≡ over_numbers state (pending_for after)
    -- the notices pending are on the page
    pub on_the_page : pending_in after ≡ waiting_figure after + in_flight_figure after
    -- "Each sending goes to the holder at that erasure": the last one of that number before it that made a notice, or the addressee in the starting table; its octets name that number and that erasure's supervisor
    pub sent_to_lem :
        (i now : ℕ) (number : FunctionalNumber) (buffer : List ℕ) (a : Reply) → get_elem? got i ≡ some (sending now number buffer, a)
        → is_sent a.answer ≡ true
        → let n = notified_after (last (only makes_notice (got_by list number.0 (take i got)))) (notified_in (record_for state number.0)) in
        a ≡ telling number n.holder n.supervisor buffer
    -- between an erasure that made a notice of a number and the next one stands the result that ended it; so it does before the first, for a notice in the starting table
    pub ended_between : (k i j : ℕ) → i < j → holds_at (of_number list k makes_notice) got i ≡ true → holds_at (of_number list k makes_notice) got j ≡ true → Between (notice_cleared k) got i j
    pub ended_before : (k j : ℕ) → pending_for state k ≡ 1 → holds_at (of_number list k makes_notice) got j ≡ true → (i : ℕ) × (i < j) × (holds_at (notice_cleared k) got i ≡ true)

-- of one call over a sound state: it counts as an erasure exactly if it made a notice of k, and in one of the three other classes exactly if it ended one
module _ (list : List ℕ) (delay : ℕ) (c : Call) (state : State) (k : ℕ) where
  abbrev its : List (Call × Reply)
  its = got_by list k ((c, (call list delay c state).0) ∷ [])

  abbrev left : State
  left = (call list delay c state).1

  pub record CountedOnce : Type 0 where
    pub made : erasures its ≡ one (is_absent (notice_for state k) && not (is_absent (notice_for left k)))
    -- the MSISDN that it then names is "the holder at that erasure"
    pub holder : erasures its ≡ 1 → holder_of state k ≡ (holder_named_by c).0
    pub ended : endings its ≡ one (not (is_absent (notice_for state k)) && is_absent (notice_for left k))
    -- "dropped after the last sending": the most sendings were done
    pub last : dropped_last its ≡ 1 → sendings_done (notice_for state k) ≡ most_sendings
    -- a sending that succeeds finds a notice pending
    pub sent : sending_done k (c, (call list delay c state).0) ≡ true → is_absent (notice_for state k) ≡ false
