-- Document 01, "Requests, in order of checks": the table's rows as a list of checks, in its order, and what is done where none holds. Assumes nothing.
use Rattle.std.specs.Prelude.{ℕ, ◌/◌, ◌%◌, Bool, true, false, cond, not, ◌&&◌, ◌||◌, List, [], ◌∷◌, map, length, eqb, ltb}
use Rattle.std.proofs.Math.Option.{Option, none, some}
use Rattle.answers.specs.Checks.{decide, is_none}
use Rattle.numbers.specs.Numbers.{is_number, two_digits, nobody, is_nobody}
use Rattle.numbers.specs.declared.FunctionalNumber.{FunctionalNumber}
use Rattle.numbers.specs.declared.Msisdn.{Msisdn}
use Rattle.strings.specs.declared.Operation.{Operation}
use Rattle.strings.specs.declared.Operation.TheVariants.{Register, Erase, Interrogate}
use Rattle.strings.specs.declared.Erasing.{Erasing}
use Rattle.strings.specs.declared.Erasing.TheVariants.{Empty, Forced}
use Rattle.strings.specs.Text.{Request, coding_scheme}
use Rattle.strings.specs.Outcomes.{request_of}
use Rattle.records.specs.declared.Record.{Record}
use Rattle.records.specs.Steps.{same, is_own, may_erase, held_by, forced_off, is_absent}
use Rattle.tables.specs.Keys.{Found}
use Rattle.std.specs.Prelude.{Some, None}
use Rattle.tables.specs.Tables.{table_sound, list_sound, flags_of}
use Rattle.states.specs.States.{State, figures_right, row_for, record_for, record_in, stored_in}
use Rattle.rules.specs.Answers.{Answer, refusal, error, outcome, holder_is, Outcome, made, buffer_room, holder_text, packed_over, octet_count, refusing}

-- ---- what the checks look at

-- flag "1 has Follow Me", flag "2 supervisor"
abbrev pub has_follow_me : ℕ → Bool
has_follow_me flags = eqb (flags % 2) 1

abbrev pub is_supervisor : ℕ → Bool
is_supervisor flags = eqb (flags / 2 % 2) 1

-- what is asked for
abbrev pub is_register : Operation → Bool
is_register Register = true
is_register Erase = false
is_register Interrogate = false

abbrev pub is_erase : Operation → Bool
is_erase Register = false
is_erase Erase = true
is_erase Interrogate = false

abbrev pub is_interrogate : Operation → Bool
is_interrogate Register = false
is_interrogate Erase = false
is_interrogate Interrogate = true

abbrev pub is_forced : Erasing → Bool
is_forced Empty = false
is_forced (Forced named) = true

-- whether an erasure is permitted, given who holds the number: a plain one by its two permitted cases, a forced one where it names the holder
abbrev pub permitted : FunctionalNumber → Msisdn → Erasing → Msisdn → Bool
permitted number requester Empty holder = may_erase number requester holder
permitted number requester (Forced msisdn) holder = same holder msisdn

-- the holder in a record, and whether its notice is absent (phase 0)
abbrev pub holder_in : Option Record → Msisdn
holder_in none = nobody
holder_in (some r) = r.holder

abbrev pub no_notice : Option Record → Bool
no_notice none = true
no_notice (some r) = is_absent r.notice

-- M-110: the number is closed
abbrev pub is_closed : Option Record → Bool
is_closed none = false
is_closed (some r) = r.closed

-- ---- the checks

-- an outcome's answer, with its text in the reply
abbrev pub saying : ℕ → State → List ℕ → Outcome
saying n state reply = made (outcome n (octet_count (two_digits n))) state (packed_over (two_digits n) reply)

-- "over 160 octets"
abbrev pub most_string_octets : ℕ
most_string_octets = 160

-- the rows with a refusal or an error, and M-103's "10 for counts that differ from a recount, directly after 2"; `sound_table` and `right_figures` say how table and figures are: where they are right, the checks follow from the request alone. "In row 35 the requester is tested before the coding scheme, the 0 octets after it"
abbrev pub refusal_checks : Bool → Bool → List ℕ → List ℕ → Msisdn → ℕ → List ℕ → List (Bool × Answer)
refusal_checks sound_table right_figures list reply requester scheme string =
    (ltb (length reply) buffer_room, refusal 1)
    ∷ (not (list_sound list), refusal 8)
    ∷ (not sound_table, refusal 2)
    ∷ (not right_figures, refusal 10)
    ∷ (not (is_number requester.0), error 35)
    ∷ (not (eqb scheme coding_scheme), error 71)
    ∷ (eqb (length string) 0, error 35)
    ∷ (ltb most_string_octets (length string) || is_none (request_of string), error 36)
    ∷ []

-- the rows with an outcome, the first two by the requester's flags
abbrev pub right_checks : ℕ → Erasing → List (Bool × ℕ)
right_checks flags erasing = (not (has_follow_me flags), 42) ∷ (is_forced erasing && not (is_supervisor flags), 22) ∷ []

-- the others by the record of the number: what a single step meets; M-110: 64 "for registering a closed number, another holder or not, directly after 67"
abbrev pub step_checks : Msisdn → Request → Option Record → List (Bool × ℕ)
step_checks requester f r =
    (is_none r, 41)
    ∷ (is_register f.operation && is_own f.number requester, 67)
    ∷ (is_register f.operation && is_closed r, 64)
    ∷ (is_register f.operation && (not (is_nobody (holder_in r)) && not (same (holder_in r) requester)), 61)
    ∷ ((is_erase f.operation || is_interrogate f.operation) && is_nobody (holder_in r), 62)
    ∷ (is_erase f.operation && not (permitted f.number requester f.erasing (holder_in r)), 63)
    ∷ (is_forced f.erasing && (not (same (holder_in r) requester) && not (no_notice r)), 68)
    ∷ []

-- ---- a single step

-- what a step says: an outcome by its number, or 03 with the holder's MSISDN
pub data Verdict : Type 0 where
  says : ℕ → Verdict
  tells : ℕ → Verdict

-- what it comes to: what it says, and table and figures afterwards
pub record Stepping : Type 0 where
  pub verdict : Verdict
  pub state : State

abbrev pub comes_to : Verdict → State → Stepping
comes_to v s = record { verdict = v; state = s }

-- a negative outcome changes no table and no figures
abbrev pub staying : State → Bool × ℕ → Bool × Stepping
staying state check = (check.0, comes_to (says check.1) state)

-- the record that an erasure leaves: "A forced erasure …; if supervisor and holder differ, the phase becomes 1 with addressee and supervisor set"
abbrev pub after_erasure : Msisdn → Erasing → Record → Record
after_erasure requester Empty r = held_by nobody r
after_erasure requester (Forced msisdn) r = cond (same r.holder requester) (held_by nobody r) (forced_off requester r)

-- where no check holds: "registration answers 01 and the requester holds the number … Erasure answers 02 and nobody holds it … Interrogation answers 03"
abbrev pub carried_out : Operation → Erasing → Msisdn → State → ℕ → Stepping
carried_out Register erasing requester state i = comes_to (says 1) (stored_in state i (held_by requester (record_in state i)))
carried_out Erase erasing requester state i = comes_to (says 2) (stored_in state i (after_erasure requester erasing (record_in state i)))
carried_out Interrogate erasing requester state i = comes_to (tells (record_in state i).holder.0) state

abbrev pub carried_out_at : Request → Found → Msisdn → State → Stepping
carried_out_at f None requester state = comes_to (says 41) state
carried_out_at f (Some i) requester state = carried_out f.operation f.erasing requester state i

unfoldable pub step : State → Msisdn → Request → Stepping
step state requester f =
    decide (map (staying state) (step_checks requester f (record_for state f.number.0))) (carried_out_at f (row_for state f.number.0) requester state)

-- ---- a request

-- a negative outcome writes its two characters and changes no table and no figures
abbrev pub negative : State → List ℕ → Bool × ℕ → Bool × Outcome
negative state reply check = (check.0, saying check.1 state reply)

-- the answer to a single request, with the reply
abbrev pub answered : List ℕ → Verdict → State → Outcome
answered reply (says n) state = saying n state reply
answered reply (tells msisdn) state = made (holder_is msisdn (octet_count (holder_text msisdn))) state (packed_over (holder_text msisdn) reply)

abbrev pub replying : List ℕ → Stepping → Outcome
replying reply s = answered reply s.verdict s.state

-- a single request, where no check of the requester's rights holds
abbrev pub once : State → List ℕ → Msisdn → Request → Outcome
once state reply requester f = replying reply (step state requester f)

-- by what the string reads as, and what is then done; one that does not read has ended with error 36 before this
abbrev pub asking_by : (Request → Outcome) → State → ℕ → List ℕ → Option Request → Outcome
asking_by done state flags reply none = made (error 36) state reply
asking_by done state flags reply (some f) = decide (map (negative state reply) (right_checks flags f.erasing)) (done f)

-- every row of the table, in its order
abbrev pub requesting_by : (Request → Outcome) → State → List ℕ → List ℕ → Msisdn → ℕ → List ℕ → Outcome
requesting_by done state list reply requester scheme string =
    decide (refusing state reply (refusal_checks (table_sound state.table) (figures_right state) list reply requester scheme string))
    (asking_by done state (flags_of list requester.0) reply (request_of string))
