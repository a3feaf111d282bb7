-- Document 01, "Notices": what a sending, a result and a finding come to. Assumes nothing.
use Rattle.std.specs.Prelude.{ℕ, zero, suc, Bool, cond, not, ◌||◌, List, [], ◌∷◌, length, eqb, ltb, leb}
use Rattle.std.proofs.Math.Option.{Option, none, some}
use Rattle.answers.specs.Checks.{decide, is_none}
use Rattle.numbers.specs.Numbers.{is_number}
use Rattle.numbers.specs.declared.FunctionalNumber.{FunctionalNumber}
use Rattle.strings.specs.Notices.{notice_text, notice_fields}
use Rattle.records.specs.declared.Notice.{Notice}
use Rattle.records.specs.declared.Notice.TheVariants.{Absent, Waiting}
use Rattle.records.specs.declared.Record.{Record}
use Rattle.records.specs.Steps.{most_sendings, last_kind, is_waiting, is_in_flight, is_due, sendings_done, launched, with_notice, cleared, delay_allowed}
use Rattle.rows.specs.Rows.{number_at, record_at}
use Rattle.tables.specs.Keys.{Found}
use Rattle.std.specs.Prelude.{Some, None}
use Rattle.tables.specs.Tables.{table_sound, rows_in}
use Rattle.states.specs.States.{State, figures_right, row_for, record_for, record_in, stored_in}
use Rattle.rules.specs.Answers.{Answer, refusal, sent_to, delivered, dropped, again, found, none_due, Outcome, made, buffer_room, packed_over, octet_count, refusing}

-- the notice in a record that is there
abbrev pub notice_in : Option Record → Notice
notice_in none = Absent
notice_in (some r) = r.notice

-- ---- sending

-- "Checks: 1 (buffer under 80), 2, 7 (malformed, or not in the table), 6 (delay), 4 (phase not odd), 5 (not due)"; M-103: 10 "directly after 2"
abbrev pub sending_checks : Bool → Bool → List ℕ → ℕ → Option Record → ℕ → ℕ → List (Bool × Answer)
sending_checks sound_table right_figures buffer number r delay clock =
    (ltb (length buffer) buffer_room, refusal 1)
    ∷ (not sound_table, refusal 2)
    ∷ (not right_figures, refusal 10)
    ∷ (not (is_number number) || is_none r, refusal 7)
    ∷ (not (delay_allowed delay), refusal 6)
    ∷ (not (is_waiting (notice_in r)), refusal 4)
    ∷ (not (is_due delay clock (notice_in r)), refusal 5)
    ∷ []

-- "Then the phase grows by 1, the last word becomes 0, and the buffer holds packed `##214*` number `*88*` supervisor `*#`; the addressee and octet count are returned"
abbrev pub sent_at : FunctionalNumber → Found → State → List ℕ → Outcome
sent_at number None state buffer = made (refusal 7) state buffer
sent_at number (Some i) state buffer =
    let r = record_in state i in
    let text = notice_text (notice_fields number r.supervisor) in
    made (sent_to r.addressee.0 (octet_count text)) (stored_in state i (with_notice (launched r.notice) r)) (packed_over text buffer)

unfoldable pub sending_notice : State → List ℕ → FunctionalNumber → ℕ → ℕ → Outcome
sending_notice state buffer number delay clock =
    decide (refusing state buffer (sending_checks (table_sound state.table) (figures_right state) buffer number.0 (record_for state number.0) delay clock))
    (sent_at number (row_for state number.0) state buffer)

-- ---- result

-- "Checks: 2, 7, 3 (kind above 5), 4 (phase 0 or odd)"; M-103: 10 "directly after 2"
abbrev pub result_checks : Bool → Bool → ℕ → Option Record → ℕ → List (Bool × Answer)
result_checks sound_table right_figures number r kind =
    (not sound_table, refusal 2)
    ∷ (not right_figures, refusal 10)
    ∷ (not (is_number number) || is_none r, refusal 7)
    ∷ (ltb last_kind kind, refusal 3)
    ∷ (not (is_in_flight (notice_in r)), refusal 4)
    ∷ []

-- "Kinds 0 to 4 clear the notice", M-102: "kind 5 clears at 12"
abbrev pub clears : ℕ → Notice → Bool
clears kind n = ltb kind last_kind || leb most_sendings (sendings_done n)

-- "It returns delivered for kind 0, dropped where 1 to 5 clears, again otherwise"
abbrev pub returned : ℕ → Notice → Answer
returned kind n = cond (eqb kind 0) delivered (cond (clears kind n) dropped again)

-- "otherwise the phase grows by 1 and the last word is now"
abbrev pub after_result : ℕ → ℕ → Record → Record
after_result kind clock r = cond (clears kind r.notice) (cleared r) (with_notice (Waiting (sendings_done r.notice) clock) r)

abbrev pub result_at : ℕ → ℕ → Found → State → Outcome
result_at kind clock None state = made (refusal 7) state []
result_at kind clock (Some i) state =
    let r = record_in state i in
    made (returned kind r.notice) (stored_in state i (after_result kind clock r)) []

-- a result is lent no buffer
unfoldable pub taking_result : State → FunctionalNumber → ℕ → ℕ → Outcome
taking_result state number kind clock =
    decide (refusing state [] (result_checks (table_sound state.table) (figures_right state) number.0 (record_for state number.0) kind))
    (result_at kind clock (row_for state number.0) state)

-- ---- finding

-- the first due number among n rows from row i on
unfoldable pub first_due : List ℕ → ℕ → ℕ → ℕ → ℕ → Answer
first_due table delay clock zero i = none_due
first_due table delay clock (suc n) i =
    cond (is_due delay clock (record_at table i).notice) (found (number_at table i)) (first_due table delay clock n (suc i))

-- "Finding: checks 2, 6; returns the lowest due number, or none exactly if none is due"
unfoldable pub finding : List ℕ → ℕ → ℕ → Answer
finding table delay clock =
    decide ((not (table_sound table), refusal 2) ∷ (not (delay_allowed delay), refusal 6) ∷ []) (first_due table delay clock (rows_in table) 0)
