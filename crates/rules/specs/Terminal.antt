-- Document 02, M-111, "Terminal at the node": "Staff at an administrative terminal clear numbers without a subscription. They give the number and the holder." Assumes nothing.
use Rattle.std.specs.Prelude.{ℕ, Bool, not, ◌&&◌, List, [], ◌∷◌, length, ltb}
use Rattle.answers.specs.Checks.{decide}
use Rattle.numbers.specs.Numbers.{is_number, nobody}
use Rattle.numbers.specs.declared.FunctionalNumber.{FunctionalNumber}
use Rattle.numbers.specs.declared.Msisdn.{Msisdn}
use Rattle.strings.specs.declared.Operation.TheVariants.{Erase}
use Rattle.strings.specs.declared.Erasing.TheVariants.{Forced}
use Rattle.strings.specs.Text.{Request, request_from}
use Rattle.tables.specs.Tables.{table_sound}
use Rattle.states.specs.States.{State, figures_right}
use Rattle.rules.specs.Answers.{Answer, refusal, Outcome, buffer_room, refusing}
use Rattle.rules.specs.Requests.{once}

-- what is asked for: the forced erasure that names the holder
abbrev pub terminal_request : FunctionalNumber → Msisdn → Request
terminal_request number holder = request_from Erase number (Forced holder) []

-- "7 for a malformed number or holder"; a holder of 0 is no number
abbrev pub both_numbers : FunctionalNumber → Msisdn → Bool
both_numbers number holder = is_number number.0 && is_number holder.0

-- "Refusals: 1, 2, 10, 7"
abbrev pub terminal_checks : Bool → Bool → List ℕ → FunctionalNumber → Msisdn → List (Bool × Answer)
terminal_checks sound_table right_figures reply number holder =
    (ltb (length reply) buffer_room, refusal 1)
    ∷ (not sound_table, refusal 2)
    ∷ (not right_figures, refusal 10)
    ∷ (not (both_numbers number holder), refusal 7)
    ∷ []

-- "then outcomes 41, 62, 63, 68 as before; 42 and 22 are never given here": "a forced erasure by nobody listed", so nobody's flags are asked for, and its notice has supervisor 0
unfoldable pub terminal_erasure : State → List ℕ → FunctionalNumber → Msisdn → Outcome
terminal_erasure state reply number holder =
    decide (refusing state reply (terminal_checks (table_sound state.table) (figures_right state) reply number holder))
    (once state reply nobody (terminal_request number holder))
