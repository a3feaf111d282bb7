-- Computed: a sending's notice, the round that follows it at a cab radio, and what is stored then; and that the joined theorem's conditions can be met. Assumes nothing.
use mathlib.Core.Path.{◌≡◌, refl}
use mathlib.Core.Bool.{true}
use mathlib.Core.List.{List, [], ◌∷◌}
use Prim.Native.Nat.{ℕ}
use native.Mathlib.Omega.{arith}
use lib.ListN.{length, replicate, take}
use Rattle.answers.specs.Begins.{begins}
use Rattle.answers.specs.Leading.{leading}
use Rattle.packing.specs.Packing.{value_of, digits, octets_for, chars_in, padded, packed, characters, readable, filled, kept, unpacked}
use Rattle.numbers.specs.Numbers.{is_digit, pushed, stored_form, is_number, digits_up_to, digits_of, leading_number}
use Rattle.crews.specs.Crews.{crew_of, count_of}
use Rattle.strings.specs.Text.{is_additional, text_of}
use Rattle.strings.specs.Notices.{notice_text, notice_fields, supervisor_field_at, notice_string_at, notice_string_of}
use Rattle.strings.specs.Reader.{operation_at, service_at, number_field_at, forced_at, erasing_at, additional_at, fields_of}
use Rattle.strings.specs.Outcomes.{request_of}
use Rattle.records.specs.Steps.{delay_of, delay_allowed}
use Rattle.rows.specs.Rows as rows
use Rattle.tables.specs.Keys.{place_of}
use Rattle.tables.specs.Tables.{table_up_to, row_of, record_of, list_sound, flags_of}
use Rattle.tables.specs.Figures as figures
use Rattle.states.specs.States as states
use Rattle.states.specs.States.{State, beside}
use Rattle.rules.specs.Answers.{sent_to}
use Rattle.rules.specs.Requests as requests
use Rattle.rules.specs.Crews as crews
use Rattle.rules.specs.Notices as notices
use Rattle.rules.specs.Calls as node
use Rattle.stores.specs.declared.Radio.{Radio}
use Rattle.stores.specs.Stores.{entries_in, every, has, none_twice, open_of, radio_sound, entry_of, laid, begun, settled}
use Rattle.radio.specs.Radio.{storing, noticing, replying, question_of, verdict_on, verdict_of}
use Rattle.rounds.specs.Rounds.{store, notice, reply, calling, is_accepted, numbers_that, due_at}
use Rattle.joined.specs.Joined.{Joint, after, Step, calls, asks, running, asks_in, new_in, WellAsked, Undisturbed, Joined}
use Rattle.joined.proofs.Joined.{joined}

abbrev A : ℕ
A = 14915100001

abbrev B : ℕ
B = 14915100002

abbrev list : List ℕ
list = A ∷ 1 ∷ B ∷ 3 ∷ []

-- A was forced off 0492123401 by B, and holds 0492123402
abbrev table : State
table = beside (10492123401 ∷ 0 ∷ 1 ∷ A ∷ B ∷ 0 ∷ 0 ∷ 10492123402 ∷ A ∷ 0 ∷ 0 ∷ 0 ∷ 0 ∷ 0 ∷ []) (1 ∷ 1 ∷ 0 ∷ [])

-- A's radio: three numbers of that root, one marked, and one of another root, marked; its next question is the 255th
abbrev radio : Radio
radio = record {
  own = A;
  count = 4;
  entries = laid (entry_of 10492123401 0 0 ∷ entry_of 10492999901 1 0 ∷ entry_of 10492123402 1 0 ∷ entry_of 10492123403 0 0 ∷ []);
  hand_held = 0;
  invoke = 254;
}

abbrev sent : node.Reply
sent = (node.call list 0 (node.sending 0 (record { 0 = 10492123401 }) (replicate 80 0)) table).0

abbrev string : List ℕ
string = take 28 sent.buffer

abbrev question : List ℕ
question = replicate 160 7

abbrev began : Joint
began = after (calling (notice string question) radio)

-- between the questions a notice that does not read, a late reply, and stores: one of the number that was just dropped, one of a number that is stored, one new
abbrev steps : List Step
steps =
    let put = asks table (replicate 80 9) question in
    calls (notice [] question) ∷ put ∷ calls (store 10492123401) ∷ calls (reply 254 [] question) ∷ put ∷ calls (store 10492123402) ∷ put ∷ calls (store 10492123409) ∷ []

-- the joined theorem's conditions
pub record Met : Type 0 where
  pub listed : list_sound list ≡ true
  pub accepted : is_accepted (calling (notice string question) radio) ≡ true
  pub undisturbed : Undisturbed list 0 table (due_at radio string) steps began
  pub all : asks_in steps ≡ length (due_at radio string)

pub record Computed : Type 0 where
  pub sends : sent.answer ≡ sent_to A 28
  -- answered 62, 03 with A, and 41
  pub ends : entries_in (running list 0 steps began).radio
      ≡ entry_of 10492999901 1 0 ∷ entry_of 10492123402 0 0 ∷ entry_of 10492123403 1 0 ∷ entry_of 10492123401 0 0 ∷ entry_of 10492123409 0 0 ∷ []
  pub conditions_met : Met

pub computed : Computed
unfolding count_of crew_of value_of digits octets_for chars_in padded packed characters readable filled kept unpacked is_digit pushed stored_form is_number digits_up_to digits_of leading leading_number is_additional text_of notice_text notice_fields supervisor_field_at notice_string_at notice_string_of begins operation_at service_at number_field_at forced_at erasing_at additional_at fields_of request_of delay_of delay_allowed rows.notice_up_to rows.row_up_to rows.notice_of rows.record_at place_of table_up_to row_of record_of figures.recount states.figures_right list_sound flags_of requests.step crews.requesting notices.sending_notice radio_sound every has none_twice open_of begun settled noticing replying storing question_of verdict_on verdict_of asks_in numbers_that
computed =
    let well : WellAsked table (due_at radio string) table (replicate 80 9) question =
    record { sound = refl; reply_room = omega arith; question_room = omega arith; unchanged = λ n h. refl } in
    record {
      sends = refl;
      ends = refl;
      conditions_met = record { listed = refl; accepted = refl; undisturbed = (refl, (well, (refl, (refl, (well, (refl, (well, (refl, tt)))))))); all = refl };
    }

-- these are all
pub joined_here : Joined list table radio string (new_in list 0 steps began) (entries_in (running list 0 steps began).radio)
joined_here =
    let m = computed.conditions_met in
    joined list 0 table radio string question steps m.listed m.accepted m.undisturbed m.all
