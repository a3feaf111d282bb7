-- What a call comes to at each check with a refusal or an error, the checks before it passed. Assumes nothing.
use mathlib.Core.Path.{◌≡◌}
use mathlib.Core.Bool.{true, false}
use mathlib.Core.Option.{none, some}
use mathlib.Core.List.{List, []}
use Prim.Native.Nat.{ℕ, ◌≤◌, ◌<◌}
use lib.ListN.{length}
use borrow.Author.Tests.{lt-ltb, le-ltb, eq-eqb, ne_eqb}
use Rattle.std.specs.Prelude.{Result, Err}
use Rattle.answers.specs.Checks.{any_holds}
use Rattle.answers.specs.Numbers.{refusal_number}
use Rattle.answers.specs.declared.Refusal.{Refusal}
use Rattle.numbers.specs.Numbers.{is_number, nobody}
use Rattle.numbers.specs.declared.FunctionalNumber.{FunctionalNumber}
use Rattle.numbers.specs.declared.Msisdn.{Msisdn}
use Rattle.strings.specs.Text.{Request, coding_scheme}
use Rattle.strings.specs.Outcomes.{request_of}
use Rattle.tables.specs.Tables.{table_sound, list_sound}
use Rattle.states.specs.States.{State, figures_right, state_sound, said_check, refusal_of, record_in}
use Rattle.states.proofs.States.{state_table, state_right, check_refuses}
use Rattle.rules.specs.Answers.{refusal, error, made, buffer_room, Outcome}
use Rattle.rules.specs.Requests.{most_string_octets, refusal_checks, once}
use Rattle.rules.specs.Crews.{requesting}
use Rattle.rules.specs.Notices.{sending_notice, taking_result, finding, first_due}
use Rattle.rules.specs.Terminal.{terminal_request, both_numbers, terminal_erasure}
use Rattle.rules.specs.Visits.{storing, leaving, sent_step, visit_sending, missed_sending}
use Rattle.records.specs.Steps.{sent, delay_allowed}
use Rattle.tables.specs.Tables.{rows_in}

module _ (state : State) (list reply : List ℕ) (requester : Msisdn) (scheme : ℕ) (string : List ℕ) where
  abbrev whole : Outcome
  whole = requesting state list reply requester scheme string

  pub refused_1 : length reply < buffer_room → whole ≡ made (refusal 1) state reply
  unfolding requesting
  refused_1 short = rw (lt-ltb _ _ short)

  module _ (room : buffer_room ≤ length reply) where
    pub refused_8 : list_sound list ≡ false → whole ≡ made (refusal 8) state reply
    unfolding requesting
    refused_8 unsound = rw (le-ltb _ _ room, unsound)

    module _ (sound_list : list_sound list ≡ true) where
      pub refused_state : (answer : Result Unit Refusal) (r : Refusal) → said_check answer ≡ refusal_of state → answer ≡ Err r → made (refusal (refusal_number r)) state reply ≡ whole
      unfolding requesting
      refused_state answer r e is = rw (le-ltb _ _ room, sound_list) (check_refuses state answer e (λ m. made (refusal m) state reply) _ r is)

      module _ (sound : state_sound state ≡ true) where
        sound_table : table_sound state.table ≡ true
        sound_table = state_table state sound

        right_figures : figures_right state ≡ true
        right_figures = state_right state sound

        pub error_35_requester : is_number requester.0 ≡ false → whole ≡ made (error 35) state reply
        unfolding requesting
        error_35_requester malformed = rw (le-ltb _ _ room, sound_list, sound_table, right_figures, malformed)

        module _ (number : is_number requester.0 ≡ true) where
          pub error_71 : (scheme ≡ coding_scheme → ⊥) → whole ≡ made (error 71) state reply
          unfolding requesting
          error_71 other = rw (le-ltb _ _ room, sound_list, sound_table, right_figures, number, ne_eqb _ _ other)

          module _ (coded : scheme ≡ coding_scheme) where
            pub error_35_empty : length string ≡ 0 → whole ≡ made (error 35) state reply
            unfolding requesting
            error_35_empty empty = rw (le-ltb _ _ room, sound_list, sound_table, right_figures, number, eq-eqb _ _ coded, eq-eqb _ _ empty)

            module _ (some-octet : length string ≡ 0 → ⊥) where
              pub error_36_long : most_string_octets < length string → whole ≡ made (error 36) state reply
              unfolding requesting
              error_36_long long =
                  rw (le-ltb _ _ room, sound_list, sound_table, right_figures, number, eq-eqb _ _ coded, ne_eqb _ _ some-octet, lt-ltb _ _ long)

              module _ (short : length string ≤ most_string_octets) where
                pub error_36_unread : request_of string ≡ none → whole ≡ made (error 36) state reply
                unfolding requesting
                error_36_unread unread =
                    rw (le-ltb _ _ room, sound_list, sound_table, right_figures, number, eq-eqb _ _ coded, ne_eqb _ _ some-octet, le-ltb _ _ short, unread)

                -- none holds
                pub none_refuses : (f : Request) → request_of string ≡ some f → any_holds (refusal_checks true true list reply requester scheme string) ≡ false
                none_refuses f read =
                    rw (le-ltb _ _ room, sound_list, number, eq-eqb _ _ coded, ne_eqb _ _ some-octet, le-ltb _ _ short, read)

-- ---- sendings

module _ (state : State) (buffer : List ℕ) (number : FunctionalNumber) (delay clock : ℕ) where
  pub sending_1 : length buffer < buffer_room → sending_notice state buffer number delay clock ≡ made (refusal 1) state buffer
  unfolding sending_notice
  sending_1 short = rw (lt-ltb _ _ short)

  module _ (room : buffer_room ≤ length buffer) where
    pub sending_state : (answer : Result Unit Refusal) (r : Refusal) → said_check answer ≡ refusal_of state → answer ≡ Err r
        → made (refusal (refusal_number r)) state buffer ≡ sending_notice state buffer number delay clock
    unfolding sending_notice
    sending_state answer r e is = rw (le-ltb _ _ room) (check_refuses state answer e (λ m. made (refusal m) state buffer) _ r is)

    pub sending_7 : state_sound state ≡ true → is_number number.0 ≡ false → sending_notice state buffer number delay clock ≡ made (refusal 7) state buffer
    unfolding sending_notice
    sending_7 sound malformed = rw (le-ltb _ _ room, state_table state sound, state_right state sound, malformed)

-- with room in the buffer, the row's record decides, or the number is missing
pub passed_visit :
    (t : State) (i : ℕ) (b : List ℕ) (number : FunctionalNumber) (delay clock : ℕ) → buffer_room ≤ length b
    → storing t i (visit_sending delay clock number b (record_in t i)) ≡ storing t i (sent_step number b (record_in t i) (sent delay clock (record_in t i)))
passed_visit t i b number delay clock room = rw (le-ltb _ _ room)

pub passed_miss : (t : State) (b : List ℕ) → buffer_room ≤ length b → leaving t (missed_sending b) ≡ made (refusal 7) t b
passed_miss t b room = rw (le-ltb _ _ room)

-- ---- results

module _ (state : State) (number : FunctionalNumber) (kind clock : ℕ) where
  pub result_state : (answer : Result Unit Refusal) (r : Refusal) → said_check answer ≡ refusal_of state → answer ≡ Err r
      → made (refusal (refusal_number r)) state [] ≡ taking_result state number kind clock
  unfolding taking_result
  result_state answer r e is = check_refuses state answer e (λ m. made (refusal m) state []) _ r is

  pub result_7 : state_sound state ≡ true → is_number number.0 ≡ false → taking_result state number kind clock ≡ made (refusal 7) state []
  unfolding taking_result
  result_7 sound malformed = rw (state_table state sound, state_right state sound, malformed)

-- ---- the terminal

module _ (state : State) (reply : List ℕ) (number : FunctionalNumber) (holder : Msisdn) where
  abbrev erasure : Outcome
  erasure = terminal_erasure state reply number holder

  pub terminal_1 : length reply < buffer_room → erasure ≡ made (refusal 1) state reply
  unfolding terminal_erasure
  terminal_1 short = rw (lt-ltb _ _ short)

  module _ (room : buffer_room ≤ length reply) where
    pub terminal_state : (answer : Result Unit Refusal) (r : Refusal) → said_check answer ≡ refusal_of state → answer ≡ Err r
        → made (refusal (refusal_number r)) state reply ≡ erasure
    unfolding terminal_erasure
    terminal_state answer r e is = rw (le-ltb _ _ room) (check_refuses state answer e (λ m. made (refusal m) state reply) _ r is)

    module _ (sound : state_sound state ≡ true) where
      pub terminal_7 : both_numbers number holder ≡ false → erasure ≡ made (refusal 7) state reply
      unfolding terminal_erasure
      terminal_7 malformed = rw (le-ltb _ _ room, state_table state sound, state_right state sound, malformed)

      -- none holds
      pub terminal_asks : both_numbers number holder ≡ true → erasure ≡ once state reply nobody (terminal_request number holder)
      unfolding terminal_erasure
      terminal_asks numbers = rw (le-ltb _ _ room, state_table state sound, state_right state sound, numbers)

-- ---- findings

module _ (table : List ℕ) (delay clock : ℕ) where
  pub finding_2 : table_sound table ≡ false → finding table delay clock ≡ refusal 2
  unfolding finding
  finding_2 unsound = rw unsound

  module _ (sound : table_sound table ≡ true) where
    pub finding_6 : delay_allowed delay ≡ false → finding table delay clock ≡ refusal 6
    unfolding finding
    finding_6 barred = rw (sound, barred)

    pub finding_first : delay_allowed delay ≡ true → finding table delay clock ≡ first_due table delay clock (rows_in table) 0
    unfolding finding
    finding_first allowed = rw (sound, allowed)
