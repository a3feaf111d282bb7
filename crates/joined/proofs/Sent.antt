-- A notice that a sending wrote is accepted by any sound radio with a question buffer of 160 octets. Assumes nothing.
use mathlib.Core.Path.{◌≡◌, refl}
use mathlib.Core.Bool.{true, false, not}
use mathlib.Core.List.{List}
use Prim.Native.Nat.{ℕ, ◌≤◌}
use native.Mathlib.Omega.{arith}
use lib.ListN.{length, take, drop}
use lib.Seq.{take-append_seam}
use borrow.Author.Tests.{ne_eqb, le-ltb, not-false}
use Rattle.answers.specs.Checks.{is_none}
use Rattle.answers.proofs.Tests.{no_path, and_both, or_neither}
use Rattle.answers.proofs.Decide.{decide_by}
use Rattle.packing.specs.Packing.{packed}
use Rattle.numbers.specs.Numbers.{is_number, number_or_nobody}
use Rattle.numbers.specs.declared.FunctionalNumber.{FunctionalNumber}
use Rattle.numbers.specs.declared.Msisdn.{Msisdn}
use Rattle.numbers.proofs.Lengths.{number_some}
use Rattle.strings.specs.Notices.{notice_text, notice_fields}
use Rattle.strings.specs.Outcomes.{writer_room}
use Rattle.strings.proofs.Notices.{notice_sound_lem, notice_written}
use Rattle.records.specs.declared.Notice.{Notice}
use Rattle.records.specs.declared.Notice.TheVariants.{Absent, Waiting, InFlight}
use Rattle.records.specs.Steps.{is_absent, is_waiting}
use Rattle.rows.proofs.Rows.{record_sound_lem}
use Rattle.rows.proofs.Kept.{pending_words}
use Rattle.tables.specs.Keys.{Found}
use Rattle.std.specs.Prelude.{Some, None}
use Rattle.tables.specs.Tables.{table_sound}
use Rattle.tables.proofs.Stored.{record_found_lem}
use Rattle.states.specs.States.{State, figures_right, state_sound, row_for, record_for, record_in}
use Rattle.rules.specs.Answers.{refusal, sent_to, Outcome, refusing}
use Rattle.rules.specs.Notices.{notice_in, sending_checks, sent_at, sending_notice}
use Rattle.rules.specs.Calls.{sending, clock_reading, call}
use Rattle.rules.proofs.Visits.{found_sound}
use Rattle.stores.specs.declared.Radio.{Radio}
use Rattle.stores.specs.Stores.{entries_in, radio_sound, is_due, begun}
use Rattle.radio.specs.Radio.{notice_of, noticing}
use Rattle.rounds.proofs.Round.{next_accepted}
use Rattle.joined.specs.Joined.{Heard}

waits_there : (n : Notice) → is_waiting n ≡ true → is_absent n ≡ false
waits_there Absent h = no_path h
waits_there (Waiting k s) h = refl
waits_there (InFlight k) h = refl

-- the string of a notice is about its number
notice_about : (number : FunctionalNumber) (supervisor : Msisdn) → is_number number.0 ≡ true → number_or_nobody supervisor.0 ≡ true
    → notice_of (packed (notice_text (notice_fields number supervisor))) ≡ number.0
unfolding notice_fields
notice_about number supervisor h s = rw (notice_written (notice_fields number supervisor) (notice_sound_lem number supervisor h s))

module _ (radio : Radio) (question : List ℕ) (sound : radio_sound radio ≡ true) (room : writer_room ≤ length question) where
  heard : (string : List ℕ) (number : ℕ) → is_number number ≡ true → notice_of string ≡ number → Heard radio string question number
  unfolding noticing
  heard string number h e =
      let next = next_accepted 1 radio (begun (is_due radio number) (entries_in radio)) question in
      record {
        accepted = rw (sound, le-ltb (length question) writer_room room, e, ne_eqb number 0 (number_some number h)) next.0;
        responds = rw (sound, le-ltb (length question) writer_room room, e, ne_eqb number 0 (number_some number h)) next.1;
        about = e;
      }

  module _ (list : List ℕ) (delay now : ℕ) (number : FunctionalNumber) (buffer : List ℕ) (t : State) (addressee octets : ℕ) where
    abbrev Sends : Outcome → Type 0
    Sends o = o.answer ≡ sent_to addressee octets → Heard radio (take octets o.buffer) question number.0

    never : {A : Type 0} (n : ℕ) → refusal n ≡ sent_to addressee octets → A
    never n e = absurd (let z : ◌≡◌ {A = ℕ} 0 1 = cc in omega arith)

    sent_heard : (place : Found) → row_for t number.0 ≡ place → state_sound t ≡ true → is_number number.0 ≡ true
        → is_waiting (notice_in (record_for t number.0)) ≡ true → Sends (sent_at number place t buffer)
    sent_heard None p s h w = never 7
    sent_heard (Some i) p s h w = λ e.
        let r = record_in t i in
        let pending = waits_there r.notice (rw (record_found_lem t.table number.0 i p) at w) in
        let words = pending_words r (record_sound_lem t.table i (found_sound t number.0 i s p)) pending in
        let text = notice_text (notice_fields number r.supervisor) in
        let count : octets ≡ length (packed text) = cc in
        rw (count, take-append_seam (packed text) (drop (length (packed text)) buffer))
        (heard (packed text) number.0 h (notice_about number r.supervisor h words.supervised))

    pub sent_notice_accepted :
        (call list delay (sending now number buffer) t).0.answer ≡ sent_to addressee octets
        → Heard radio (take octets (call list delay (sending now number buffer) t).0.buffer) question number.0
    unfolding sending_notice
    sent_notice_accepted =
        let clock = clock_reading now in
        let checks = refusing t buffer (sending_checks (table_sound t.table) (figures_right t) buffer number.0 (record_for t number.0) delay clock) in
        decide_by Sends checks (sent_at number (row_for t number.0) t buffer)
        (never 1, (never 2, (never 10, (never 7, (never 6, (never 4, (never 5, tt))))))) λ a.
        let known = or_neither (not (is_number number.0)) (is_none (record_for t number.0)) a.1.1.1.0 in
        sent_heard (row_for t number.0) refl
        (and_both (table_sound t.table) (figures_right t) (not-false (table_sound t.table) a.1.0) (not-false (figures_right t) a.1.1.0))
        (not-false (is_number number.0) known.0) (not-false (is_waiting (notice_in (record_for t number.0))) a.1.1.1.1.1.0)
