-- Every answer of a request or a sending can be printed: its octets are packed characters, and its addressee is a number. Assumes nothing.
use mathlib.Core.Path.{◌≡◌, refl, sym, subst, ◌∙◌}
use mathlib.Core.Bool.{Bool, true, false, cond}
use mathlib.Core.List.{List, [], ◌∷◌, ◌++◌}
use Prim.Native.Nat.{ℕ, zero, suc, ◌+◌, ◌/◌, ◌%◌, ◌≤◌, ◌<◌}
use native.Mathlib.Omega.{arith}
use lib.ListN.{length, drop, length-append}
use lib.Seq.{take-append_seam}
use lib.Dec.{eqb, ltb}
use borrow.Author.Tests.{not-false}
use Rattle.answers.specs.Leading.{each}
use Rattle.answers.specs.Ascii.{ascii}
use Rattle.answers.specs.Checks.{decide, any_holds}
use Rattle.answers.proofs.Tests.{no_path, and_both}
use Rattle.answers.proofs.Decide.{decide_each, AllPass, all_pass, none_holds, one_holds}
use Rattle.packing.specs.Packing.{octets_for, taken, takes, packed}
use Rattle.answers.proofs.Leading.{each_append}
use Rattle.packing.proofs.Laws.{length_packed, takes_cons}
use Rattle.packing.proofs.RoundTrip.{packed_reads}
use Rattle.numbers.specs.Numbers.{is_number, digits_up_to, digits_of, two_digits}
use Rattle.numbers.specs.declared.FunctionalNumber.{FunctionalNumber}
use Rattle.numbers.specs.declared.Msisdn.{Msisdn}
use Rattle.strings.specs.Text.{text_of, coding_scheme}
use Rattle.strings.specs.Notices.{notice_text, notice_fields}
use Rattle.strings.proofs.Notices.{forced_text}
use Rattle.tables.specs.Keys.{Found}
use Rattle.std.specs.Prelude.{Some, None}
use Rattle.records.specs.declared.Notice.{Notice}
use Rattle.records.specs.declared.Notice.TheVariants.{Absent, Waiting, InFlight}
use Rattle.records.specs.Steps.{is_absent, is_waiting}
use Rattle.rows.proofs.Rows.{record_sound_lem}
use Rattle.rows.proofs.Kept.{pending_words}
use Rattle.tables.specs.Tables.{table_sound}
use Rattle.tables.proofs.Stored.{record_found_lem}
use Rattle.states.specs.States.{State, figures_right, state_sound, row_for, record_for, record_in}
use Rattle.rules.specs.Answers.{refusal, delivered, dropped, again, is_sent, Outcome, made, most_reply_octets, holder_text, packed_over, octet_count, refusing}
use Rattle.rules.specs.Requests as requests
use Rattle.rules.specs.Crews as crews
use Rattle.rules.specs.Crews.{crew_number, Walk, crew_reply}
use Rattle.strings.specs.declared.Operation.{Operation}
use Rattle.rules.specs.Notices as notices
use Rattle.rules.proofs.Visits.{found_sound, found_number}
use Rattle.rules.proofs.Tallied.{Tallied, reply_short, reply_taken}
use Rattle.rules.proofs.Each.{request_each}
use Rattle.rules.proofs.Short.{digits_short}
use Rattle.walks.proofs.Replies.{crew_small}
use Rattle.rules.proofs.Taken.{takes_two}
use Rattle.lines.specs.Program.{lent_buffer, asked}
use Rattle.replies.specs.Replies.{Text, most_notice_octets, Printable}

-- ---- digits, of any word

takes_digits : (room w : ℕ) → takes (digits_up_to room w) ≡ true
unfolding digits_up_to
takes_digits zero w = unfold each in refl
takes_digits (suc room) w = go (ltb w 10) (takes_digits room (w / 10))
  where
    go : (b : Bool) → takes (digits_up_to room (w / 10)) ≡ true → takes (cond b [] (digits_up_to room (w / 10) ++ ((48 + w % 10) ∷ []))) ≡ true
    go true h = unfold each in refl
    go false h = each_append taken (digits_up_to room (w / 10)) ((48 + w % 10) ∷ []) ∙ rw h (takes_cons (48 + w % 10) [] (omega arith) (λ e. omega arith) (unfold each in refl))

-- ---- a packed text at the front of a buffer

text_stands : (most : ℕ) (text lent_buffer : List ℕ) → takes text ≡ true → octets_for (length text) ≤ most → Text most (octet_count text) (packed_over text lent_buffer)
text_stands most text lent_buffer t h = record {
  within = omega (arith, length-append (packed text) (drop (length (packed text)) lent_buffer));
  short = rw length_packed h;
  reads = rw take-append_seam (packed_reads text t);
}

-- ---- a request

said_stands : (n : ℕ) (reply : List ℕ) → n < 256 → Text most_reply_octets (octet_count (two_digits n)) (packed_over (two_digits n) reply)
unfolding octets_for
said_stands n reply h = text_stands most_reply_octets (two_digits n) reply (takes_two n h) (omega arith)

held_stands : (w : ℕ) (reply : List ℕ) → Text most_reply_octets (octet_count (holder_text w)) (packed_over (holder_text w) reply)
unfolding octets_for each taken digits_of
held_stands w reply = text_stands most_reply_octets (holder_text w) reply (takes_digits 15 w) (omega (arith, digits_short 15 w))

crew_stands : (o : Operation) (w : Walk) (reply : List ℕ) → Tallied w
    → Text most_reply_octets (octet_count (crew_reply (crew_number o) w)) (packed_over (crew_reply (crew_number o) w) reply)
unfolding octets_for
crew_stands o w reply tallied =
    text_stands most_reply_octets (crew_reply (crew_number o) w) reply (reply_taken (crew_number o) (crew_small o) w tallied)
    (omega (arith, reply_short (crew_number o) w tallied))

-- what an outcome says can be printed, and it is not a notice sent
abbrev pub Replies : Outcome → Type 0
Replies o = Printable o.answer o.buffer × (is_sent o.answer ≡ false)

says : (n : ℕ) (state : State) (reply : List ℕ) → n < 256 → Replies (requests.saying n state reply)
says n state reply h = (said_stands n reply h, refl)

request_replies :
    (state : State) (list reply : List ℕ) (requester : Msisdn) (scheme : ℕ) (string : List ℕ) → Replies (crews.requesting state list reply requester scheme string)
request_replies state list reply =
    request_each state reply Replies (λ n. (tt, refl)) (λ n. (tt, refl)) (λ n l e. says n state reply (omega arith)) (λ new. says 1 new reply (omega arith))
    (λ new. says 2 new reply (omega arith)) (λ msisdn. (held_stands msisdn reply, refl)) (λ o w tallied. (crew_stands o w reply tallied, refl)) list

pub asked_replies : (m : Msisdn) (string : List ℕ) (state : State) (list : List ℕ) → Replies (asked m string state list)
unfolding asked
asked_replies m string state list = go (takes string)
  where
    go : (b : Bool) → Replies (cond b (crews.requesting state list lent_buffer m coding_scheme (packed string)) (made (refusal 9) state lent_buffer))
    go true = request_replies state list lent_buffer m coding_scheme (packed string)
    go false = (tt, refl)

-- ---- a result

module _ (state : State) (number : FunctionalNumber) (kind clock : ℕ) where
  returned_replies : (b c : Bool) → Replies (made (cond b delivered (cond c dropped again)) state [])
  returned_replies true c = (tt, refl)
  returned_replies false true = (tt, refl)
  returned_replies false false = (tt, refl)

  result_at_replies : (place : Found) → Replies (notices.result_at kind clock place state)
  result_at_replies None = (tt, refl)
  result_at_replies (Some i) = returned_replies (eqb kind 0) (notices.clears kind (record_in state i).notice)

  pub result_replies : Replies (notices.taking_result state number kind clock)
  unfolding notices.taking_result
  result_replies =
      decide_each Replies
      (refusing state [] (notices.result_checks (table_sound state.table) (figures_right state) number.0 (record_for state number.0) kind))
      _ ((tt, refl), ((tt, refl), ((tt, refl), ((tt, refl), ((tt, refl), tt))))) (result_at_replies (row_for state number.0))

-- ---- a sending

-- `##214*` number `*88*` supervisor `*#`, the two by their digits
abbrev notice : List ℕ → List ℕ → List ℕ
notice number supervisor = ascii "##214*" ++ (number ++ (ascii "*88*" ++ (supervisor ++ ascii "*#")))

notice_taken : (a b : List ℕ) → takes a ≡ true → takes b ≡ true → takes (notice a b) ≡ true
unfolding each taken
notice_taken a b p q = rw (each_append taken a, p, each_append taken b, q)

notice_short : (a b : List ℕ) → length a ≤ 15 → length b ≤ 15 → octets_for (length (notice a b)) ≤ most_notice_octets
unfolding octets_for
notice_short a b p q = omega (arith, length-append a (ascii "*88*" ++ (b ++ ascii "*#")), length-append b (ascii "*#"))

notice_stands : (number : FunctionalNumber) (supervisor : Msisdn) (lent_buffer : List ℕ)
    → Text most_notice_octets (octet_count (notice_text (notice_fields number supervisor))) (packed_over (notice_text (notice_fields number supervisor)) lent_buffer)
unfolding text_of notice_fields digits_of
notice_stands number supervisor lent_buffer =
    subst (λ (text : List ℕ). Text most_notice_octets (octet_count text) (packed_over text lent_buffer)) (sym (forced_text (notice_fields number supervisor)))
    (text_stands most_notice_octets (notice (digits_of number.0) (digits_of supervisor.0)) lent_buffer
    (notice_taken _ _ (takes_digits 15 number.0) (takes_digits 15 supervisor.0))
    (notice_short (digits_of number.0) (digits_of supervisor.0) (digits_short 15 number.0) (digits_short 15 supervisor.0)))

present : (n : Notice) → is_waiting n ≡ true → is_absent n ≡ false
present Absent h = no_path h
present (Waiting k s) h = refl
present (InFlight k) h = refl

module _ (state : State) (lent_buffer : List ℕ) (number : FunctionalNumber) (delay clock : ℕ) where
  -- what an outcome says can be printed, and what is sent names a number
  abbrev pub Sends : Outcome → Type 0
  Sends o = Printable o.answer o.buffer × (is_sent o.answer ≡ true → is_number number.0 ≡ true)

  -- a refusal
  refuses : is_sent (refusal 7) ≡ true → is_number number.0 ≡ true
  refuses e = no_path e

  abbrev checks : List (Bool × Outcome)
  checks = refusing state lent_buffer (notices.sending_checks (table_sound state.table) (figures_right state) lent_buffer number.0 (record_for state number.0) delay clock)

  sent_sends : AllPass checks → (place : Found) → row_for state number.0 ≡ place → Sends (notices.sent_at number place state lent_buffer)
  sent_sends pass None e = (tt, refuses)
  sent_sends pass (Some i) e =
      let sound : state_sound state ≡ true = and_both (table_sound state.table) (figures_right state) (not-false _ pass.1.0) (not-false _ pass.1.1.0) in
      let r = record_in state i in
      let waits : is_waiting r.notice ≡ true = rw (record_found_lem state.table number.0 i e) at (not-false (is_waiting (notices.notice_in (record_for state number.0))) pass.1.1.1.1.1.0) in
      let words = pending_words r (record_sound_lem state.table i (found_sound state number.0 i sound e)) (present r.notice waits) in
      ((words.addressed, notice_stands number r.supervisor lent_buffer), λ _. found_number state number.0 i sound e)

  pub sending_sends : Sends (notices.sending_notice state lent_buffer number delay clock)
  unfolding notices.sending_notice
  sending_sends = go (any_holds checks) refl
    where
      done : Outcome
      done = notices.sent_at number (row_for state number.0) state lent_buffer

      go : (b : Bool) → any_holds checks ≡ b → Sends (decide checks done)
      go true h = rw (one_holds checks done (made (refusal 7) state lent_buffer) h) (decide_each Sends checks (made (refusal 7) state lent_buffer)
          ((tt, refuses), ((tt, refuses), ((tt, refuses), ((tt, refuses), ((tt, refuses), ((tt, refuses), ((tt, refuses), tt))))))) (tt, refuses))
      go false h = rw (none_holds checks done h) (sent_sends (all_pass checks h) (row_for state number.0) refl)
