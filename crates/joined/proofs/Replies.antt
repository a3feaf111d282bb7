-- What the node answers to a radio's question, and what the radio makes of it: the verdict by the table. Assumes nothing.
use mathlib.Core.Path.{◌≡◌, refl, sym, ◌∙◌}
use mathlib.Core.Logic.{⊎_elim}
use mathlib.Core.Bool.{Bool, true, false, not, cond}
use mathlib.Core.Option.{Option, none, some}
use mathlib.Core.List.{List}
use Prim.Native.Nat.{ℕ, ◌≤◌, ◌<◌}
use native.Mathlib.Omega.{arith}
use lib.ListN.{length, take, drop}
use lib.Seq.{take-append_seam}
use lib.Dec.{eqb}
use borrow.Author.Tests.{eqb-true, eq-eqb, ne_eqb}
use Rattle.answers.specs.Begins.{begins}
use Rattle.answers.proofs.Tests.{less_or_not}
use Rattle.answers.proofs.Checks.{not_some}
use Rattle.packing.specs.Packing.{packed, takes}
use Rattle.packing.proofs.RoundTrip.{packed_reads, unpacked_packed}
use Rattle.numbers.specs.Numbers.{is_number, digits_of, two_digits, is_nobody}
use Rattle.numbers.specs.declared.Msisdn.{Msisdn}
use Rattle.numbers.proofs.Lengths.{number_some}
use Rattle.numbers.proofs.Reading.{number_read_last}
use Rattle.crews.specs.Crews.{crew_of}
use Rattle.strings.specs.Text.{coding_scheme}
use Rattle.strings.specs.Outcomes.{request_of}
use Rattle.strings.proofs.Octets.{octets_most}
use Rattle.records.specs.declared.Record.{Record}
use Rattle.records.specs.Steps.{interrogated}
use Rattle.rows.specs.Rows.{record_sound}
use Rattle.rows.proofs.Rows.{record_sound_lem}
use Rattle.rows.proofs.Kept.{holder_number}
use Rattle.tables.specs.Keys.{Found}
use Rattle.std.specs.Prelude.{Some, None}
use Rattle.tables.specs.Tables.{list_sound}
use Rattle.tables.proofs.Stored.{record_found_lem, record_missing}
use Rattle.states.specs.States.{State, state_sound, row_for, record_for, record_in}
use Rattle.rules.specs.Answers.{numbers_of, buffer_room, holder_is, holder_text, packed_over, octet_count}
use Rattle.rules.specs.Calls.{Call, request, Reply, call, name_of, codes_of}
use Rattle.rules.specs.Visits.{Visited, visited, visit_saying, decided, visit, reply_saying}
use Rattle.promises.specs.Users.{WellFormed}
use Rattle.rules.proofs.Taken.{takes_two, takes_holder}
use Rattle.rules.proofs.Single.{call_single}
use Rattle.rules.proofs.Sound.{single_absent}
use Rattle.rules.proofs.Visits.{found_sound}
use Rattle.promises.proofs.Controller.{form_names, visit_leaves}
use Rattle.stores.specs.declared.Verdict.{Verdict}
use Rattle.stores.specs.declared.Verdict.TheVariants.{Keeps, Drops, Unsure}
use Rattle.radio.specs.Radio.{question_of, verdict_on, verdict_of, interrogation}
use Rattle.rounds.proofs.Calls.{question_back, question_some}
use Rattle.joined.specs.Joined.{has_flag1, octets_in, by_table, verdict_by}

-- ---- a text that the node packed, as the radio reads it

packed_verdict : (own : ℕ) (text buffer : List ℕ) → takes text ≡ true
    → verdict_of own (take (length (packed text)) (packed_over text buffer)) ≡ verdict_on own text
unfolding verdict_of
packed_verdict own text buffer h =
    rw (take-append_seam (packed text) (drop (length (packed text)) buffer), packed_reads text h, unpacked_packed text h)

-- 41 and 42 are neither 03 nor 62
says_41 : (own : ℕ) → verdict_on own (two_digits 41) ≡ Unsure
unfolding verdict_on begins
says_41 own = refl

says_42 : (own : ℕ) → verdict_on own (two_digits 42) ≡ Unsure
unfolding verdict_on begins
says_42 own = refl

says_62 : (own : ℕ) → verdict_on own (two_digits 62) ≡ Drops
unfolding verdict_on begins
says_62 own = refl

-- 03 and the holder
says_holder : (own holder : ℕ) → is_number holder ≡ true → verdict_on own (holder_text holder) ≡ cond (eqb holder own) Keeps Drops
unfolding verdict_on begins
says_holder own holder h = rw (number_read_last holder h, eq-eqb (length (digits_of holder)) (length (digits_of holder)) refl)

-- the record of a number in a sound state is sound
known_sound : (t : State) (number : ℕ) (r : Record) → state_sound t ≡ true → record_for t number ≡ some r → record_sound r ≡ true
known_sound t number r sound e = go (row_for t number) refl
  where
    go : (place : Found) → row_for t number ≡ place → record_sound r ≡ true
    go None p = not_some (sym (record_missing t.table number p) ∙ e)
    go (Some i) p =
        let it : record_in t i ≡ r = cc (record_found_lem t.table number i p) in
        rw (← it) (record_sound_lem t.table i (found_sound t number i sound p))

-- ---- the node's answer to the question about a number

module _ (list : List ℕ) (delay own number : ℕ) (buffer : List ℕ) (t : State) (listed : list_sound list ≡ true) (sound : state_sound t ≡ true)
    (hers : is_number own ≡ true) (one : is_number number ≡ true) (room : buffer_room ≤ length buffer) where
  abbrev requester : Msisdn
  requester = record { 0 = own }

  abbrev asked : Call
  asked = request requester coding_scheme (question_of number) buffer

  reads : request_of (question_of number) ≡ some (interrogation number)
  reads = question_back number one

  form : WellFormed list requester coding_scheme (question_of number) buffer (interrogation number)
  form = record {
    room = room;
    sound = listed;
    requester_number = hers;
    coded = refl;
    least = ⊎_elim (λ h. h) (λ h. absurd (question_some number (omega arith))) (less_or_not 0 (length (question_of number)));
    most = omega (arith, octets_most (question_of number) reads);
    reads = reads;
  }

  named : name_of list asked ≡ some number
  named = form_names list requester coding_scheme (question_of number) buffer (interrogation number) form

  alone : codes_of asked ≡ none
  unfolding crew_of begins
  alone = rw reads

  -- the node says it with a text, packed from the start of the reply buffer, and leaves table and figures
  record Says (v : Verdict) (got : Reply × State) : Type 0 where
    text : List ℕ
    packs : takes text ≡ true
    verdict : verdict_on own text ≡ v
    count : (numbers_of got.0.answer).count ≡ length (packed text)
    written : got.0.buffer ≡ packed_over text buffer
    left : got.1 ≡ t

  says : (v : Verdict) (n : ℕ) → n < 256 → verdict_on own (two_digits n) ≡ v → Says v (reply_saying n buffer, t)
  says v n l e = record { text = two_digits n; packs = takes_two n l; verdict = e; count = refl; written = refl; left = refl }

  -- not in the table
  missed_says : (flag : Bool) → Says (cond flag Unsure Unsure) (cond (not flag) (reply_saying 42 buffer) (reply_saying 41 buffer), t)
  missed_says true = says Unsure 41 (omega arith) (says_41 own)
  missed_says false = says Unsure 42 (omega arith) (says_42 own)

  -- in the table, with the record r
  module _ (r : Record) (known : record_for t number ≡ some r) where
    abbrev holder : ℕ
    holder = r.holder.0

    abbrev told : Bool → Bool → Visited
    told flag nobody =
        cond flag (cond nobody (visit_saying 62 buffer r) (visited (holder_is holder (octet_count (holder_text holder))) (packed_over (holder_text holder) buffer) r))
        (visit_saying 42 buffer r)

    visit_tells : (flag nobody : Bool) → has_flag1 list own ≡ flag → is_nobody r.holder ≡ nobody → visit list delay asked r ≡ told flag nobody
    unfolding decided interrogated
    visit_tells true true f n = rw (reads, f, n)
    visit_tells true false f n = rw (reads, f, n)
    visit_tells false nobody f n = rw (reads, f)

    told_leaves : (flag nobody : Bool) → (told flag nobody).next ≡ r
    told_leaves true true = refl
    told_leaves true false = refl
    told_leaves false nobody = refl

    told_says : (flag nobody : Bool) → is_nobody r.holder ≡ nobody → Says (cond flag (by_table own (some holder)) Unsure) ((told flag nobody).reply, t)
    told_says true true n = says _ 62 (omega arith) (says_62 own ∙ rw (eqb-true holder 0 n, ne_eqb 0 own (λ e. number_some own hers (sym e))))
    told_says true false n =
        let h = holder_number r (known_sound t number r sound known) n in
        record { text = holder_text holder; packs = takes_holder holder h; verdict = says_holder own holder h; count = refl; written = refl; left = refl }
    told_says false nobody n = says Unsure 42 (omega arith) (says_42 own)

    known_says : Says (verdict_by list t own number) (call list delay asked t)
    known_says =
        let flag = has_flag1 list own in
        let nobody = is_nobody r.holder in
        let got = visit_leaves list delay asked t number r (told flag nobody) sound named known (visit_tells flag nobody refl refl) (told_leaves flag nobody) in
        rw (known, call_single list delay asked t alone, got) (told_says flag nobody refl)

  node_says_lem : Says (verdict_by list t own number) (call list delay asked t)
  node_says_lem = go (record_for t number) refl
    where
      go : (o : Option Record) → record_for t number ≡ o → Says (verdict_by list t own number) (call list delay asked t)
      go none e =
          rw (e, call_single list delay asked t alone, single_absent list delay asked t sound number named e, reads) (missed_says (has_flag1 list own))
      go (some r) e = known_says r e

  -- the radio's verdict on the node's reply is the table's
  pub node_verdict : verdict_of own (octets_in (call list delay asked t).0) ≡ verdict_by list t own number
  node_verdict = let s = node_says_lem in rw (s.count, s.written) (packed_verdict own s.text buffer s.packs ∙ s.verdict)

  -- the question changes nothing in the table
  pub node_leaves : (call list delay asked t).1 ≡ t
  node_leaves = node_says_lem.left
