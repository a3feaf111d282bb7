-- A notice reads exactly if it is the text of sound fields; a forced erasure's is one case, and the blank one is no request's. Assumes nothing.
use mathlib.Core.Path.{◌≡◌, refl, sym, ap, ◌∙◌}
use mathlib.Core.Logic.{◌↔◌}
use mathlib.Core.Bool.{Bool, true, false, not, ◌&&◌}
use mathlib.Core.Option.{none, some, some-injective}
use mathlib.Core.List.{List, ◌++◌}
use Prim.Native.Nat.{ℕ, ◌≤◌}
use native.Mathlib.Omega.{arith}
use lib.ListN.{length}
use lib.Dec.{leb}
use borrow.Author.Tests.{eqb-true}
use Rattle.answers.specs.Ascii.{ascii}
use Rattle.answers.specs.Begins.{begins, behind}
use Rattle.answers.specs.Leading.{each}
use Rattle.answers.proofs.Begins.{behind_only}
use Rattle.answers.proofs.Checks.{bind_some, only_if_some, only_if_yes}
use Rattle.answers.proofs.Tests.{and_left, and_right}
use Rattle.numbers.specs.Numbers.{is_number, is_nobody, number_or_nobody, digits_of}
use Rattle.numbers.specs.declared.FunctionalNumber.{FunctionalNumber}
use Rattle.numbers.specs.declared.Msisdn.{Msisdn}
use Rattle.numbers.proofs.Lengths.{no_digits}
use Rattle.crews.specs.Crews.{is_bulk}
use Rattle.packing.specs.Packing.{octets_for, packed, readable, unpacked}
use Rattle.bases.proofs.Digits.{Below}
use Rattle.packing.proofs.Laws.{length_packed}
use Rattle.strings.specs.declared.Operation.TheVariants.{Erase}
use Rattle.strings.specs.declared.Erasing.TheVariants.{Forced}
use Rattle.strings.specs.Text.{Request, request_from, are_additional, most_additional, request_sound, hash, text_of}
use Rattle.strings.specs.Reader.{unpacked_by, number_field_at, erasing_at, forced_at, additional_at, fields_of}
use Rattle.strings.specs.Outcomes.{request_of}
use Rattle.strings.specs.Notices.{NoticeString, notice_string_sound, supervisor_digits, notice_text, notice_fields, supervisor_field_at, notice_string_at, notice_string_of}
use Rattle.strings.specs.Writable.{Writable}
use Rattle.strings.proofs.Exact.{operation_exact, service_back, starred, number_exact, number_not, supervisor_exact}
use Rattle.strings.proofs.Additional.{additional_back, additional_only, forced_crew}
use Rattle.strings.proofs.Text.{rules_sound, sound_rules, sound_writable, text_fields, text_taken, text_length, writable_short}
use Rattle.strings.proofs.ReadBack.{read_back_lem, read_only}
use Rattle.strings.proofs.Octets.{Reads, bits_read, bits_good, octets_back, octets_only, request_reads}

-- the forced erasure with the same fields
abbrev pub forced_erasure : NoticeString → Request
forced_erasure n = request_from Erase n.number (Forced n.supervisor) n.additional

-- the rules that a notice's sound fields keep
pub record NoticeRules (n : NoticeString) : Type 0 where
  pub writable : Writable (forced_erasure n)
  pub ordinary : not (is_bulk n.additional) ≡ true

pub notice_rules : (n : NoticeString) → notice_string_sound n ≡ true → NoticeRules n
unfolding notice_string_sound
notice_rules n h =
    let w = is_number n.number.0 in
    let s = number_or_nobody n.supervisor.0 in
    let l = leb (length n.additional) most_additional in
    let a = are_additional n.additional in
    let wsla = and_left (w && s && l && a) (not (is_bulk n.additional)) h in
    let wsl = and_left (w && s && l) a wsla in
    let ws = and_left (w && s) l wsl in
    record {
      writable = record { number = and_left w s ws; msisdn = and_right w s ws; few = and_right (w && s) l wsl; additional = and_right (w && s && l) a wsla };
      ordinary = and_right (w && s && l && a) (not (is_bulk n.additional)) h;
    }

rules_notice : (n : NoticeString) → NoticeRules n → notice_string_sound n ≡ true
unfolding notice_string_sound
rules_notice n r = let w = r.writable in rw (w.number, w.msisdn, w.few, w.additional) r.ordinary

-- ---- the text: nobody has no digits

pub forced_text : (n : NoticeString) → notice_text n ≡ text_of (forced_erasure n)
unfolding notice_text text_of
forced_text n = go (is_nobody n.supervisor) refl
  where
    go : (b : Bool) → is_nobody n.supervisor ≡ b → notice_text n ≡ text_of (forced_erasure n)
    go true e = rw (eqb-true n.supervisor.0 0 e, no_digits)
    go false e = rw e

notice_grows :
    (n : NoticeString)
    → notice_text n
    ≡ ascii "##214*" ++ (starred n.number.0 ++ (ascii "88*" ++ (starred n.supervisor.0 ++ (n.additional ++ hash))))
notice_grows n = forced_text n ∙ text_fields (forced_erasure n)

-- ---- it reads exactly

pub notice_back : (n : NoticeString) → notice_string_sound n ≡ true → notice_string_at (notice_text n) ≡ some n
unfolding begins notice_string_at
notice_back n h =
    let r = notice_rules n h in
    let w = r.writable in
    rw (
      notice_grows n,
      number_exact.back n.number.0 _ w.number,
      supervisor_exact.back n.supervisor.0 _ w.msisdn,
      additional_back n.additional w.few w.additional,
    )
    (only_if_yes (not (is_bulk n.additional)) n r.ordinary)

pub notice_only : (s : List ℕ) {n : NoticeString} → notice_string_at s ≡ some n → (notice_string_sound n ≡ true) × (s ≡ notice_text n)
unfolding notice_string_at
notice_only s h =
    bind_some (behind (ascii "##214*") s) _ h λ rest b hb.
    bind_some (number_field_at rest) _ hb λ number w hw.
    bind_some (behind (ascii "88*") number.rest) _ hw λ forced f hf.
    bind_some (supervisor_field_at forced) _ hf λ supervisor v hv.
    bind_some (additional_at supervisor.rest) _ hv λ additional a ha.
    let b' = behind_only (ascii "##214*") s b in
    let w' = number_exact.only rest w in
    let f' = behind_only (ascii "88*") number.rest f in
    let v' = supervisor_exact.only forced v in
    let a' = additional_only supervisor.rest a in
    let k = only_if_some _ ha in
    rw (← k.1) (
      rules_notice _ (record { writable = record { number = w'.0; msisdn = v'.0; few = a'.0; additional = a'.1 }; ordinary = k.0 }),
      rw notice_grows (cc),
    )

-- a notice's text tells which it was
pub one_notice : (n m : NoticeString) → notice_string_sound n ≡ true → notice_string_sound m ≡ true → notice_text n ≡ notice_text m → n ≡ m
one_notice n m hn hm e = some-injective n m (sym (notice_back n hn) ∙ ap notice_string_at e ∙ notice_back m hm)

-- ---- the packed notice

pub notices : Reads notice_string_at notice_text notice_string_sound
notices = record {
  back = notice_back;
  only = notice_only;
  taken = λ n h. rw (forced_text n) (text_taken (forced_erasure n) (notice_rules n h).writable);
  short = λ n h. rw (forced_text n) (writable_short (forced_erasure n) (notice_rules n h).writable);
}

pub notice_exactly : (os : List ℕ) (n : NoticeString) → Below 256 os → (notice_string_of os ≡ some n) ↔ ((notice_string_sound n ≡ true) × (packed (notice_text n) ≡ os))
unfolding notice_string_of
notice_exactly os n b = (octets_only notices os b, λ k. ap (unpacked_by notice_string_at) (sym k.1) ∙ octets_back notices n k.0)

pub notice_written : (n : NoticeString) → notice_string_sound n ≡ true → notice_string_of (packed (notice_text n)) ≡ some n
unfolding notice_string_of
notice_written n h = octets_back notices n h

-- ---- what a sending writes

pub notice_text_lem :
    (n : FunctionalNumber) (s : Msisdn)
    → notice_text (notice_fields n s) ≡ ascii "##214*" ++ (digits_of n.0 ++ (ascii "*88*" ++ (supervisor_digits s ++ ascii "*#")))
unfolding notice_text notice_fields
notice_text_lem n s = refl

module _ (n : FunctionalNumber) (s : Msisdn) (number : is_number n.0 ≡ true) (supervisor : number_or_nobody s.0 ≡ true) where
  pub notice_sound_lem : notice_string_sound (notice_fields n s) ≡ true
  unfolding notice_string_sound notice_fields each begins
  notice_sound_lem = rw (number, supervisor)

  -- at most 42 characters, 37 octets: a notice fits the 80 octets of its buffer
  pub notice_short : length (notice_text (notice_fields n s)) ≤ 42
  unfolding notice_fields
  notice_short =
      let f = notice_fields n s in
      rw (forced_text f) (text_length (forced_erasure f) (notice_rules f notice_sound_lem).writable)

  pub notice_octets_lem : length (packed (notice_text (notice_fields n s))) ≤ 37
  unfolding octets_for
  notice_octets_lem = rw (length_packed (notice_text (notice_fields n s))) (omega (arith, notice_short))

-- ---- beside the request: a forced erasure is one case

-- the same rules, with a supervisor that is a number
forced_rules : (n : NoticeString) → request_sound (forced_erasure n) ≡ true → notice_string_sound n ≡ true
forced_rules n h =
    let crew = forced_crew n.number n.supervisor n.additional in
    rules_notice n (record { writable = sound_writable (forced_erasure n) h; ordinary = sym crew ∙ (sound_rules (forced_erasure n) h).crew })

rules_forced : (n : NoticeString) → is_nobody n.supervisor ≡ false → notice_string_sound n ≡ true → request_sound (forced_erasure n) ≡ true
rules_forced n named h =
    let r = notice_rules n h in
    let w = r.writable in
    rules_sound (forced_erasure n) (record {
      number = w.number;
      erasing = rw named at w.msisdn;
      few = w.few;
      additional = w.additional;
      crew = forced_crew n.number n.supervisor n.additional ∙ r.ordinary;
    })

-- the request reader does not take the blank
blank_other : (n : NoticeString) → notice_string_sound n ≡ true → is_nobody n.supervisor ≡ true → fields_of (notice_text n) ≡ none
unfolding begins forced_at erasing_at fields_of
blank_other n h blank =
    rw (
      notice_grows n,
      operation_exact.back Erase _ refl,
      service_back _,
      number_exact.back n.number.0 _ (notice_rules n h).writable.number,
      eqb-true n.supervisor.0 0 blank,
      no_digits,
      number_not,
    )

module _ (os : List ℕ) (n : NoticeString) where
  pub forced_is_notice : request_of os ≡ some (forced_erasure n) → notice_string_of os ≡ some n
  unfolding notice_string_of
  forced_is_notice e =
      let r = request_reads os e in
      let t = read_only (unpacked os) r.1 in
      bits_good notice_string_at os r.0 ∙ ap notice_string_at (t.1 ∙ sym (forced_text n)) ∙ notice_back n (forced_rules n t.0)

  module _ (read : notice_string_of os ≡ some n) where
    pub notice_reads : (readable os ≡ true) × (notice_string_sound n ≡ true) × (unpacked os ≡ notice_text n)
    unfolding notice_string_of
    notice_reads =
        let r = bits_read notice_string_at os read in
        let t = notice_only (unpacked os) r.1 in
        (r.0, t.0, t.1)

    pub notice_is_forced : is_nobody n.supervisor ≡ false → request_of os ≡ some (forced_erasure n)
    unfolding request_of
    notice_is_forced named =
        let r = notice_reads in
        bits_good fields_of os r.0 ∙ ap fields_of (r.2 ∙ forced_text n) ∙ read_back_lem (forced_erasure n) (rules_forced n named r.1)

    pub blank_no_request : is_nobody n.supervisor ≡ true → request_of os ≡ none
    unfolding request_of
    blank_no_request blank = let r = notice_reads in bits_good fields_of os r.0 ∙ ap fields_of r.2 ∙ blank_other n r.1 blank
