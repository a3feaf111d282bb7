-- A request whose string was read: that it is asked, what its crew's field says, and what it comes to at each of its checks. Assumes nothing.
use Rattle.std.specs.Prelude as core
use Rattle.std.specs.Prelude.{Some, None}
use mathlib.Core.Path.{◌≡◌, refl, sym, ap, ◌∙◌}
use mathlib.Core.Bool.{Bool, true, false, cond, not, ◌&&◌}
use mathlib.Core.List.{List, [], ◌∷◌, map}
use mathlib.Core.Option.{Option, none, some}
use Prim.Native.Nat.{ℕ, ◌+◌, ◌-◌, ◌*◌, ◌≤◌, ◌<◌}
use native.Mathlib.Omega.{arith}
use lib.ListN.{length, take, drop}
use Rattle.answers.specs.Begins.{begins}
use Rattle.answers.specs.Checks.{◌>>=◌, only_if, any_holds, decide}
use Rattle.answers.proofs.Tests.{no_path, and_right}
use Rattle.packing.specs.Packing.{unpacked}
use Rattle.numbers.specs.Numbers.{is_number, are_digits, two_digits}
use Rattle.numbers.specs.declared.FunctionalNumber.{FunctionalNumber}
use Rattle.numbers.specs.declared.Msisdn.{Msisdn}
use Rattle.crews.specs.declared.Crew.{Crew}
use Rattle.crews.specs.declared.Crew.TheVariants.{Single, Codes, Broken}
use Rattle.crews.specs.Crews.{most_codes, bulk_text, codes_text, crew_text, codes_sound, codes_in, counted_codes_at, crew_of, counted, count_of}
use Rattle.crews.proofs.Codes.{length_codes, digits_codes, codes_back, codes_only}
use Rattle.crews.proofs.Crews.{sound_few, sound_codes, crew_only, codes_last, crew_count}
use Rattle.strings.specs.declared.Operation.{Operation}
use Rattle.strings.specs.declared.Operation.TheVariants.{Register, Erase, Interrogate}
use Rattle.strings.specs.declared.Erasing.{Erasing}
use Rattle.strings.specs.declared.Erasing.TheVariants.{Empty, Forced}
use Rattle.strings.specs.declared.Fields.{Fields}
use Rattle.strings.specs.declared.ReadRequest.{ReadRequest}
use Rattle.strings.specs.Text.{Request, request_from, erasing_sound, may_carry, is_lead, request_sound, most_characters}
use Rattle.strings.specs.Outcomes.{ReadOutcome, request_of, tell, made_read, reading}
use Rattle.strings.proofs.Text.{sound_rules, text_short}
use Rattle.strings.proofs.ReadBack.{read_only}
use Rattle.strings.proofs.Octets.{request_reads}
use Rattle.strings.proofs.Answered.{told_place, told_so, was_read}
use Rattle.strings.proofs.Choice.{beside_whole}
use Rattle.tables.specs.Tables.{flags_of}
use Rattle.states.specs.States.{State, state_sound, row_for, record_for}
use Rattle.rules.specs.Answers.{Answer, outcome, Outcome, made, packed_over, octet_count}
use Rattle.rules.specs.Requests.{has_follow_me, is_interrogate, is_forced, is_supervisor, refusal_checks, step_checks, staying, carried_out_at, step, replying, once}
use Rattle.rules.specs.Crews.{crew_codes, crew_number, Walk, walked, set_out, crew_outcome, carried_out_for, requesting}
use Rattle.rules.specs.Visits.{decides_at}
use Rattle.rules.proofs.Visits.{step_visits, step_misses, by_asks}
use Rattle.rules.proofs.Steps.{crew_plain}
use Rattle.rules.specs.Crews.{most_steps}
use Rattle.rules.specs.Singles.{plainly}
use Rattle.node.specs.Asked.{with_additional, asked_by}

-- ---- the checks of the requester's rights

module _ (t : State) (flags : ℕ) (b : List ℕ) (q : Msisdn) (f : Request) where
  -- the outcome n, with table and figures as they were
  abbrev Says : Answer → List ℕ → ℕ → Type 0
  Says said after n = (said ≡ outcome n (octet_count (two_digits n))) × (after ≡ packed_over (two_digits n) b)

  pub says_42 : (said : Answer) (after : List ℕ) → has_follow_me flags ≡ false → Says said after 42 → made said t after ≡ asked_by t flags b q f
  says_42 said after e s = rw (e, s.0, s.1)

  module _ (allowed : has_follow_me flags ≡ true) where
    pub says_22 : (said : Answer) (after : List ℕ) → (is_forced f.erasing && not (is_supervisor flags)) ≡ true → Says said after 22 → made said t after ≡ asked_by t flags b q f
    says_22 said after e s = rw (allowed, e, s.0, s.1)

    pub passes : (is_forced f.erasing && not (is_supervisor flags)) ≡ false → asked_by t flags b q f ≡ carried_out_for t b q f (crew_of f.additional)
    passes e = rw (allowed, e) refl

-- ---- what the additional field says of a crew

by_count : (field : List ℕ) (crew : Crew) → count_of field ≡ crew → (bulk : Bool) → begins bulk_text field ≡ bulk → (read : Option (List ℕ)) → crew_of field ≡ read
    → cond bulk (counted read) Single ≡ crew
unfolding count_of
by_count field crew e bulk p read r = rw (← p, ← r) e

pub single_crew : (field : List ℕ) → count_of field ≡ Single → crew_of field ≡ none
unfolding crew_of
single_crew field e = go (begins bulk_text field) refl (crew_of field) refl (by_count field Single e _ refl _ refl)
  where
    go : (bulk : Bool) → begins bulk_text field ≡ bulk → (read : Option (List ℕ)) → crew_of field ≡ read → cond bulk (counted read) Single ≡ Single → crew_of field ≡ none
    go bulk p none r h = r
    go true p (some codes) r h = absurd (let z : ◌≡◌ {A = ℕ} 0 1 = cc in omega arith)
    go false p (some codes) r h = ap (λ (o : Bool). only_if o (drop (length bulk_text) field) >>= counted_codes_at) p

-- a sound request has no broken one
pub no_broken : (f : Request) → request_sound f ≡ true → count_of f.additional ≡ Broken → ⊥
no_broken f sound e = no_path (rw e at (sound_rules f sound).crew)

-- ---- a single request

-- the additional field's content is ignored
step_same : (t : State) (q : Msisdn) (f : Fields) (field : List ℕ) → step t q (with_additional f field) ≡ step t q (with_additional f [])
unfolding step
step_same t q f field = ap (decide (map (staying t) (step_checks q (with_additional f []) (record_for t f.number.0)))) (go (row_for t f.number.0))
  where
    go : (place : core.Option ℕ) → carried_out_at (with_additional f field) place q t ≡ carried_out_at (with_additional f []) place q t
    go None = refl
    go (Some i) = refl

pub single_asked_lem : (t : State) (b : List ℕ) (q : Msisdn) (f : Fields) (field : List ℕ) → crew_of field ≡ none
    → carried_out_for t b q (with_additional f field) (crew_of field) ≡ once t b q (with_additional f [])
single_asked_lem t b q f field e = ap (carried_out_for t b q (with_additional f field)) e ∙ ap (replying b) (step_same t q f field)

-- by the row of its number
module _ (t : State) (b : List ℕ) (q : Msisdn) (f : Fields) where
  pub single_misses : (said : Answer) (after : List ℕ) → row_for t f.number.0 ≡ None → said ≡ outcome 41 (octet_count (two_digits 41)) → after ≡ packed_over (two_digits 41) b
      → made said t after ≡ once t b q (with_additional f [])
  single_misses said after e s d = rw (s, d) (sym (ap (replying b) (step_misses t q (with_additional f []) e)))

  pub single_visits : (o : Outcome) (i : ℕ) → row_for t f.number.0 ≡ Some i → erasing_sound f.operation f.erasing ≡ true
      → o ≡ replying b (decides_at f.operation f.erasing f.number q t i) → o ≡ once t b q (with_additional f [])
  single_visits o i e h d = d ∙ sym (ap (replying b) (step_visits t q (with_additional f []) i e h))

-- ---- a crew's

may_carry_lem : (o : Operation) (e : Erasing) → may_carry o e ≡ true → is_interrogate o ≡ false
may_carry_lem Register e h = refl
may_carry_lem Erase e h = refl
may_carry_lem Interrogate Empty h = no_path h
may_carry_lem Interrogate (Forced m) h = no_path h

walked_plain : (q : Msisdn) (o : Operation) (number : FunctionalNumber) (field codes : List ℕ) (w : Walk)
    → walked q (request_from o number Empty field) codes w ≡ walked q (plainly o number) codes w
unfolding walked
walked_plain q o number field [] w = refl
walked_plain q o number field (code ∷ codes) w = walked_plain q o number field codes _

crew_long : (codes : List ℕ) → 2 * length codes ≤ length (crew_text codes)
unfolding crew_text
crew_long [] = omega arith
crew_long (code ∷ codes) = omega (arith, length_codes (code ∷ codes))

-- the digits of its codes, and what `walks` asks for
module _ (f : Fields) (field : List ℕ) (n : ℕ) (sound : request_sound (with_additional f field) ≡ true) (count : count_of field ≡ Codes n) where
  abbrev codes : List ℕ
  codes = (crew_count field n count).0

  abbrev digits : List ℕ
  digits = drop (length field - 2 * n) field

  reads : crew_of field ≡ some codes
  reads = (crew_count field n count).1

  codes_sound_lem : codes_sound codes ≡ true
  codes_sound_lem = (crew_only field reads).1

  is_codes : digits ≡ codes_text codes
  is_codes = ap (λ (m : ℕ). drop (length field - 2 * m) field) (crew_count field n count).2 ∙ codes_last field reads

  pub crew_digits : are_digits digits ≡ true
  crew_digits = ap are_digits is_codes ∙ digits_codes codes (sound_codes codes codes_sound_lem)

  pub crew_few : length digits < 2 * most_steps
  crew_few = omega (arith, ap length is_codes, length_codes codes, sound_few codes codes_sound_lem)

  pub crew_most : n ≤ most_codes
  crew_most = omega (arith, (crew_count field n count).2, sound_few codes codes_sound_lem)

  -- the codes stand at the end of the field
  pub crew_within : 2 * n ≤ length field
  crew_within = omega (arith, (crew_count field n count).2, ap length (crew_only field reads).0, crew_long codes)

  pub crew_carried : is_interrogate f.operation ≡ false
  crew_carried =
      may_carry_lem f.operation f.erasing
      (and_right (is_lead f.number) (may_carry f.operation f.erasing) (rw count at (sound_rules (with_additional f field) sound).crew))

  pub crew_number_lem : is_number f.number.0 ≡ true
  crew_number_lem = (sound_rules (with_additional f field) sound).number

  pub crew_asked : (t : State) (b : List ℕ) (q : Msisdn)
      → carried_out_for t b q (with_additional f field) (crew_of field)
      ≡ crew_outcome (crew_number f.operation) b (walked q (plainly f.operation f.number) (crew_codes (codes_in digits)) (set_out t))
  crew_asked t b q =
      ap (carried_out_for t b q (with_additional f field)) reads
      ∙ ap (crew_outcome (crew_number f.operation) b)
      (ap (λ (e : Erasing). walked q (request_from f.operation f.number e field) (crew_codes codes) (set_out t)) (crew_plain (with_additional f field) sound reads)
      ∙ walked_plain q f.operation f.number field (crew_codes codes) (set_out t)
      ∙ ap (λ (l : List ℕ). walked q (plainly f.operation f.number) (crew_codes l) (set_out t)) (sym back))
    where
      back : codes_in digits ≡ codes
      back = ap codes_in is_codes ∙ (codes_only (codes_text codes) (codes_back codes (sound_codes codes codes_sound_lem))).same

-- ---- what the reader's answer says of the string

module _ (os : List ℕ) (r : ReadRequest) (done : made_read r ≡ reading os) where
  module _ (f : Fields) (e : r.reading ≡ Some f) where
    abbrev field : List ℕ
    field = take f.count (drop f.start r.text)

    string_reads : request_of os ≡ some (with_additional f field)
    string_reads = was_read os r done f e

    pub read_sound : request_sound (with_additional f field) ≡ true
    read_sound = (read_only (unpacked os) (request_reads os string_reads).1).0

    -- the additional field stands in the text
    read_ends : length (unpacked os) ≡ f.start + f.count + 1
    unfolding reading
    read_ends =
        let text = ap (λ (o : ReadOutcome). o.text) done in
        let whole = beside_whole os string_reads in
        told_place r.text (unpacked os) f (with_additional f field) (read_only (unpacked os) (request_reads os string_reads).1).1 (omega (arith, ap length text))
        (told_so os r done f e ∙ ap (tell (unpacked os)) string_reads)

    pub read_within : f.start + f.count ≤ length r.text
    unfolding reading
    read_within = omega (arith, ap (λ (o : ReadOutcome). length o.text) done, beside_whole os string_reads, read_ends)

    pub read_short : f.start + f.count < most_characters
    read_short = let text = ap length (read_only (unpacked os) (request_reads os string_reads).1).1 in omega (arith, read_ends, text_short (with_additional f field) read_sound)

    pub read_part : take (f.start + f.count - f.start) (drop f.start r.text) ≡ field
    read_part = let count : f.start + f.count - f.start ≡ f.count = omega arith in ap (λ (n : ℕ). take n (drop f.start r.text)) count

-- a request that no check refuses is asked
pub request_asked :
    (t : State) (list b : List ℕ) (q : Msisdn) (scheme : ℕ) (os : List ℕ) (f : Request) → state_sound t ≡ true
    → any_holds (refusal_checks true true list b q scheme os) ≡ false → request_of os ≡ some f → requesting t list b q scheme os ≡ asked_by t (flags_of list q.0) b q f
unfolding requesting
request_asked t list b q scheme os f sound passed reads = by_asks list b q scheme os t sound (λ g. carried_out_for t b q g (crew_of g.additional)) f passed reads
