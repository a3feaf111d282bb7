-- Sound fields part by part, and the text that is written from fields: field behind field, its characters and its length. Assumes nothing.
use mathlib.Core.Path.{◌≡◌, refl}
use mathlib.Core.Logic.{⊎_elim}
use mathlib.Core.Bool.{true, false, ◌&&◌, ◌||◌, and-true, and-false}
use mathlib.Core.List.{List, ◌++◌, append_assoc}
use Prim.Native.Nat.{ℕ, ◌+◌, ◌≤◌, ◌<◌}
use native.Mathlib.Omega.{arith}
use lib.ListN.{length, length-append}
use lib.Dec.{leb, eqb}
use borrow.Author.Tests.{leb-true, le-leb, lt-leb, eqb-true, lt-ltb, ne_eqb}
use Rattle.answers.specs.Leading.{each}
use Rattle.answers.proofs.Leading.{each_append, each_implies, each_leading}
use Rattle.answers.proofs.Tests.{and_left, and_right, or_cases, or_right}
use Rattle.numbers.specs.Numbers.{is_digit, is_number, is_nobody, number_or_nobody, digits_of}
use Rattle.numbers.specs.declared.Msisdn.{Msisdn}
use Rattle.numbers.proofs.Digits.{digits_are, digits_most}
use Rattle.numbers.proofs.Lengths.{no_digits, nobody_or_number}
use Rattle.packing.specs.Packing.{taken, takes, octets_for}
use Rattle.strings.specs.declared.Operation.{Operation}
use Rattle.strings.specs.declared.Operation.TheVariants.{Register, Erase, Interrogate}
use Rattle.strings.specs.declared.Erasing.{Erasing}
use Rattle.strings.specs.declared.Erasing.TheVariants.{Empty, Forced}
use Rattle.strings.specs.Text.{Request, is_additional, are_additional, most_additional, may_force, erasing_sound, crew_kept, request_sound, operation_text, service_text, star, hash, text_of, most_characters, most_octets}
use Rattle.strings.specs.Reader.{leading_additional}
use Rattle.strings.specs.Writable.{msisdn_writable, Writable}
use Rattle.strings.proofs.Exact.{starred, erasing_text}

-- the rules that sound fields keep, one by one
pub record Rules (f : Request) : Type 0 where
  pub number : is_number f.number.0 ≡ true
  pub erasing : erasing_sound f.operation f.erasing ≡ true
  pub few : leb (length f.additional) most_additional ≡ true
  pub additional : are_additional f.additional ≡ true
  pub crew : crew_kept f ≡ true

pub sound_rules : (f : Request) → request_sound f ≡ true → Rules f
unfolding request_sound
sound_rules f h =
    let n = is_number f.number.0 in
    let e = erasing_sound f.operation f.erasing in
    let l = leb (length f.additional) most_additional in
    let a = are_additional f.additional in
    let nela = and_left (n && e && l && a) (crew_kept f) h in
    let nel = and_left (n && e && l) a nela in
    let ne = and_left (n && e) l nel in
    record {
      number = and_left n e ne;
      erasing = and_right n e ne;
      few = and_right (n && e) l nel;
      additional = and_right (n && e && l) a nela;
      crew = and_right (n && e && l && a) (crew_kept f) h;
    }

pub rules_sound : (f : Request) → Rules f → request_sound f ≡ true
unfolding request_sound
rules_sound f r = rw (r.number, r.erasing, r.few, r.additional) r.crew

-- their text can be written
pub sound_writable : (f : Request) → request_sound f ≡ true → Writable f
sound_writable f h =
    let r = sound_rules f h in
    record { number = r.number; msisdn = named f.operation f.erasing r.erasing; few = r.few; additional = r.additional }
  where
    named : (o : Operation) (e : Erasing) → erasing_sound o e ≡ true → msisdn_writable e ≡ true
    named o Empty k = refl
    named o (Forced m) k = or_right (is_nobody m) (is_number m.0) (and_right (may_force o) (is_number m.0) k)

-- the tests as the writer makes them
pub unsound_many : (f : Request) → most_additional < length f.additional → request_sound f ≡ false
unfolding request_sound
unsound_many f h = rw (lt-leb (length f.additional) most_additional h, and-false)

pub sound_few :
    (f : Request) → length f.additional ≤ most_additional
    → request_sound f
    ≡ (is_number f.number.0 && erasing_sound f.operation f.erasing && eqb (leading_additional f.additional) (length f.additional) && crew_kept f)
unfolding request_sound
sound_few f h = rw (le-leb (length f.additional) most_additional h, and-true, each_leading is_additional f.additional)

-- the text, field behind field
pub text_fields :
    (f : Request)
    → text_of f
    ≡ operation_text f.operation
    ++ ((service_text ++ star) ++ (starred f.number.0 ++ (erasing_text f.erasing ++ (f.additional ++ hash))))
unfolding text_of
text_fields f = simp append_assoc

-- ---- its characters

-- digits, letters and space lie between a space and Z
additional_range : (c : ℕ) → is_additional c ≡ true → (32 ≤ c) × (c ≤ 90)
unfolding is_additional is_digit
additional_range c h =
    ⊎_elim
    (λ d.
    ⊎_elim (between 48 57 (omega arith) (omega arith)) (between 65 90 (omega arith) (omega arith))
    (or_cases (leb 48 c && leb c 57) (leb 65 c && leb c 90) d))
    (λ e. omega (arith, eqb-true c 32 e))
    (or_cases (leb 48 c && leb c 57 || (leb 65 c && leb c 90)) (eqb c 32) h)
  where
    between : (a b : ℕ) → 32 ≤ a → b ≤ 90 → (leb a c && leb c b) ≡ true → (32 ≤ c) × (c ≤ 90)
    between a b low high e = omega (arith, leb-true a c (and_left (leb a c) (leb c b) e), leb-true c b (and_right (leb a c) (leb c b) e))

additional_taken : (c : ℕ) → is_additional c ≡ true → taken c ≡ true
unfolding taken
additional_taken c h = let r = additional_range c h in rw (lt-ltb c 128 (omega arith), ne_eqb c 13 (λ e. omega arith))

digit_additional : (c : ℕ) → is_digit c ≡ true → is_additional c ≡ true
unfolding is_additional
digit_additional c h = rw h

both_taken : (a b : List ℕ) → takes a ≡ true → takes b ≡ true → takes (a ++ b) ≡ true
both_taken a b p q = rw (each_append taken a b, p) q

starred_taken : (w : ℕ) → is_number w ≡ true → takes (starred w) ≡ true
starred_taken w h =
    both_taken (digits_of w) star (each_implies is_digit taken (λ c d. additional_taken c (digit_additional c d)) (digits_of w) (digits_are w h)) (unfold each taken in refl)

pub text_taken : (f : Request) → Writable f → takes (text_of f) ≡ true
unfolding each taken
text_taken f r =
    rw (text_fields f)
    (both_taken (operation_text f.operation) _ (operation f.operation)
    (both_taken (starred f.number.0) _ (starred_taken f.number.0 r.number)
    (both_taken (erasing_text f.erasing) _ (erasing f.erasing r.msisdn)
    (both_taken f.additional hash (each_implies is_additional taken additional_taken f.additional r.additional) refl))))
  where
    operation : (o : Operation) → takes (operation_text o) ≡ true
    operation Register = refl
    operation Erase = refl
    operation Interrogate = refl

    erasing : (e : Erasing) → msisdn_writable e ≡ true → takes (erasing_text e) ≡ true
    erasing Empty k = refl
    erasing (Forced m) k = nobody_or_number (λ w. takes (starred w) ≡ true) m.0 k (rw no_digits) (starred_taken m.0)

-- ---- its length, as it grows

-- what stands before the number, before the fields of an erasure, and before the additional field
abbrev pub before_number : Request → List ℕ
before_number f = operation_text f.operation ++ (service_text ++ star)

abbrev pub before_erasing : Request → List ℕ
before_erasing f = before_number f ++ starred f.number.0

abbrev pub before_additional : Request → List ℕ
before_additional f = before_erasing f ++ erasing_text f.erasing

pub text_grows : (f : Request) → text_of f ≡ before_additional f ++ (f.additional ++ hash)
unfolding text_of
text_grows f = simp append_assoc

pub before_number_lem : (f : Request) → length (before_number f) ≡ 6
before_number_lem f = go f.operation
  where
    go : (o : Operation) → length (operation_text o ++ (service_text ++ star)) ≡ 6
    go Register = refl
    go Erase = refl
    go Interrogate = refl

pub before_erasing_lem : (f : Request) → Writable f → length (before_erasing f) ≤ 22
before_erasing_lem f r =
    simp (length-append (before_number f), length-append (digits_of f.number.0)) (omega (arith, before_number_lem f, digits_most f.number.0 r.number))

pub supervisor_most : (s : Msisdn) → number_or_nobody s.0 ≡ true → length (digits_of s.0) ≤ 15
supervisor_most s h = nobody_or_number (λ w. length (digits_of w) ≤ 15) s.0 h (rw no_digits (omega arith)) (digits_most s.0)

pub before_additional_lem : (f : Request) → Writable f → length (before_additional f) ≤ 41
before_additional_lem f r = simp (length-append (before_erasing f)) (omega (arith, before_erasing_lem f r, go f.erasing r.msisdn))
  where
    go : (e : Erasing) → msisdn_writable e ≡ true → length (erasing_text e) ≤ 19
    go Empty k = omega arith
    go (Forced m) k = simp length-append (omega (arith, supervisor_most m k))

pub text_length : (f : Request) → Writable f → length (text_of f) ≤ 42 + length f.additional
text_length f r =
    rw (text_grows f, length-append (before_additional f) (f.additional ++ hash), length-append f.additional hash) (omega (arith, before_additional_lem f r))

pub writable_short : (f : Request) → Writable f → length (text_of f) ≤ most_characters
writable_short f r = omega (arith, text_length f r, leb-true (length f.additional) most_additional r.few)

pub writable_octets : (f : Request) → Writable f → octets_for (length (text_of f)) ≤ most_octets
unfolding octets_for
writable_octets f r = omega (arith, writable_short f r)

-- the same of sound fields
pub text_short : (f : Request) → request_sound f ≡ true → length (text_of f) ≤ most_characters
text_short f h = writable_short f (sound_writable f h)

pub octets_short : (f : Request) → request_sound f ≡ true → octets_for (length (text_of f)) ≤ most_octets
octets_short f h = writable_octets f (sound_writable f h)
