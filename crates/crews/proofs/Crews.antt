-- A field reads exactly if it is the text of sound codes, and then as those codes. Assumes nothing.
use mathlib.Core.Path.{◌≡◌, refl, ap, ◌∙◌}
use mathlib.Core.Logic.{◌↔◌}
use mathlib.Core.Bool.{Bool, true, false, cond}
use mathlib.Core.Option.{Option, none, some, some-injective}
use mathlib.Core.List.{List, [], ◌∷◌, ◌++◌}
use Prim.Native.Nat.{ℕ, ◌+◌, ◌-◌, ◌*◌, ◌≤◌, ◌<◌}
use native.Mathlib.Omega.{arith}
use lib.ListN.{length, get_or, drop}
use lib.Dec.{leb, eqb, ltb}
use borrow.Author.Tests.{eqb-true, eq-eqb, ltb-true, lt-ltb, leb-true}
use Rattle.answers.specs.Begins.{begins, behind}
use Rattle.answers.specs.Checks.{only_if}
use Rattle.answers.specs.Leading.{each}
use Rattle.answers.proofs.Begins.{behind_only}
use Rattle.answers.proofs.Leading.{each_at}
use Rattle.answers.proofs.Tests.{and_left, and_right}
use Rattle.answers.proofs.Checks.{not_some, bind_some, only_if_some}
use Rattle.crews.specs.declared.Crew.TheVariants.{Single, Codes}
use Rattle.crews.specs.Crews.{most_codes, bulk_text, codes_text, spaced_codes, crew_text, is_code, distinct, codes_allowed, codes_sound, codes_at, sound_codes_at, spaced_codes_at, counted_codes_at, crew_of, is_bulk, counted, count_of}
use Rattle.crews.proofs.Codes.{code_below, length_codes, codes_back, codes_only}

-- ---- sound codes

module _ (codes : List ℕ) (sound : codes_sound codes ≡ true) where
  pub sound_few : length codes ≤ most_codes
  unfolding codes_sound
  sound_few = leb-true (length codes) most_codes (and_left (leb (length codes) most_codes) (codes_allowed codes) sound)

  pub sound_codes : each is_code codes ≡ true
  unfolding codes_sound
  sound_codes = and_left (each is_code codes) (distinct codes) (and_right (leb (length codes) most_codes) (codes_allowed codes) sound)

  sound_back : sound_codes_at (codes_text codes) ≡ some codes
  unfolding sound_codes_at
  sound_back = rw (codes_back codes sound_codes, sound)

spaced_back : (codes : List ℕ) → codes_sound codes ≡ true → spaced_codes_at (spaced_codes codes) ≡ some codes
unfolding spaced_codes_at
spaced_back [] h = refl
spaced_back (c ∷ cs) h = rw (sound_back (c ∷ cs) h, lt-ltb 0 (length (c ∷ cs)) (omega arith))

pub crew_back : (codes : List ℕ) → codes_sound codes ≡ true → crew_of (crew_text codes) ≡ some codes
unfolding crew_text crew_of counted_codes_at begins
crew_back codes h = rw (spaced_back codes h, eq-eqb (48 + length codes) (48 + length codes) refl)

-- ---- and no other field reads

pub sound_only : (s : List ℕ) {codes : List ℕ} → sound_codes_at s ≡ some codes → (s ≡ codes_text codes) × (codes_sound codes ≡ true)
unfolding sound_codes_at
sound_only s h =
    bind_some (codes_at s) _ h λ codes r k.
    let t = only_if_some (codes_sound codes) k in
    rw (← t.1) ((codes_only s r).text, t.0)

pub spaced_only : (s : List ℕ) {codes : List ℕ} → spaced_codes_at s ≡ some codes → (s ≡ spaced_codes codes) × (codes_sound codes ≡ true)
unfolding spaced_codes_at codes_sound each distinct
spaced_only [] h = rw (← (some-injective _ _ h)) (refl, refl)
spaced_only (c ∷ s) h =
    bind_some (only_if (eqb c 32) s) _ h λ rest p g.
    bind_some (sound_codes_at rest) _ g λ codes r k.
    let w = only_if_some (eqb c 32) p in
    let t = only_if_some (ltb 0 (length codes)) k in
    let o = sound_only rest r in
    rw (← t.1) (
      rw (eqb-true c 32 w.0, w.1) (ap (λ (l : List ℕ). 32 ∷ l) o.0 ∙ spaced codes (ltb-true 0 (length codes) t.0)),
      o.1,
    )
  where
    spaced : (codes : List ℕ) → 0 < length codes → 32 ∷ codes_text codes ≡ spaced_codes codes
    spaced [] h = absurd (omega arith)
    spaced (c ∷ cs) h = refl

counted_only : (s : List ℕ) {codes : List ℕ} → counted_codes_at s ≡ some codes → (s ≡ (48 + length codes) ∷ spaced_codes codes) × (codes_sound codes ≡ true)
unfolding counted_codes_at
counted_only [] h = not_some h
counted_only (n ∷ s) h =
    bind_some (spaced_codes_at s) _ h λ codes r k.
    let t = only_if_some (eqb n (48 + length codes)) k in
    let o = spaced_only s r in
    rw (← t.1) (rw (eqb-true n (48 + length codes) t.0) (ap (λ (l : List ℕ). (48 + length codes) ∷ l) o.0), o.1)

pub crew_only : (field : List ℕ) {codes : List ℕ} → crew_of field ≡ some codes → (field ≡ crew_text codes) × (codes_sound codes ≡ true)
unfolding crew_text crew_of
crew_only field h =
    bind_some (behind bulk_text field) _ h λ rest r k.
    let o = counted_only rest k in
    (behind_only bulk_text field r ∙ ap (λ (l : List ℕ). bulk_text ++ l) o.0, o.1)

pub crew_exactly : (field codes : List ℕ) → (crew_of field ≡ some codes) ↔ ((field ≡ crew_text codes) × (codes_sound codes ≡ true))
crew_exactly field codes = (crew_only field, λ h. ap crew_of h.0 ∙ crew_back codes h.1)

-- ---- the places of the codes in a field

pub length_crew : (codes : List ℕ) → length (crew_text codes) ≤ 6 + 2 * length codes
unfolding crew_text
length_crew [] = omega arith
length_crew (c ∷ cs) = omega (arith, length_codes cs)

-- at most 24 characters: a crew's field fits into the 30 of an additional field
pub crew_fits : (field : List ℕ) {codes : List ℕ} → crew_of field ≡ some codes → length field ≤ 24
crew_fits field {codes} h = let o = crew_only field h in rw o.0 (omega (arith, length_crew codes, sound_few codes o.1))

-- the codes stand at the end of the field
last_codes : (codes : List ℕ) → drop (length (crew_text codes) - 2 * length codes) (crew_text codes) ≡ codes_text codes
unfolding crew_text
last_codes [] = refl
last_codes (c ∷ cs) = let six : length (crew_text (c ∷ cs)) - 2 * length (c ∷ cs) ≡ 6 = omega (arith, length_codes cs) in rw six

pub codes_last : (field : List ℕ) {codes : List ℕ} → crew_of field ≡ some codes → drop (length field - 2 * length codes) field ≡ codes_text codes
codes_last field {codes} h = let o = crew_only field h in rw o.0 (last_codes codes)

-- ---- what a caller of `read_crew` is told

pub crew_count : (field : List ℕ) (n : ℕ) → count_of field ≡ Codes n → (codes : List ℕ) × (crew_of field ≡ some codes) × (n ≡ length codes)
unfolding count_of
crew_count field n e = go (is_bulk field) (crew_of field) refl e
  where
    go :
        (b : Bool) (o : Option (List ℕ)) → crew_of field ≡ o → cond b (counted o) Single ≡ Codes n
        → (codes : List ℕ) × (crew_of field ≡ some codes) × (n ≡ length codes)
    go true none r d = absurd (let z : ◌≡◌ {A = ℕ} 0 1 = cc in omega arith)
    go true (some codes) r d = (codes, r, cc)
    go false o r d = absurd (let z : ◌≡◌ {A = ℕ} 0 1 = cc in omega arith)

module _ (field : List ℕ) {codes : List ℕ} (crew : crew_of field ≡ some codes) where
  -- the end of the field reads as the codes: `code_at` then gives the value of each
  pub codes_there : codes_at (drop (length field - 2 * length codes) field) ≡ some codes
  codes_there = rw (codes_last field crew) (codes_back codes (sound_codes codes (crew_only field crew).1))

  pub codes_below : (i : ℕ) → i < length codes → get_or codes i 0 < 100
  codes_below i h = code_below (get_or codes i 0) (each_at is_code codes i (sound_codes codes (crew_only field crew).1) h)
