-- What a crew's walk counts: ten codes at most, of two digits each; so its reply has at most 28 characters, all of which the packer takes. Assumes nothing.
use mathlib.Core.Path.{◌≡◌, refl}
use mathlib.Core.Logic.{⊎_elim}
use mathlib.Core.Bool.{Bool, true, false}
use mathlib.Core.Option.{some}
use mathlib.Core.List.{List, [], ◌∷◌, ◌++◌}
use Prim.Native.Nat.{ℕ, ◌+◌, ◌*◌, ◌≤◌, ◌<◌}
use native.Mathlib.Omega.{arith}
use lib.ListN.{length, length-append}
use borrow.Author.Tests.{lt-ltb, le-ltb}
use Rattle.answers.specs.Leading.{each}
use Rattle.answers.proofs.Tests.{less_or_not}
use Rattle.packing.specs.Packing.{takes}
use Rattle.numbers.specs.Numbers.{two_digits, numeral}
use Rattle.numbers.specs.declared.Msisdn.{Msisdn}
use Rattle.crews.specs.Crews.{codes_text, spaced_codes, crew_of}
use Rattle.crews.proofs.Codes.{length_codes}
use Rattle.crews.proofs.Crews.{sound_few, crew_only}
use Rattle.strings.specs.Text.{Request}
use Rattle.states.specs.States.{State}
use Rattle.rules.specs.Requests.{step}
use Rattle.rules.specs.Crews.{member_of, crew_codes, most_steps, Walk, is_success, walked_on, walked, set_out, codes_and_space, crew_reply}
use Rattle.rules.proofs.Taken.{takes_two, takes_numeral, takes_both, takes_space}
use Rattle.rules.proofs.Crews.{Small}
use Rattle.rules.proofs.Steps.{codes_small}

pub record Tallied (w : Walk) : Type 0 where
  pub few : length w.successes + length w.failures ≤ most_steps
  pub successes : Small w.successes
  pub failures : Small w.failures

-- ---- the walk

small_behind : (l : List ℕ) (code : ℕ) → Small l → code < 100 → Small (l ++ (code ∷ []))
small_behind [] code s c = (c, tt)
small_behind (x ∷ l) code (h, s) c = (h, small_behind l code s c)

module _ (requester : Msisdn) (f : Request) where
  walked_tallied : (codes : List ℕ) (w : Walk) → Small codes → Small w.successes → Small w.failures
      → length w.successes + length w.failures + length codes ≤ most_steps → Tallied (walked requester f codes w)
  unfolding walked
  walked_tallied [] w c s u h = record { few = omega arith; successes = s; failures = u }
  walked_tallied (code ∷ codes) w (c, cs) s u h = go (is_success (step w.state requester (member_of f code)).verdict) refl (walked_tallied codes _ cs)
    where
      next : Walk
      next = walked_on code (step w.state requester (member_of f code)) w

      go : (b : Bool) → is_success (step w.state requester (member_of f code)).verdict ≡ b
          → (Small next.successes → Small next.failures → length next.successes + length next.failures + length codes ≤ most_steps → Tallied (walked requester f codes next))
          → Tallied (walked requester f codes next)
      go true e rest = rest (rw e (small_behind w.successes code s c)) (rw e u) (rw e (omega (arith, length-append w.successes (code ∷ []))))
      go false e rest = rest (rw e s) (rw e (small_behind w.failures code u c)) (rw e (omega (arith, length-append w.failures (code ∷ []))))

  pub crew_tallied : (codes : List ℕ) (t : State) → crew_of f.additional ≡ some codes → Tallied (walked requester f (crew_codes codes) (set_out t))
  crew_tallied codes t e =
      walked_tallied (crew_codes codes) (set_out t) (codes_small f codes e) tt tt (omega (arith, sound_few codes (crew_only f.additional e).1))

-- ---- the reply

numeral_one : (n : ℕ) → n < 10 → length (numeral n) ≡ 1
numeral_one n h = rw (lt-ltb n 10 h) refl

numeral_two : (n : ℕ) → 10 ≤ n → length (numeral n) ≡ 2
numeral_two n h = rw (le-ltb n 10 h) refl

codes_space : (l : List ℕ) → length (codes_and_space l) ≤ 2 * length l + 1
codes_space [] = omega arith
codes_space (c ∷ l) = omega (arith, length-append (codes_text (c ∷ l)) (32 ∷ []), length_codes (c ∷ l))

codes_spaced : (l : List ℕ) → length (spaced_codes l) ≤ 2 * length l + 1
codes_spaced [] = omega arith
codes_spaced (c ∷ l) = omega (arith, length_codes (c ∷ l))

none_space : (l : List ℕ) → length l ≡ 0 → length (codes_and_space l) ≡ 0
none_space [] e = refl
none_space (c ∷ l) e = absurd (omega arith)

none_spaced : (l : List ℕ) → length l ≡ 0 → length (spaced_codes l) ≡ 0
none_spaced [] e = refl
none_spaced (c ∷ l) e = absurd (omega arith)

-- at most 28 characters
abbrev pub most_reply : ℕ
most_reply = 28

module _ (n : ℕ) (w : Walk) (tallied : Tallied w) where
  abbrev s : ℕ
  s = length w.successes

  abbrev u : ℕ
  u = length w.failures

  whole : length (crew_reply n w) ≡ 2 + (1 + length (numeral s)) + (1 + length (codes_and_space w.successes)) + length (numeral u) + length (spaced_codes w.failures)
  whole = simp length-append (omega arith)

  pub reply_short : length (crew_reply n w) ≤ most_reply
  reply_short =
      let few = tallied.few in
      let a = codes_space w.successes in
      let b = codes_spaced w.failures in
      ⊎_elim
      (λ x. ⊎_elim (λ y. omega (arith, whole, numeral_one s x, numeral_one u y))
      (λ y. omega (arith, whole, numeral_one s x, numeral_two u y, none_space w.successes (omega arith))) (less_or_not u 10))
      (λ x. omega (arith, whole, numeral_two s x, numeral_one u (omega arith), none_spaced w.failures (omega arith))) (less_or_not s 10)

-- ---- the packer takes it

takes_codes : (l : List ℕ) → Small l → takes (codes_text l) ≡ true
unfolding each
takes_codes [] h = refl
takes_codes (c ∷ l) (h, s) = takes_both (two_digits c) (codes_text l) (takes_two c (omega arith)) (takes_codes l s)

takes_codes_space : (l : List ℕ) → Small l → takes (codes_and_space l) ≡ true
unfolding each
takes_codes_space [] h = refl
takes_codes_space (c ∷ l) h = takes_both (codes_text (c ∷ l)) (32 ∷ []) (takes_codes (c ∷ l) h) (takes_space [] refl)

takes_spaced : (l : List ℕ) → Small l → takes (spaced_codes l) ≡ true
unfolding each
takes_spaced [] h = refl
takes_spaced (c ∷ l) h = takes_space (codes_text (c ∷ l)) (takes_codes (c ∷ l) h)

pub reply_taken : (n : ℕ) → n < 256 → (w : Walk) → Tallied w → takes (crew_reply n w) ≡ true
reply_taken n h w t =
    let few = t.few in
    takes_both (((two_digits n ++ (32 ∷ numeral (length w.successes))) ++ (32 ∷ codes_and_space w.successes)) ++ numeral (length w.failures)) (spaced_codes w.failures)
    (takes_both ((two_digits n ++ (32 ∷ numeral (length w.successes))) ++ (32 ∷ codes_and_space w.successes)) (numeral (length w.failures))
    (takes_both (two_digits n ++ (32 ∷ numeral (length w.successes))) (32 ∷ codes_and_space w.successes)
    (takes_both (two_digits n) (32 ∷ numeral (length w.successes)) (takes_two n h) (takes_space (numeral (length w.successes)) (takes_numeral (length w.successes) (omega arith))))
    (takes_space (codes_and_space w.successes) (takes_codes_space w.successes t.successes)))
    (takes_numeral (length w.failures) (omega arith)))
    (takes_spaced w.failures t.failures)
