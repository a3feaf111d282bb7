-- What the code counts, beside the walk of the rules. Assumes nothing.
use mathlib.Core.Path.{◌≡◌, refl, sym, ap, ◌∙◌}
use mathlib.Core.Bool.{true, false}
use mathlib.Core.List.{List, [], ◌∷◌, ◌++◌, append_assoc}
use Prim.Native.Nat.{ℕ, suc, ◌+◌, ◌*◌, ◌/◌, ◌%◌, ◌≤◌, ◌<◌}
use native.Mathlib.Omega.{arith}
use lib.ListN.{length, set, take, drop, length-set, length-append}
use lib.Seq.{take-suc-set}
use mathlib.Core.Logic.{◌⊎◌, inl, inr}
use Rattle.answers.specs.Leading.{each}
use Rattle.answers.specs.Numbers.{outcome_number}
use Rattle.answers.specs.declared.Outcome.{Outcome}
use Rattle.answers.specs.declared.Outcome.TheVariants as outcome
use Rattle.answers.proofs.Leading.{each_append}
use Rattle.numbers.specs.Numbers.{is_digit, are_digits, two_digits}
use Rattle.numbers.specs.declared.FunctionalNumber.{FunctionalNumber}
use Rattle.numbers.specs.declared.Msisdn.{Msisdn}
use Rattle.crews.specs.Crews.{lead_code, codes_text, code_at, codes_in}
use Rattle.crews.proofs.Codes.{two_digits_lem}
use Rattle.crews.proofs.Reading.{codes_from, codes_end}
use Rattle.strings.specs.declared.Operation.{Operation}
use Rattle.states.specs.States.{State}
use Rattle.rules.specs.Requests.{says, comes_to, step}
use Rattle.rules.specs.Crews.{member_of, crew_codes, Walk, is_success, walked_on, walked}
use Rattle.walks.specs.declared.Codes.{Codes}
use Rattle.walks.specs.declared.Tally.{Tally}
use Rattle.rules.specs.Crews.{most_steps}
use Rattle.rules.specs.Singles.{plainly}
use Rattle.walks.specs.Tallies.{Holds, Tallies, gone_on}

-- ---- one code more

codes_snoc : (l : List ℕ) (code : ℕ) → codes_text (l ++ (code ∷ [])) ≡ codes_text l ++ two_digits code
codes_snoc [] code = refl
codes_snoc (x ∷ l) code = ap (λ (r : List ℕ). two_digits x ++ r) (codes_snoc l code)

two_more : (d : List ℕ) (n x y : ℕ) → 2 * n + 1 < length d → take (2 * (n + 1)) (set (set d (2 * n) x) (2 * n + 1) y) ≡ take (2 * n) d ++ (x ∷ y ∷ [])
two_more d n x y h =
    let two : 2 * (n + 1) ≡ suc (2 * n + 1) = omega arith in
    let one : 2 * n + 1 ≡ suc (2 * n) = omega arith in
    rw two
    (take-suc-set (set d (2 * n) x) (2 * n + 1) y (rw length-set h)
    ∙ rw one (ap (λ (r : List ℕ). r ++ (y ∷ [])) (take-suc-set d (2 * n) x (omega arith)))
    ∙ append_assoc (take (2 * n) d) (x ∷ []) (y ∷ []))

pub one_more :
    (c : Codes) (code : ℕ) (l : List ℕ) → c.count < most_steps → code < 100 → Holds c l
    → Holds (record { digits = set (set c.digits (2 * c.count) (48 + code / 10)) (2 * c.count + 1) (48 + code % 10); count = c.count + 1 }) (l ++ (code ∷ []))
one_more c code l few small h = record {
  room = simp length-set h.room;
  count = omega (arith, h.count, length-append l (code ∷ []));
  text =
      two_more c.digits c.count (48 + code / 10) (48 + code % 10) (omega (arith, h.room))
      ∙ ap (λ (r : List ℕ). r ++ two_digits code) h.text ∙ sym (codes_snoc l code);
  digits =
      ap are_digits (codes_snoc l code) ∙ each_append is_digit (codes_text l) (two_digits code)
      ∙ rw h.digits (two_digits_lem code [] small (unfold each in refl));
}

-- ---- one step more

-- "Success is 01 or 02"
pub succeeds : (o : Outcome) → ((o ≡ outcome.Registered) ⊎ (o ≡ outcome.Erased)) → is_success (says (outcome_number o)) ≡ true
succeeds o (inl e) = rw e
succeeds o (inr e) = rw e

pub fails : (o : Outcome) → (o ≡ outcome.Registered → ⊥) → (o ≡ outcome.Erased → ⊥) → is_success (says (outcome_number o)) ≡ false
fails outcome.Registered r e = absurd (r refl)
fails outcome.Erased r e = absurd (e refl)
fails outcome.CrewRegistered r e = refl
fails outcome.CrewErased r e = refl
fails outcome.NoSupervisor r e = refl
fails outcome.UnknownNumber r e = refl
fails outcome.NoFollowMe r e = refl
fails outcome.HeldByAnother r e = refl
fails outcome.NoHolder r e = refl
fails outcome.NotTheHolder r e = refl
fails outcome.ClosedNumber r e = refl
fails outcome.OwnNumber r e = refl
fails outcome.NoticePending r e = refl

module _ (tally : Tally) (t new : State) (n : ℕ) (requester : Msisdn) (o : Operation) (lead : FunctionalNumber) (code : ℕ)
    (stepped : comes_to (says n) new ≡ step t requester (member_of (plainly o lead) code)) (w : Walk) (stands : Tallies tally t w) (c : Codes) where
  gone : gone_on requester o lead code w ≡ walked_on code (comes_to (says n) new) w
  gone = ap (λ (u : State). walked_on code (step u requester (member_of (plainly o lead) code)) w) (sym stands.left) ∙ ap (λ s. walked_on code s w) (sym stepped)

  pub step_succeeds : is_success (says n) ≡ true → Holds c (w.successes ++ (code ∷ [])) → Tallies (record { successes = c; failures = tally.failures }) new (gone_on requester o lead code w)
  step_succeeds e h = rw (gone, e) (record { successes = h; failures = stands.failures; left = refl })

  pub step_fails : is_success (says n) ≡ false → Holds c (w.failures ++ (code ∷ [])) → Tallies (record { successes = tally.successes; failures = c }) new (gone_on requester o lead code w)
  step_fails e h = rw (gone, e) (record { successes = stands.successes; failures = h; left = refl })

-- the walk goes on with the codes that are left
module _ (requester : Msisdn) (o : Operation) (lead : FunctionalNumber) (digits : List ℕ) (i : ℕ) (w : Walk) where
  pub walk_on : (code : ℕ) → 2 * i + 1 < length digits → code ≡ code_at digits i
      → walked requester (plainly o lead) (codes_in (drop (2 * (i + 1)) digits)) (gone_on requester o lead code w) ≡ walked requester (plainly o lead) (codes_in (drop (2 * i) digits)) w
  unfolding walked
  walk_on code h e = rw (codes_from digits i h, e) refl

  pub walk_ends : length digits / 2 ≤ i → walked requester (plainly o lead) (codes_in (drop (2 * i) digits)) w ≡ w
  unfolding walked
  walk_ends h = rw (codes_end digits i h) refl

pub walk_starts : (requester : Msisdn) (o : Operation) (lead : FunctionalNumber) (codes : List ℕ) (w : Walk)
    → walked requester (plainly o lead) (crew_codes codes) w ≡ walked requester (plainly o lead) codes (gone_on requester o lead lead_code w)
unfolding walked
walk_starts requester o lead codes w = refl
