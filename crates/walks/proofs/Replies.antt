-- The text of a crew's reply: it is as the rules have it, it fits, and the packer takes it. Assumes nothing.
use mathlib.Core.Path.{◌≡◌, refl, sym, ap, ◌∙◌}
use mathlib.Core.Bool.{Bool, true, false, cond}
use mathlib.Core.List.{List, [], ◌∷◌, ◌++◌, append_assoc}
use Prim.Native.Nat.{ℕ, ◌+◌, ◌*◌, ◌≤◌, ◌<◌}
use native.Mathlib.Omega.{arith}
use lib.ListN.{length, take, length-append, length-take}
use lib.Dec.{eqb}
use borrow.Author.Tests.{ne_eqb}
use Rattle.answers.specs.Leading.{each}
use Rattle.answers.proofs.Leading.{each_implies}
use Rattle.packing.specs.Packing.{taken, takes}
use Rattle.numbers.specs.Numbers.{is_digit, are_digits, numeral, two_digits}
use Rattle.crews.specs.Crews.{codes_text, spaced_codes}
use Rattle.strings.specs.declared.Operation.{Operation}
use Rattle.strings.specs.declared.Operation.TheVariants.{Register, Erase, Interrogate}
use Rattle.states.specs.States.{State}
use Rattle.rules.specs.Crews.{Walk, crew_number, codes_and_space, crew_reply}
use Rattle.writers.proofs.Numerals.{numeral_short}
use Rattle.rules.proofs.Taken.{digit_taken, takes_numeral, takes_both, takes_space}
use Rattle.walks.specs.declared.Codes.{Codes}
use Rattle.walks.specs.declared.Tally.{Tally}
use Rattle.rules.specs.Crews.{most_steps}
use Rattle.walks.specs.Tallies.{Holds, steps_counted, FitsReply, Tallies, part_of, reply_room, tally_text}

-- ---- a part of it

pub part_none : (c : Codes) → c.count ≡ 0 → part_of c ≡ 32 ∷ numeral c.count
part_none c e = rw e refl

pub part_some : (c : Codes) → (c.count ≡ 0 → ⊥) → part_of c ≡ (32 ∷ numeral c.count) ++ (32 ∷ take (2 * c.count) c.digits)
part_some c e = rw (ne_eqb c.count 0 e) refl

pub part_short : (c : Codes) → length (part_of c) ≤ 4 + 2 * c.count
part_short c = go (eqb c.count 0)
  where
    go : (b : Bool) → length (32 ∷ (numeral c.count ++ cond b [] (32 ∷ take (2 * c.count) c.digits))) ≤ 4 + 2 * c.count
    go true = omega (arith, length-append (numeral c.count) [], numeral_short c.count)
    go false =
        omega
        (arith, length-append (numeral c.count) (32 ∷ take (2 * c.count) c.digits), numeral_short c.count, length-take (2 * c.count) c.digits)

-- two digits, and twice a part, of ten codes in all
pub tally_short : (n : ℕ) (tally : Tally) → FitsReply tally → length (tally_text n tally) ≤ reply_room
tally_short n tally fits =
    let few = fits.few in
    omega
    (arith, length-append (numeral n ++ part_of tally.successes) (part_of tally.failures), length-append (numeral n) (part_of tally.successes), numeral_short n, part_short tally.successes, part_short tally.failures)

part_text : (c : Codes) (l : List ℕ) → Holds c l → part_of c ≡ 32 ∷ (numeral (length l) ++ spaced_codes l)
part_text c [] h = part_none c h.count ∙ rw h.count refl
part_text c (x ∷ l) h = part_some c (λ e. omega (arith, h.count)) ∙ rw (h.text, h.count) refl

-- ---- the whole

-- "their codes and a space if there are any" behind a space
spaces : (l rest : List ℕ) → spaced_codes l ++ (32 ∷ rest) ≡ 32 ∷ (codes_and_space l ++ rest)
spaces [] rest = refl
spaces (x ∷ l) rest = ap (λ (r : List ℕ). 32 ∷ r) (sym (append_assoc (codes_text (x ∷ l)) (32 ∷ []) rest))

joins : (a e c b d : List ℕ) → e ++ (32 ∷ (b ++ d)) ≡ 32 ∷ (c ++ (b ++ d)) → (a ++ e) ++ (32 ∷ (b ++ d)) ≡ a ++ (32 ∷ c) ++ b ++ d
joins a e c b d h =
    append_assoc a e (32 ∷ (b ++ d)) ∙ ap (λ (r : List ℕ). a ++ r) h
    ∙ sym (append_assoc a (32 ∷ c) (b ++ d)) ∙ sym (append_assoc (a ++ (32 ∷ c)) b d)

module _ (tally : Tally) (t : State) (w : Walk) (stands : Tallies tally t w) where
  pub tally_text_lem : (n : ℕ) → numeral n ≡ two_digits n → tally_text n tally ≡ crew_reply n w
  tally_text_lem n two =
      ap (λ (r : List ℕ). (r ++ part_of tally.successes) ++ part_of tally.failures) two
      ∙ ap (λ (r : List ℕ). (two_digits n ++ r) ++ part_of tally.failures) (part_text tally.successes w.successes stands.successes)
      ∙ ap (λ (r : List ℕ). (two_digits n ++ (32 ∷ (successes ++ spaced_codes w.successes))) ++ r) (part_text tally.failures w.failures stands.failures)
      ∙ ap (λ (r : List ℕ). two_digits n ++ (32 ∷ r)) (joins successes (spaced_codes w.successes) (codes_and_space w.successes) failures (spaced_codes w.failures) (spaces w.successes (failures ++ spaced_codes w.failures)))
    where
      successes : List ℕ
      successes = numeral (length w.successes)

      failures : List ℕ
      failures = numeral (length w.failures)

-- ---- the packer takes it

takes_part : (c : Codes) (l : List ℕ) → c.count ≤ most_steps → Holds c l → takes (part_of c) ≡ true
unfolding each
takes_part c l few h = ap takes (part_text c l h) ∙ (takes_space (numeral (length l) ++ spaced_codes l) (takes_both (numeral (length l)) (spaced_codes l) (takes_numeral (length l) (omega (arith, h.count))) (codes l h.digits)))
  where
    codes : (l : List ℕ) → are_digits (codes_text l) ≡ true → takes (spaced_codes l) ≡ true
    codes [] d = refl
    codes (x ∷ l) d = takes_space (codes_text (x ∷ l)) (each_implies is_digit taken digit_taken (codes_text (x ∷ l)) d)

pub takes_tally : (n : ℕ) (tally : Tally) (t : State) (w : Walk) → n < 256 → steps_counted tally ≤ most_steps → Tallies tally t w → takes (tally_text n tally) ≡ true
takes_tally n tally t w small few stands =
    takes_both (numeral n ++ part_of tally.successes) (part_of tally.failures)
    (takes_both (numeral n) (part_of tally.successes) (takes_numeral n small) (takes_part tally.successes w.successes (omega arith) stands.successes))
    (takes_part tally.failures w.failures (omega arith) stands.failures)

-- ---- the outcome

pub crew_small : (o : Operation) → crew_number o < 256
crew_small Register = omega arith
crew_small Erase = omega arith
crew_small Interrogate = omega arith
