-- The additional field: its reader reads exactly its texts, and a forced erasure's has no crew. Assumes nothing.
use mathlib.Core.Path.{◌≡◌, refl, sym, ap, ◌∙◌}
use mathlib.Core.Bool.{Bool, true, false, not, cond, ◌&&◌, and-false}
use mathlib.Core.Option.{Option, none, some}
use mathlib.Core.List.{List, [], ◌++◌}
use Prim.Native.Nat.{ℕ, ◌+◌, ◌≤◌, ◌<◌}
use native.Mathlib.Nat.{add-zero}
use native.Mathlib.Omega.{arith}
use lib.ListN.{length, take, drop, take-append-drop, length-append, length-drop, drop_of_length-le}
use lib.Seq.{length-take-le, drop-append_seam, take-append_seam}
use lib.Dec.{leb, eqb}
use borrow.Author.Tests.{eqb-true, eq-eqb, ne_eqb, le-leb, lt-leb}
use Rattle.answers.specs.Begins.{begins}
use Rattle.answers.proofs.Leading.{leading_stop, leading_front, leading_append}
use Rattle.answers.proofs.Tests.{and_left, and_right}
use Rattle.answers.proofs.Checks.{only_if_some}
use Rattle.numbers.specs.Numbers.{is_digit}
use Rattle.numbers.specs.declared.FunctionalNumber.{FunctionalNumber}
use Rattle.numbers.specs.declared.Msisdn.{Msisdn}
use Rattle.crews.specs.Crews.{crew_of, is_bulk, counted, count_of}
use Rattle.crews.specs.declared.Crew.TheVariants.{Single}
use Rattle.strings.specs.declared.Operation.TheVariants.{Erase}
use Rattle.strings.specs.declared.Erasing.TheVariants.{Forced}
use Rattle.strings.specs.Text.{is_additional, are_additional, most_additional, hash, is_lead, crew_allowed}
use Rattle.strings.specs.Reader.{leading_additional, additional_at}
use Rattle.answers.proofs.Begins.{begins_only}

-- ---- the field, by the tests in their order

module _ (s : List ℕ) (n : ℕ) (count : n ≡ leading_additional s) where
  pub additional_many : most_additional < n → additional_at s ≡ none
  unfolding additional_at
  additional_many h = rw (← count, lt-leb n most_additional h)

  pub additional_open : n ≤ most_additional → begins hash (drop n s) ≡ false → additional_at s ≡ none
  unfolding additional_at
  additional_open h e = rw (← count, le-leb n most_additional h, e)

  pub additional_more : n ≤ most_additional → begins hash (drop n s) ≡ true → (length s ≡ n + 1 → ⊥) → additional_at s ≡ none
  unfolding additional_at
  additional_more h e d = rw (← count, le-leb n most_additional h, e, ne_eqb (length s) (n + 1) d)

  pub additional_read : n ≤ most_additional → begins hash (drop n s) ≡ true → length s ≡ n + 1 → additional_at s ≡ some (take n s)
  unfolding additional_at
  additional_read h e l = rw (← count, le-leb n most_additional h, e, eq-eqb (length s) (n + 1) l)

-- ---- its reader reads exactly its texts

pub additional_back : (a : List ℕ) → leb (length a) most_additional ≡ true → are_additional a ≡ true → additional_at (a ++ hash) ≡ some a
unfolding begins additional_at
additional_back a most are =
    let l = eq-eqb (length (a ++ hash)) (length a + 1) (length-append a hash) in
    rw (leading_append is_additional a hash are ∙ ap (λ (n : ℕ). length a + n) (leading_stop is_additional 35 [] (unfold is_additional is_digit in refl)) ∙ add-zero (length a), drop-append_seam a hash, most, l, take-append_seam a hash)

-- `#`, and nothing behind it
hash_only : (s : List ℕ) → begins hash s ≡ true → length s ≤ 1 → s ≡ hash
hash_only s b h = begins_only hash s b ∙ ap (λ (l : List ℕ). hash ++ l) (drop_of_length-le s h)

pub additional_only :
    (s : List ℕ) {a : List ℕ} → additional_at s ≡ some a
    → (leb (length a) most_additional ≡ true) × (are_additional a ≡ true) × (s ≡ a ++ hash)
unfolding additional_at
additional_only s e = go (leading_additional s) (leading_front is_additional s).passes (only_if_some _ e)
  where
    go :
        (n : ℕ) {a : List ℕ} → are_additional (take n s) ≡ true
        → ((leb n most_additional && begins hash (drop n s) && eqb (length s) (n + 1)) ≡ true) × (take n s ≡ a)
        → (leb (length a) most_additional ≡ true) × (are_additional a ≡ true) × (s ≡ a ++ hash)
    go n are t =
        let few = leb n most_additional in
        let hashed = begins hash (drop n s) in
        let last = eqb (length s) (n + 1) in
        let both = and_left (few && hashed) last t.0 in
        let l = eqb-true (length s) (n + 1) (and_right (few && hashed) last t.0) in
        let rest = hash_only (drop n s) (and_right few hashed both) (omega (arith, length-drop n s)) in
        rw (← t.1) (
          rw (length-take-le n s (omega arith)) (and_left few hashed both),
          are,
          sym (take-append-drop n s) ∙ ap (λ (r : List ℕ). take n s ++ r) rest,
        )

-- ---- a crew in it

-- none may stand in a forced erasure
pub forced_crew :
    (number : FunctionalNumber) (supervisor : Msisdn) (a : List ℕ) → crew_allowed Erase number (Forced supervisor) (count_of a) ≡ not (is_bulk a)
unfolding count_of
forced_crew number supervisor a = go (is_bulk a) (crew_of a)
  where
    go : (b : Bool) (o : Option (List ℕ)) → crew_allowed Erase number (Forced supervisor) (cond b (counted o) Single) ≡ not b
    go false o = refl
    go true none = refl
    go true (some codes) = and-false (is_lead number)
