-- Lines and fields by the place where they end: the first line feed, the first space. Assumes nothing.
use mathlib.Core.Path.{◌≡◌, refl, sym, ap, ◌∙◌}
use mathlib.Core.Bool.{Bool, true, false, cond}
use mathlib.Core.Option.{none, some, some-injective}
use mathlib.Core.Logic.{⊎_elim}
use mathlib.Core.List.{List, [], ◌∷◌}
use Prim.Native.Nat.{ℕ, suc, ◌+◌, ◌-◌, ◌≤◌, ◌<◌}
use native.Mathlib.Numerals.{add-one}
use native.Mathlib.Omega.{arith}
use lib.ListN.{length, take, drop, get_or, length-drop}
use lib.Seq.{take_all}
use lib.Dec.{eqb, ltb}
use borrow.Author.Tests.{eq-eqb, ne_eqb, ltb-true, ltb-false}
use Rattle.std.specs.Prelude as core
use Rattle.std.specs.Prelude.{Some, None, MatchOption, position}
use Rattle.std.specs.List.{position_or_len}
use Rattle.std.proofs.lemmas.List.Recursion.{is_position_or_len}
use Rattle.answers.proofs.Tests.{less_or_not}
use Rattle.answers.proofs.Checks.{not_some}
use Rattle.forms.specs.Reads.{Parted}
use Rattle.octets.specs.Octets.{index_of, index_after, slice}
use Rattle.forms.specs.Lines.{line_feed, on_first, lines_of, space, first_field, behind_field, lettered, form_of}

pub whole_slice : (s : List ℕ) → slice 0 (length s) s ≡ s
unfolding slice
whole_slice s = let n : length s - 0 ≡ length s = omega arith in rw n (take_all (length s) s (omega arith))

pub field_front : (s : List ℕ) → first_field s ≡ take (index_of space s) s
unfolding index_of index_after first_field
field_front [] = refl
field_front (c ∷ s) = go (eqb c space) (field_front s)
  where
    go : (b : Bool) → first_field s ≡ take (index_of space s) s → cond b [] (c ∷ first_field s) ≡ take (index_after b (index_of space s)) (c ∷ s)
    go true e = refl
    go false e = ap (λ (l : List ℕ). c ∷ l) e

pub behind_some : (s : List ℕ) → index_of space s < length s → behind_field s ≡ some (drop (index_of space s + 1) s)
unfolding index_of index_after behind_field
behind_some [] h = absurd (omega arith)
behind_some (c ∷ s) h = go (eqb c space) h (λ k. behind_some s k)
  where
    go :
        (b : Bool) → index_after b (index_of space s) < suc (length s)
        → (index_of space s < length s → behind_field s ≡ some (drop (index_of space s + 1) s))
        → cond b (some s) (behind_field s) ≡ some (drop (index_after b (index_of space s) + 1) (c ∷ s))
    go true k e = refl
    go false k e = e (omega arith) ∙ rw (add-one (index_of space s), add-one (suc (index_of space s)))

pub behind_none : (s : List ℕ) → length s ≤ index_of space s → behind_field s ≡ none
unfolding index_of index_after behind_field
behind_none [] h = refl
behind_none (c ∷ s) h = go (eqb c space) h (λ k. behind_none s k)
  where
    go :
        (b : Bool) → suc (length s) ≤ index_after b (index_of space s) → (length s ≤ index_of space s → behind_field s ≡ none)
        → cond b (some s) (behind_field s) ≡ none
    go true k e = absurd (omega arith)
    go false k e = e (omega arith)

-- the library's search for the first space
space_at : (s : List ℕ) → index_of space s ≡ position_or_len (λ (c : ℕ). eqb c space) s
unfolding index_of index_after
space_at = is_position_or_len (index_of space) (λ (c : ℕ). eqb c space) refl (λ c s. go (eqb c space) (index_of space s))
  where
    go : (b : Bool) (n : ℕ) → index_after b n ≡ cond b 0 (1 + n)
    go true n = refl
    go false n = omega arith

-- a part of a line, split at the place of its first space
pub record Split (s : List ℕ) (end : ℕ) : Type 0 where
  pub field : first_field s ≡ take end s
  pub behind : behind_field s ≡ some (drop (end + 1) s)

pub split : (s : List ℕ) (place : core.Option ℕ) → place ≡ position (λ (c : ℕ). eqb c space) s → MatchOption place (behind_field s ≡ none) (Split s)
split s place found = go (ltb (index_of space s) (length s)) refl (rw (← space_at s) at found)
  where
    go : (b : Bool) → ltb (index_of space s) (length s) ≡ b → place ≡ cond b (Some (index_of space s)) None → MatchOption place (behind_field s ≡ none) (Split s)
    go true t e = rw e (record { field = field_front s; behind = behind_some s (ltb-true _ _ t) })
    go false t e = rw e (behind_none s (ltb-false _ _ t))

-- what stands behind the first field is the end of the part
pub parted : {rest field behind : List ℕ} → Parted rest field behind → (length behind ≤ length rest) × (drop (length rest - length behind) rest ≡ behind)
parted {rest} {field} {behind} p = ⊎_elim within (λ h. not_some (sym (behind_none rest h) ∙ p.second)) (less_or_not (index_of space rest) (length rest))
  where
    within : index_of space rest < length rest → (length behind ≤ length rest) × (drop (length rest - length behind) rest ≡ behind)
    within h =
        let same : drop (index_of space rest + 1) rest ≡ behind = some-injective _ _ (sym (behind_some rest h) ∙ p.second) in
        let count : length behind ≡ length rest - (index_of space rest + 1) = ap length (sym same) ∙ length-drop (index_of space rest + 1) rest in
        let place : length rest - length behind ≡ index_of space rest + 1 = omega arith in
        (omega arith, rw place same)

-- an octet more in front of the first line
line_longer :
    (c : ℕ) (s : List ℕ) (i : ℕ) → lines_of s ≡ take i s ∷ lines_of (drop (i + 1) s)
    → on_first c (lines_of s) ≡ take (suc i) (c ∷ s) ∷ lines_of (drop (suc i + 1) (c ∷ s))
line_longer c s i e = ap (on_first c) e ∙ rw (add-one i, add-one (suc i))

-- the first line, and the lines behind it
pub lines_first : (s : List ℕ) → 0 < length s → lines_of s ≡ take (index_of line_feed s) s ∷ lines_of (drop (index_of line_feed s + 1) s)
unfolding index_of index_after lines_of
lines_first [] h = absurd (omega arith)
lines_first (c ∷ []) h = go (eqb c line_feed)
  where
    go : (b : Bool) → cond b ([] ∷ []) ((c ∷ []) ∷ []) ≡ take (index_after b 0) (c ∷ []) ∷ lines_of (drop (index_after b 0 + 1) (c ∷ []))
    go true = refl
    go false = refl
lines_first (c ∷ d ∷ s) h = go (eqb c line_feed) (lines_first (d ∷ s) (omega arith))
  where
    go :
        (b : Bool) → lines_of (d ∷ s) ≡ take (index_of line_feed (d ∷ s)) (d ∷ s) ∷ lines_of (drop (index_of line_feed (d ∷ s) + 1) (d ∷ s))
        → cond b ([] ∷ lines_of (d ∷ s)) (on_first c (lines_of (d ∷ s)))
        ≡ take (index_after b (index_of line_feed (d ∷ s))) (c ∷ d ∷ s) ∷ lines_of (drop (index_after b (index_of line_feed (d ∷ s)) + 1) (c ∷ d ∷ s))
    go true e = refl
    go false e = line_longer c (d ∷ s) (index_of line_feed (d ∷ s)) e

-- ---- the form of a line

pub form_short : (line : List ℕ) → length line < 2 → form_of line ≡ none
unfolding form_of
form_short [] h = refl
form_short (c ∷ []) h = refl
form_short (c ∷ g ∷ rest) h = absurd (omega arith)

pub form_joined : (line : List ℕ) → 2 ≤ length line → (get_or line 1 0 ≡ space → ⊥) → form_of line ≡ none
unfolding form_of
form_joined [] h n = absurd (omega arith)
form_joined (c ∷ []) h n = absurd (omega arith)
form_joined (c ∷ g ∷ rest) h n = rw (ne_eqb g space n)

pub form_lettered : (line : List ℕ) → 2 ≤ length line → get_or line 1 0 ≡ space → form_of line ≡ lettered (get_or line 0 0) (drop 2 line)
unfolding form_of
form_lettered [] h e = absurd (omega arith)
form_lettered (c ∷ []) h e = absurd (omega arith)
form_lettered (c ∷ g ∷ rest) h e = rw (eq-eqb g space e)
