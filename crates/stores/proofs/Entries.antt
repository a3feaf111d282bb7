-- The library's tests and searches are the words of the specs, and what a place says of the entries from there on. Assumes nothing.
use mathlib.Core.Path.{◌≡◌, refl, ap}
use mathlib.Core.Bool.{Bool, true, false, cond, not, ◌&&◌, ◌||◌}
use mathlib.Core.List.{List, [], ◌∷◌}
use Prim.Native.Nat.{ℕ, suc, ◌+◌, ◌≤◌, ◌<◌}
use native.Mathlib.Numerals.{add-one}
use native.Mathlib.Omega.{arith}
use lib.Dec.{eqb}
use lib.ListN.{length, get_or, drop}
use lib.Seq.{drop-cons}
use borrow.Author.Tests.{eq-eqb}
use Rattle.std.specs.List.{list_all, list_any, position_or_len}
use Rattle.std.proofs.lemmas.List.Recursion.{is_position_or_len, or_at}
use Rattle.answers.proofs.Tests.{and_no}
use Rattle.stores.specs.declared.Entry.{Entry}
use Rattle.stores.specs.Stores.{is_to_ask, entry_sound, blank, every, has, none_twice}
use Rattle.stores.specs.Places.{first_to_ask}

pub every_all : (test : Entry → Bool) (es : List Entry) → list_all test es ≡ every test es
unfolding every
every_all test [] = refl
every_all test (e ∷ es) = ap (λ (b : Bool). test e && b) (every_all test es)

pub has_any : (number : ℕ) (es : List Entry) → list_any (λ (e : Entry). eqb e.number number) es ≡ has number es
unfolding has
has_any number [] = refl
has_any number (e ∷ es) = ap (λ (b : Bool). eqb e.number number || b) (has_any number es)

pub first_position : (es : List Entry) → first_to_ask es ≡ position_or_len is_to_ask es
unfolding first_to_ask
first_position = is_position_or_len first_to_ask is_to_ask refl (λ e es. ap (λ (n : ℕ). cond (is_to_ask e) 0 n) (one_more es))
  where
    one_more : (es : List Entry) → suc (first_to_ask es) ≡ 1 + first_to_ask es
    one_more es = omega arith

pub first_within : (es : List Entry) → first_to_ask es ≤ length es
unfolding first_to_ask
first_within [] = omega arith
first_within (e ∷ es) = go (is_to_ask e) (first_within es)
  where
    go : (b : Bool) → first_to_ask es ≤ length es → cond b 0 (suc (first_to_ask es)) ≤ suc (length es)
    go true h = omega arith
    go false h = omega arith

-- the number of an entry is among them
pub has_own : (es : List Entry) (i : ℕ) → i < length es → has (get_or es i blank).number es ≡ true
unfolding has
has_own es i h = or_at (has (get_or es i blank).number) (λ (e : Entry). eqb e.number (get_or es i blank).number) refl (λ _ _. refl) es i blank h (eq-eqb _ _ refl)

-- each is sound and comes but once, from a place on
pub sound_at : (es : List Entry) (i : ℕ) → i < length es
    → (every entry_sound (drop i es) && none_twice (drop i es))
    ≡ cond (not (entry_sound (get_or es i blank)) || has (get_or es i blank).number (drop (i + 1) es)) false (every entry_sound (drop (i + 1) es) && none_twice (drop (i + 1) es))
unfolding every none_twice
sound_at es i h =
    rw (add-one i, drop-cons es i blank h)
    (go (entry_sound (get_or es i blank)) (has (get_or es i blank).number (drop (suc i) es)) (every entry_sound (drop (suc i) es)) (none_twice (drop (suc i) es)))
  where
    go : (a b c d : Bool) → ((a && c) && (not b && d)) ≡ cond (not a || b) false (c && d)
    go true true c d = and_no c false refl
    go true false c d = refl
    go false b c d = refl
