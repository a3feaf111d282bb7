-- Local calls, run one after the other, are local together: they read and write the records of the numbers that one of them names; and what the last of some entries decides. Assumes nothing.
use mathlib.Core.Path.{◌≡◌, refl, sym, ◌∙◌}
use mathlib.Core.Bool.{Bool, true, false, ◌||◌}
use mathlib.Core.Option.{Option, none, some}
use mathlib.Core.List.{List, [], ◌∷◌}
use Prim.Native.Nat.{ℕ}
use Rattle.answers.proofs.Tests.{no_path, or_left, or_right, or_neither}
use Rattle.rules.specs.Run.{last, end, log, Local}

-- what the last entry decides, whatever was before it: one entry more in front
module _ {X A : Type 0} (after : Option X → A → A) (stays : (a : A) → after none a ≡ a)
    (decides : (x : X) (a b : A) → after (some x) a ≡ after (some x) b) where
  any_before : (x : X) (xs : List X) (a b : A) → after (last (x ∷ xs)) a ≡ after (last (x ∷ xs)) b
  any_before x [] a b = decides x a b
  any_before x (y ∷ xs) a b = any_before y xs a b

  pub last_more : (x : X) (xs : List X) (a : A) → after (last xs) (after (some x) a) ≡ after (last (x ∷ xs)) a
  last_more x [] a = stays (after (some x) a)
  last_more x (y ∷ xs) a = any_before y xs (after (some x) a) a

-- one of the calls names k
abbrev pub any_names : {C : Type 0} → (C → ℕ → Bool) → List C → ℕ → Bool
any_names names [] k = false
any_names names (c ∷ cs) k = names c k || any_names names cs k

module _ {C A S O : Type 0} (step : C → S → A × S) (names : C → ℕ → Bool) (look : ℕ → S → O) (Inv : S → Type 0)
    (local : Local step names look Inv) where
  pub runs_other : (cs : List C) (s : S) (k : ℕ) → Inv s → any_names names cs k ≡ false → look k (end step cs s) ≡ look k s
  runs_other [] s k v n = refl
  runs_other (c ∷ cs) s k v n =
      let m = or_neither (names c k) (any_names names cs k) n in
      runs_other cs (step c s).1 k (local.keep c s v) m.1 ∙ local.other c s k v m.0

  -- two states with the same records of those numbers
  abbrev Same : List C → S → S → Type 0
  Same cs s u = (j : ℕ) → any_names names cs j ≡ true → look j s ≡ look j u

  module _ (c : C) (cs : List C) (s u : S) (v : Inv s) (w : Inv u) (same : Same (c ∷ cs) s u) where
    first : (j : ℕ) → names c j ≡ true → look j s ≡ look j u
    first j n = same j (or_left (names c j) (any_names names cs j) n)

    -- what the first call leaves has them too
    then : (j : ℕ) → (names c j || any_names names cs j) ≡ true → look j (step c s).1 ≡ look j (step c u).1
    then j n = go (names c j) refl
      where
        go : (b : Bool) → names c j ≡ b → look j (step c s).1 ≡ look j (step c u).1
        go true e = local.own c s u j v w first e
        go false e = local.other c s j v e ∙ same j n ∙ sym (local.other c u j w e)

  -- the calls get the same, and leave the same records of those numbers
  pub runs_log : (cs : List C) (s u : S) → Inv s → Inv u → Same cs s u → log step cs s ≡ log step cs u
  runs_log [] s u v w same = refl
  runs_log (c ∷ cs) s u v w same =
      let rest = runs_log cs (step c s).1 (step c u).1 (local.keep c s v) (local.keep c u w)
      (λ j n. then c cs s u v w same j (or_right (names c j) (any_names names cs j) n)) in
      λ i. (c, local.answer c s u v w (first c cs s u v w same) i) ∷ rest i

  pub runs_own : (cs : List C) (s u : S) (k : ℕ) → Inv s → Inv u → Same cs s u → any_names names cs k ≡ true → look k (end step cs s) ≡ look k (end step cs u)
  runs_own [] s u k v w same n = no_path n
  runs_own (c ∷ cs) s u k v w same n =
      go (any_names names cs k) refl (runs_own cs s' u' k here there (λ j m. then c cs s u v w same j (or_right (names c j) (any_names names cs j) m)))
    where
      s' : S
      s' = (step c s).1

      u' : S
      u' = (step c u).1

      here : Inv s'
      here = local.keep c s v

      there : Inv u'
      there = local.keep c u w

      go : (b : Bool) → any_names names cs k ≡ b → (any_names names cs k ≡ true → look k (end step cs s') ≡ look k (end step cs u'))
          → look k (end step cs s') ≡ look k (end step cs u')
      go true e rest = rest e
      go false e rest = runs_other cs s' k here e ∙ then c cs s u v w same k n ∙ sym (runs_other cs u' k there e)
