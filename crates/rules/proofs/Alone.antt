-- The calls that name a number get what they would get if the others were left out and the state had that number's record alone: for any local step whose calls name one number at most. Assumes nothing.
use mathlib.Core.Path.{◌≡◌, refl, ◌∙◌}
use mathlib.Core.Bool.{Bool, true, false, cond}
use mathlib.Core.List.{List, [], ◌∷◌}
use Prim.Native.Nat.{ℕ}
use Rattle.rules.specs.Run.{end, log, only, Local}

module _ {C A S O : Type 0} (step : C → S → A × S) (names : C → ℕ → Bool) (look : ℕ → S → O) (Inv : S → Type 0)
    (local : Local step names look Inv) (single : (c : C) (j k : ℕ) → names c k ≡ true → names c j ≡ true → j ≡ k) (k : ℕ) where
  abbrev mine : C → Bool
  mine c = names c k

  abbrev my_log : List (C × A) → List (C × A)
  my_log = only (λ (p : C × A). names p.0 k)

  -- two runs that start with the same record of k: one of all the calls, one of those that name k
  abbrev Agree : List C → S → S → Type 0
  Agree cs s u = (my_log (log step cs s) ≡ log step (only mine cs) u) × (look k (end step cs s) ≡ look k (end step (only mine cs) u))

  pub run_alone : (cs : List C) (s u : S) → Inv s → Inv u → look k s ≡ look k u → Agree cs s u
  run_alone [] s u v w e = (refl, e)
  run_alone (c ∷ cs) s u v w e = pass (names c k) refl (λ u'. run_alone cs (step c s).1 u' (local.keep c s v))
    where
      s' : S
      s' = (step c s).1

      pass : (b : Bool) → names c k ≡ b → ((u' : S) → Inv u' → look k s' ≡ look k u' → Agree cs s' u')
          → (cond b ((c, (step c s).0) ∷ my_log (log step cs s')) (my_log (log step cs s')) ≡ log step (cond b (c ∷ only mine cs) (only mine cs)) u)
          × (look k (end step cs s') ≡ look k (end step (cond b (c ∷ only mine cs) (only mine cs)) u))
      pass true n rest =
          let same : (j : ℕ) → names c j ≡ true → look j s ≡ look j u = λ j m. rw (single c j k n m) e in
          let x = rest (step c u).1 (local.keep c u w) (local.own c s u k v w same n) in
          (λ i. (c, local.answer c s u v w same i) ∷ x.0 i, x.1)
      pass false n rest = rest u w (local.other c s k v n ∙ e)
