-- A list of calls, run one after the other over one state; what it is to rearrange such a list; and what it is for a call to be local. Assumes nothing.
use Rattle.std.specs.Prelude.{◌≡◌, Bool, true, false, cond, List, [], ◌∷◌, ℕ, ◌<◌, length}
use Rattle.std.proofs.Math.Option.{Option, none, some}
use Rattle.std.proofs.Math.ListN.{get_elem?}

module _ {X : Type 0} where
  -- the entries that pass the test, in their order
  abbrev pub only : (X → Bool) → List X → List X
  only test [] = []
  only test (x ∷ xs) = cond (test x) (x ∷ only test xs) (only test xs)

  -- the last entry, if there is one
  abbrev pub last : List X → Option X
  last [] = none
  last (x ∷ []) = some x
  last (x ∷ y ∷ xs) = last (y ∷ xs)

module _ {C A S : Type 0} (step : C → S → A × S) where
  -- the state after the calls
  abbrev pub end : List C → S → S
  end [] s = s
  end (c ∷ cs) s = end cs (step c s).1

  -- each call with what it got, in the order of the calls
  abbrev pub log : List C → S → List (C × A)
  log [] s = []
  log (c ∷ cs) s = (c, (step c s).0) ∷ log cs (step c s).1

-- `names c k`: the call c names the number k; a call may name several
module _ {C : Type 0} (names : C → ℕ → Bool) where
  -- a call that is there names the number
  abbrev pub names_of : Option C → ℕ → Bool
  names_of none k = false
  names_of (some c) k = names c k

  -- the call at place i of the list names the number k
  abbrev pub named_at : List C → ℕ → ℕ → Bool
  named_at cs i k = names_of (get_elem? cs i) k

  -- ds is cs rearranged in any way that keeps the order of calls naming the same number:
  -- the call at place i of cs stands at place `to i` of ds, `from` is the way back, and calls that name one number keep their order
  pub record Rearranged (cs ds : List C) : Type 0 where
    pub to : ℕ → ℕ
    pub from : ℕ → ℕ
    pub long : length ds ≡ length cs
    pub to_below : (i : ℕ) → i < length cs → to i < length cs
    pub from_below : (i : ℕ) → i < length cs → from i < length cs
    pub from_to : (i : ℕ) → i < length cs → from (to i) ≡ i
    pub to_from : (i : ℕ) → i < length cs → to (from i) ≡ i
    pub same : (i : ℕ) → i < length cs → get_elem? ds (to i) ≡ get_elem? cs i
    pub keeps : (i j k : ℕ) → i < j → j < length cs → named_at cs i k ≡ true → named_at cs j k ≡ true → to i < to j

-- a call reads and writes only the records of the numbers that it names: `look k s` is the record of k in s, and Inv what holds of every state
pub record Local {C A S O : Type 0} (step : C → S → A × S) (names : C → ℕ → Bool) (look : ℕ → S → O) (Inv : S → Type 0) : Type 0 where
  pub keep : (c : C) (s : S) → Inv s → Inv (step c s).1
  pub other : (c : C) (s : S) (k : ℕ) → Inv s → names c k ≡ false → look k (step c s).1 ≡ look k s
  pub answer : (c : C) (s u : S) → Inv s → Inv u → ((k : ℕ) → names c k ≡ true → look k s ≡ look k u) → (step c s).0 ≡ (step c u).0
  pub own :
      (c : C) (s u : S) (k : ℕ) → Inv s → Inv u → ((j : ℕ) → names c j ≡ true → look j s ≡ look j u) → names c k ≡ true
      → look k (step c s).1 ≡ look k (step c u).1
