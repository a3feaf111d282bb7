-- A run of stores: what it puts, what it leaves, and when it changes nothing. Assumes nothing.
use mathlib.Core.Path.{◌≡◌, refl, ap, ◌∙◌}
use mathlib.Core.Logic.{◌⊎◌, inl, inr, ⊎_elim}
use mathlib.Core.List.{List, [], ◌∷◌}
use Prim.Native.Nat.{ℕ, zero, suc, ◌+◌, ◌≤◌, ◌<◌}
use native.Mathlib.Nat.{add-zero, not-suc-le-zero}
use native.Mathlib.Omega.{arith}
use lib.ListN.{length, get_or, set, length-set}
use lib.Seq.{sets, get_or-set_same, get_or-set_other, set-get_or}

-- a place before the run or behind it
pub sets_other : (vs l : List ℕ) (i j : ℕ) → (j < i) ⊎ (i + length vs ≤ j) → get_or (sets l i vs) j 0 ≡ get_or l j 0
sets_other [] l i j o = refl
sets_other (v ∷ vs) l i j o =
    sets_other vs (set l i v) (suc i) j (⊎_elim (λ h. inl (omega arith)) (λ h. inr (omega arith)) o)
    ∙ get_or-set_other l i j v 0 (λ e. ⊎_elim (λ h. omega arith) (λ h. omega arith) o)

-- a place in the run
pub sets_at : (vs l : List ℕ) (i k : ℕ) → k < length vs → i + k < length l → get_or (sets l i vs) (i + k) 0 ≡ get_or vs k 0
sets_at [] l i k h f = absurd (not-suc-le-zero h)
sets_at (v ∷ vs) l i zero h f =
    ap (λ (j : ℕ). get_or (sets (set l i v) (suc i) vs) j 0) (add-zero i)
    ∙ sets_other vs (set l i v) (suc i) i (inl (omega arith))
    ∙ get_or-set_same l i v 0 (omega arith)
sets_at (v ∷ vs) l i (suc k) h f =
    let e : i + suc k ≡ suc i + k = omega arith in
    rw e (sets_at vs (set l i v) (suc i) k (omega arith) (rw length-set (omega arith)))

-- what stands there already
pub sets_same : (vs l : List ℕ) (i : ℕ) → ((k : ℕ) → k < length vs → get_or vs k 0 ≡ get_or l (i + k) 0) → sets l i vs ≡ l
sets_same [] l i h = refl
sets_same (v ∷ vs) l i h =
    let here : v ≡ get_or l i 0 = h 0 (omega arith) ∙ ap (λ (j : ℕ). get_or l j 0) (add-zero i) in
    let none : set l i v ≡ l = ap (set l i) here ∙ set-get_or l i 0 in
    rw none (sets_same vs l (suc i) (λ k b. h (suc k) (omega arith) ∙ ap (λ (j : ℕ). get_or l j 0) (omega arith)))
