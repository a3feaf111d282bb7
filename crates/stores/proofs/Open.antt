-- The open question by its place, and what its answer makes of the entries. Assumes nothing.
use mathlib.Core.Path.{◌≡◌, refl, ap}
use mathlib.Core.Logic.{⊎_elim}
use mathlib.Core.Bool.{Bool, true, false, cond}
use mathlib.Core.List.{List, [], ◌∷◌, ◌++◌}
use Prim.Native.Nat.{suc, ◌≤◌, ◌<◌}
use native.Mathlib.Omega.{arith}
use lib.ListN.{length, get_or, take, drop}
use Rattle.answers.proofs.Tests.{less_or_not}
use Rattle.stores.specs.declared.Entry.{Entry}
use Rattle.stores.specs.declared.Verdict.{Verdict}
use Rattle.stores.specs.Stores.{is_to_ask, blank, open_of, answered, settled}
use Rattle.stores.specs.Places.{first_to_ask}

-- an open question stands at its place
pub open_at : (es : List Entry) → first_to_ask es < length es → open_of es ≡ (get_or es (first_to_ask es) blank).number
unfolding open_of first_to_ask
open_at [] h = refl
open_at (e ∷ es) h = go (is_to_ask e) h (open_at es)
  where
    go : (b : Bool) → cond b 0 (suc (first_to_ask es)) < suc (length es)
        → (first_to_ask es < length es → open_of es ≡ (get_or es (first_to_ask es) blank).number)
        → cond b e.number (open_of es) ≡ (get_or (e ∷ es) (cond b 0 (suc (first_to_ask es))) blank).number
    go true h later = refl
    go false h later = later (omega arith)

-- where no place is found, none is open
pub none_open : (es : List Entry) → length es ≤ first_to_ask es → open_of es ≡ 0
unfolding open_of first_to_ask
none_open [] h = refl
none_open (e ∷ es) h = go (is_to_ask e) h (none_open es)
  where
    go : (b : Bool) → suc (length es) ≤ cond b 0 (suc (first_to_ask es)) → (length es ≤ first_to_ask es → open_of es ≡ 0) → cond b e.number (open_of es) ≡ 0
    go true h later = absurd (omega arith)
    go false h later = later (omega arith)

pub open_within : (es : List Entry) → (open_of es ≡ 0 → ⊥) → first_to_ask es < length es
open_within es some = ⊎_elim (λ h. h) (λ h. absurd (some (none_open es h))) (less_or_not (first_to_ask es) (length es))

-- the entry at that place is answered
pub settled_at : (v : Verdict) (es : List Entry) → first_to_ask es < length es
    → settled v es ≡ take (first_to_ask es) es ++ (answered v (get_or es (first_to_ask es) blank) ++ drop (suc (first_to_ask es)) es)
unfolding first_to_ask settled
settled_at v [] h = absurd (omega arith)
settled_at v (e ∷ es) h = go (is_to_ask e) h (settled_at v es)
  where
    go : (b : Bool) → cond b 0 (suc (first_to_ask es)) < suc (length es)
        → (first_to_ask es < length es → settled v es ≡ take (first_to_ask es) es ++ (answered v (get_or es (first_to_ask es) blank) ++ drop (suc (first_to_ask es)) es))
        → cond b (answered v e ++ es) (e ∷ settled v es)
        ≡ take (cond b 0 (suc (first_to_ask es))) (e ∷ es) ++ (answered v (get_or (e ∷ es) (cond b 0 (suc (first_to_ask es))) blank) ++ drop (suc (cond b 0 (suc (first_to_ask es)))) (e ∷ es))
    go true h later = refl
    go false h later = ap {B = List Entry} (λ r. e ∷ r) (later (omega arith))
