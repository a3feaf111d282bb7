-- Words compared. Assumes nothing.
use mathlib.Core.Path.{◌≡◌, refl, ap}
use mathlib.Core.Bool.{Bool, true, false}
use mathlib.Core.List.{List, [], ◌∷◌}
use Prim.Native.Nat.{ℕ}
use lib.ListN.{length}
use lib.Dec.{eqb}
use lib.Pointwise.{pointwise}
use borrow.Author.Tests.{eqb-true}
use Rattle.answers.proofs.Tests.{no_path, and_left, and_right}
use Rattle.states.specs.States.{same_words}

pub words_same : (vs ws : List ℕ) → same_words vs ws ≡ true → vs ≡ ws
words_same [] [] e = refl
words_same [] (w ∷ ws) e = no_path e
words_same (v ∷ vs) [] e = no_path e
words_same (v ∷ vs) (w ∷ ws) e = rw (eqb-true v w (and_left _ _ e), words_same vs ws (and_right (eqb v w) _ e)) refl

-- the library's comparison of slices
pub same_pointwise : (vs ws : List ℕ) → pointwise eqb vs ws ≡ same_words vs ws
same_pointwise [] [] = refl
same_pointwise [] (w ∷ ws) = refl
same_pointwise (v ∷ vs) [] = refl
same_pointwise (v ∷ vs) (w ∷ ws) = rw (same_pointwise vs ws)

-- words of another number are others
pub other_length : (vs ws : List ℕ) → (length vs ≡ length ws → ⊥) → same_words vs ws ≡ false
other_length vs ws n = go (same_words vs ws) refl
  where
    go : (b : Bool) → same_words vs ws ≡ b → b ≡ false
    go true e = absurd (n (ap length (words_same vs ws e)))
    go false e = refl
