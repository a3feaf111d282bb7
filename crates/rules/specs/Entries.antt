-- Entries of a list: none that passes a test, one at a place, one between two places. Assumes nothing.
use Rattle.std.specs.Prelude.{ℕ, ◌<◌, ◌≡◌, Bool, true, false, not, ◌&&◌, List, [], ◌∷◌}
use Rattle.std.proofs.Math.Option.{Option, none, some}
use Rattle.std.proofs.Math.ListN.{get_elem?}

module _ {X : Type 0} where
  -- no entry passes the test
  abbrev pub never : (X → Bool) → List X → Bool
  never test [] = true
  never test (x ∷ xs) = not (test x) && never test xs

  -- there is an entry, and it passes the test
  abbrev pub holds_of : (X → Bool) → Option X → Bool
  holds_of test none = false
  holds_of test (some x) = test x

  -- such an entry stands at place i
  abbrev pub holds_at : (X → Bool) → List X → ℕ → Bool
  holds_at test xs i = holds_of test (get_elem? xs i)

  -- one stands behind place i and before place j
  pub record Between (test : X → Bool) (xs : List X) (i j : ℕ) : Type 0 where
    pub place : ℕ
    pub behind : i < place
    pub before : place < j
    pub passes : holds_at test xs place ≡ true
