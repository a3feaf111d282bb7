-- The place of an octet in a text. Assumes nothing.
use Rattle.std.specs.Prelude.{ℕ, suc, ◌-◌, Bool, true, false, List, [], ◌∷◌, take, drop, eqb}

-- a place further on, but for what was found at once
unfoldable pub index_after : Bool → ℕ → ℕ
index_after true n = 0
index_after false n = suc n

-- where b first stands; the length where it does not
unfoldable pub index_of : ℕ → List ℕ → ℕ
index_of b [] = 0
index_of b (c ∷ s) = index_after (eqb c b) (index_of b s)

-- the part between two places
unfoldable pub slice : ℕ → ℕ → List ℕ → List ℕ
slice start end s = take (end - start) (drop start s)
