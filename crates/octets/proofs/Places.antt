-- The place of an octet: how many others stand before it, as the library counts them. Assumes nothing.
use Rattle.std.proofs.Common.{◌≡◌, ◌≤◌, ℕ, ◌+◌, Bool, true, false, not, cond, List, [], ◌∷◌, length, eqb, refl, arith}
use Rattle.std.specs.List.{position_or_len}
use Rattle.octets.specs.Octets.{index_of, index_after}

pub index_counted : (b : ℕ) (s : List ℕ) → position_or_len (λ (x : ℕ). eqb x b) s ≡ index_of b s
unfolding index_of index_after
index_counted b [] = refl
index_counted b (c ∷ s) = go (eqb c b) (index_counted b s)
  where
    go : (t : Bool) → position_or_len (λ (x : ℕ). eqb x b) s ≡ index_of b s → cond (not t) (1 + position_or_len (λ (x : ℕ). eqb x b) s) 0 ≡ index_after t (index_of b s)
    go true e = refl
    go false e = rw e (omega arith)

pub index_within : (b : ℕ) (s : List ℕ) → index_of b s ≤ length s
unfolding index_of index_after
index_within b [] = omega arith
index_within b (c ∷ s) = go (eqb c b) (index_within b s)
  where
    go : (t : Bool) → index_of b s ≤ length s → index_after t (index_of b s) ≤ length (c ∷ s)
    go true h = omega arith
    go false h = omega arith
