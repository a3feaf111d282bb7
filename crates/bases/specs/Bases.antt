-- Numbers and their digits to a base. Assumes nothing.
use Rattle.std.specs.Prelude.{ℕ, zero, suc, ◌+◌, ◌*◌, ◌/◌, ◌%◌, List, [], ◌∷◌}

-- the number whose digits to the base b are ds, the lowest first
unfoldable pub value_of : ℕ → List ℕ → ℕ
value_of b [] = 0
value_of b (d ∷ ds) = d + b * value_of b ds

-- the k lowest digits of n to the base b
unfoldable pub digits : ℕ → ℕ → ℕ → List ℕ
digits b zero n = []
digits b (suc k) n = n % b ∷ digits b k (n / b)
