-- A numeral has one or two digits. Assumes nothing.
use mathlib.Core.Bool.{Bool, true, false, cond}
use mathlib.Core.List.{[], ◌∷◌}
use Prim.Native.Nat.{ℕ, ◌+◌, ◌≤◌}
use native.Mathlib.Omega.{arith}
use lib.ListN.{length}
use lib.Dec.{ltb}
use Rattle.numbers.specs.Numbers.{two_digits, numeral}

pub numeral_short : (n : ℕ) → length (numeral n) ≤ 2
numeral_short n = go (ltb n 10)
  where
    go : (b : Bool) → length (cond b ((48 + n) ∷ []) (two_digits n)) ≤ 2
    go true = omega arith
    go false = omega arith
