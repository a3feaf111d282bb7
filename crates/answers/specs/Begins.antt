-- The characters at the front of a text. Assumes nothing.
use Rattle.std.specs.Prelude.{ℕ, Bool, true, false, ◌&&◌, List, [], ◌∷◌, length, drop, eqb}
use Rattle.std.proofs.Math.Option.{Option}
use Rattle.answers.specs.Checks.{only_if}

-- the text begins with the characters p
unfoldable pub begins : List ℕ → List ℕ → Bool
begins [] s = true
begins (c ∷ p) [] = false
begins (c ∷ p) (x ∷ s) = eqb x c && begins p s

-- what is left behind the characters p, if the text begins with them
abbrev pub behind : List ℕ → List ℕ → Option (List ℕ)
behind p s = only_if (begins p s) (drop (length p) s)
