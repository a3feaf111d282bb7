-- A helper: what the reader of codes answers, beside what a definition in `Crews` says of the part that it was handed. Assumes nothing.
use Rattle.std.specs.Prelude as core
use Rattle.std.specs.Prelude.{◌≡◌, List, ℕ, length, Some, None}
use Rattle.std.proofs.Math.Option.{Option, none, some}

-- so many codes, or none that can be read
abbrev pub CodesAre : core.Option ℕ → Option (List ℕ) → Type 0
CodesAre (Some n) found = (codes : List ℕ) × (found ≡ some codes) × (n ≡ length codes)
CodesAre None found = found ≡ none
