-- What is read of a tail: characters stand as they are. Assumes nothing.
use Rattle.std.specs.Prelude.{◌≡◌, ℕ, List}
use Rattle.texts.specs.declared.fields.Tail.{Tail}
use Rattle.texts.specs.declared.fields.Tail.TheVariants.{Characters, Octets}

-- these are the tail's characters, if it has characters
abbrev pub AsItStands : Tail → List ℕ → Type 0
AsItStands (Characters characters) octets = octets ≡ characters.now
AsItStands (Octets digits) octets = Unit
