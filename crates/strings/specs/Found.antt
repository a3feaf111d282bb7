-- A helper: what the reader of one field answers, beside what the field's definition in `Reader` says of the part that it was handed. Assumes nothing.
use Rattle.std.specs.Prelude as core
use Rattle.std.specs.Prelude.{◌≡◌, List, ℕ, ◌+◌, ◌≤◌, length, take, drop, Some, None}
use Rattle.std.proofs.Math.Option.{Option, none, some}
use Rattle.crews.specs.Crews.{count_of}
use Rattle.crews.specs.declared.Crew.{Crew}
use Rattle.strings.specs.Reader.{Field, service_at, additional_at}

-- the reader finds x in s from one place up to another
pub record Found {X : Type 0} (reader : List ℕ → Option (Field X)) (s : List ℕ) (at : ℕ) (x : X) (end : ℕ) : Type 0 where
  pub within : end ≤ length s
  pub found : reader (drop at s) ≡ some (record { got = x; rest = drop end s })

-- `214` and its star stand in s from one place up to another
pub record Served (s : List ℕ) (at end : ℕ) : Type 0 where
  pub within : end ≤ length s
  pub found : service_at (drop at s) ≡ some (drop end s)

-- a field and how far it reaches, or none that can be read
abbrev pub FieldIs : {X : Type 0} → (List ℕ → Option (Field X)) → core.Option (X × ℕ) → List ℕ → Type 0
FieldIs reader (Some read) s = Found reader s 0 read.0 read.1
FieldIs reader None s = reader s ≡ none

abbrev pub ServiceIs : core.Option ℕ → List ℕ → Type 0
ServiceIs (Some n) s = Served s 0 n
ServiceIs None s = service_at s ≡ none

-- how many characters, and what they say of a crew
abbrev pub AdditionalIs : core.Option (ℕ × Crew) → List ℕ → Type 0
AdditionalIs (Some read) s = (length s ≡ read.0 + 1) × (additional_at s ≡ some (take read.0 s)) × (read.1 ≡ count_of (take read.0 s))
AdditionalIs None s = additional_at s ≡ none
