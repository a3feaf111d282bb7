-- Document 01, "Request string": how the fields are read from a text. "Each field is read from the remaining part of the string; the first field that cannot be read ends the reading with error 36." Assumes nothing.
use Rattle.std.specs.Prelude as core
use Rattle.std.specs.Prelude.{ℕ, ◌+◌, cond, ◌&&◌, List, ◌++◌, length, take, drop, leb, eqb, Some, None}
use Rattle.std.proofs.Math.Option.{Option, none, some}
use Rattle.answers.specs.Ascii.{ascii}
use Rattle.answers.specs.Begins.{begins, behind}
use Rattle.answers.specs.Leading.{leading}
use Rattle.answers.specs.Checks.{◌>>=◌, only_if}
use Rattle.packing.specs.Packing.{readable, unpacked}
use Rattle.numbers.specs.Numbers.{leading_number}
use Rattle.strings.specs.declared.Operation.{Operation}
use Rattle.strings.specs.declared.Operation.TheVariants.{Register, Erase, Interrogate}
use Rattle.strings.specs.declared.Erasing.{Erasing}
use Rattle.strings.specs.declared.Erasing.TheVariants.{Empty, Forced}
use Rattle.strings.specs.Text.{Request, request_from, may_force, crew_kept, is_additional, most_additional, operation_text, service_text, star, hash}

-- what packed octets read as, by a reader of their characters: nothing where their bits are unreadable
abbrev pub unpacked_by : {X : Type 0} → (List ℕ → Option X) → List ℕ → Option X
unpacked_by reader os = cond (readable os) (reader (unpacked os)) none

-- a field that was read, and what is left of the string
pub record Field (X : Type 0) : Type 0 where
  pub got : X
  pub rest : List ℕ

-- the field x, written as the characters p
abbrev pub field_at : {X : Type 0} → X → List ℕ → List ℕ → Option (Field X)
field_at x p s = only_if (begins p s) (record { got = x; rest = drop (length p) s })

-- the first that can be read
abbrev pub or_else : {X : Type 0} → Option X → Option X → Option X
or_else none other = other
or_else (some x) other = some x

-- the operation
unfoldable pub operation_at : List ℕ → Option (Field Operation)
operation_at s =
    or_else (field_at Register (operation_text Register) s)
    (or_else (field_at Erase (operation_text Erase) s) (field_at Interrogate (operation_text Interrogate) s))

-- `214` and the star behind it
unfoldable pub service_at : List ℕ → Option (List ℕ)
service_at s = behind (service_text ++ star) s

-- a number in stored form, read from s, and the star behind it
abbrev pub starred_number : List ℕ → core.Option (ℕ × ℕ) → Option (Field ℕ)
starred_number s (Some read) = field_at read.0 star (drop read.1 s)
starred_number s None = none

unfoldable pub number_field_at : List ℕ → Option (Field ℕ)
number_field_at s = starred_number s (leading_number s)

-- `88`, a star, the MSISDN to erase and its star: behind `##` only
unfoldable pub forced_at : Operation → List ℕ → Option (Field Erasing)
forced_at o s = do
  part ← only_if (may_force o) s
  rest ← behind (ascii "88" ++ star) part
  msisdn ← number_field_at rest
  some (record { got = Forced (record { 0 = msisdn.got }); rest = msisdn.rest })

-- supervisor field and MSISDN to erase, each with its star: both empty, or of a forced erasure
unfoldable pub erasing_at : Operation → List ℕ → Option (Field Erasing)
erasing_at o s = or_else (field_at Empty (star ++ star) s) (forced_at o s)

-- how many characters at the front may stand in an additional field
abbrev pub leading_additional : List ℕ → ℕ
leading_additional s = leading is_additional s

-- the additional field: 0 to 30 characters, and `#` as last character of the string
unfoldable pub additional_at : List ℕ → Option (List ℕ)
additional_at s =
    let n = leading_additional s in
    only_if (leb n most_additional && begins hash (drop n s) && eqb (length s) (n + 1)) (take n s)

-- "a field starting with `BULK` that breaks this, or stands in another operation, is 36"
abbrev pub keeping_crew : Request → Option Request
keeping_crew f = only_if (crew_kept f) f

-- all fields, in their order
unfoldable pub fields_of : List ℕ → Option Request
fields_of s = do
  operation ← operation_at s
  rest ← service_at operation.rest
  number ← number_field_at rest
  erasing ← erasing_at operation.got number.rest
  additional ← additional_at erasing.rest
  keeping_crew (request_from operation.got (record { 0 = number.got }) erasing.got additional)
