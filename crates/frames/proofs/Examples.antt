-- Octet by octet, computed from the definitions: lengths, a Register right, wrong and refused, and the three Release Completes. Assumes nothing.
use mathlib.Core.Path.{◌≡◌, refl}
use mathlib.Core.Option.{none, some}
use mathlib.Core.List.{List, [], ◌∷◌, ◌++◌}
use Prim.Native.Nat.{ℕ}
use Rattle.answers.specs.Ascii.{ascii}
use Rattle.answers.specs.Begins.{begins}
use Rattle.packing.specs.Packing.{value_of, digits, octets_for, padded, packed}
use Rattle.frames.specs.Parts.{length_octets, contents_of, octet_at}
use Rattle.frames.specs.Components.{body_of, invoke_of, component_of}
use Rattle.frames.specs.Components.Component.{result, error, reject}
use Rattle.frames.specs.Components.Body.{wrong, asks}
use Rattle.frames.specs.Messages.{message_of, register_of, release_of, version}

-- ---- a length

pub longest_short : length_octets 127 ≡ 0x7F ∷ []
longest_short = refl

pub shortest_long : length_octets 128 ≡ 0x81 ∷ 0x80 ∷ []
shortest_long = refl

-- ---- a Register

-- the registration of 0492123401
abbrev pub registration : List ℕ
registration =
    0x2A ∷ 0x95 ∷ 0x2C ∷ 0x46 ∷ 0x53 ∷ 0xC1 ∷ 0x68 ∷ 0x39 ∷ 0x59 ∷ 0x4C ∷ 0x36 ∷ 0xA3 ∷ 0xC1 ∷ 0x62 ∷ 0x2A ∷ 0x95 ∷ 0x6A ∷ 0x04 ∷ []

pub registration_packed : packed (ascii "**214*0492123401***#") ≡ registration
unfolding value_of digits octets_for padded packed
registration_packed = refl

-- a first octet, the facility and the component with invoke number 1, an operation and the registration, and what stands behind that
abbrev pub asking : ℕ → ℕ → List ℕ → List ℕ
asking first code rest =
    (first ∷ 0x7B ∷ 0x1C ∷ 0x21 ∷ 0xA1 ∷ 0x1F ∷ 0x02 ∷ 0x01 ∷ 0x01 ∷ 0x02 ∷ 0x01 ∷ code ∷ 0x30 ∷ 0x17 ∷ 0x04 ∷ 0x01 ∷ 0x0F ∷ 0x04 ∷ 0x12
    ∷ registration)
    ++ rest

pub asks_registration : register_of (asking 0x0B 0x3B version) ≡ some (record { first = 0x0B; number = 1; body = asks 0x0F registration })
unfolding begins contents_of octet_at body_of invoke_of message_of register_of
asks_registration = refl

-- "An unknown or unreadable operation gives Reject with problem 1"
pub unknown_operation : register_of (asking 0x0B 0x3C version) ≡ some (record { first = 0x0B; number = 1; body = wrong 1 })
unfolding begins contents_of octet_at body_of invoke_of message_of register_of
unknown_operation = refl

-- "anything wrong after it problem 2": no SS version
pub no_version : register_of (asking 0x0B 0x3B []) ≡ some (record { first = 0x0B; number = 1; body = wrong 2 })
unfolding begins contents_of octet_at body_of invoke_of message_of register_of
no_version = refl

-- refused: another protocol's first octet
pub other_protocol : register_of (asking 0x03 0x3B version) ≡ none
unfolding begins contents_of octet_at body_of invoke_of message_of register_of
other_protocol = refl

-- ---- a Release Complete, the transaction flag inverted

-- a result with the string `01`
pub releases_result :
    release_of
    (0x8B ∷ 0x2A ∷ 0x1C ∷ 0x13 ∷ 0xA2 ∷ 0x11 ∷ 0x02 ∷ 0x01 ∷ 0x01 ∷ 0x30 ∷ 0x0C ∷ 0x02 ∷ 0x01 ∷ 0x3B ∷ 0x30 ∷ 0x07 ∷ 0x04 ∷ 0x01 ∷ 0x0F ∷ 0x04 ∷ 0x02
    ∷ 0xB0 ∷ 0x18 ∷ [])
    ≡ some (record { first = 0x8B; answer = result 1 (0xB0 ∷ 0x18 ∷ []) })
unfolding begins contents_of octet_at body_of component_of message_of release_of
releases_result = refl

-- error 36
pub releases_error :
    release_of (0x8B ∷ 0x2A ∷ 0x1C ∷ 0x08 ∷ 0xA3 ∷ 0x06 ∷ 0x02 ∷ 0x01 ∷ 0x01 ∷ 0x02 ∷ 0x01 ∷ 0x24 ∷ [])
    ≡ some (record { first = 0x8B; answer = error 1 36 })
unfolding begins contents_of octet_at body_of component_of message_of release_of
releases_error = refl

-- problem 1
pub releases_reject :
    release_of (0x8B ∷ 0x2A ∷ 0x1C ∷ 0x08 ∷ 0xA4 ∷ 0x06 ∷ 0x02 ∷ 0x01 ∷ 0x01 ∷ 0x81 ∷ 0x01 ∷ 0x01 ∷ [])
    ≡ some (record { first = 0x8B; answer = reject 1 1 })
unfolding begins contents_of octet_at body_of component_of message_of release_of
releases_reject = refl
