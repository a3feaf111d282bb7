-- Document 000, 4.2.1 and 4.2.2: Register and Release Complete, the messages around a component. Assumes nothing.
use Rattle.std.specs.Prelude.{ℕ, ◌+◌, ◌-◌, ◌%◌, Bool, cond, ◌&&◌, List, [], ◌∷◌, ◌++◌, length, take, drop, ltb, leb, eqb}
use Rattle.std.proofs.Math.Option.{Option, some}
use Rattle.answers.specs.Begins.{begins, behind}
use Rattle.answers.specs.Checks.{◌>>=◌, only_if}
use Rattle.frames.specs.Parts.{first_of}
use Rattle.frames.specs.Components.{invoke, Component, component, Body, wrong, asks, mistyped_parameter, invoke_of, component_of}

-- "a frame buffer under 120 octets" is refusal 1
abbrev pub frame_room : ℕ
frame_room = 120

-- ---- written

-- Register is 0x7B, Release Complete 0x2A, Facility 0x1C
abbrev pub register_type : ℕ
register_type = 0x7B

abbrev pub release_type : ℕ
release_type = 0x2A

abbrev pub facility : ℕ
facility = 0x1C

-- the SS version 0x7F, its length, and the indicator 0x00
abbrev pub version : List ℕ
version = 0x7F ∷ 0x01 ∷ 0x00 ∷ []

-- first octet, message type, and the component as facility, its length one plain octet
abbrev pub headed : ℕ → ℕ → List ℕ → List ℕ
headed first type c = first ∷ type ∷ facility ∷ length c ∷ c

unfoldable pub register : ℕ → ℕ → ℕ → List ℕ → List ℕ
register first number scheme string = headed first register_type (invoke number scheme string) ++ version

unfoldable pub release : ℕ → Component → List ℕ
release first c = headed first release_type (component c)

-- the first octet's low half says that this is a supplementary service's message; the transaction identifier, flag and value, is its high half
abbrev pub protocol : ℕ
protocol = 0xB

abbrev pub first_octet : ℕ → Bool
first_octet first = eqb (first % 16) protocol

-- "the transaction flag inverted": the highest bit
abbrev pub flag : ℕ
flag = 128

unfoldable pub inverted : ℕ → ℕ
inverted first = cond (ltb first flag) (first + flag) (first - flag)

-- ---- read

-- "11 for a message wrong anywhere up to its invoke number", and for a Release Complete that does not read
abbrev pub unread_message : ℕ
unread_message = 11

-- a message of some type: its first octet, the element, and what lies behind that
pub record Message : Type 0 where
  pub first : ℕ
  pub element : List ℕ
  pub rest : List ℕ

unfoldable pub message_of : ℕ → List ℕ → Option Message
message_of type s = do
  first ← first_of s
  rest ← behind (type ∷ facility ∷ []) first.rest
  count ← first_of rest
  only_if (first_octet first.got && leb count.got (length count.rest))
      (record { first = first.got; element = take count.got count.rest; rest = drop count.got count.rest })

-- a Register that is right up to its invoke number: first octet, invoke number, and what stands behind that
pub record Register : Type 0 where
  pub first : ℕ
  pub number : ℕ
  pub body : Body

abbrev pub is_version : List ℕ → Bool
is_version rest = eqb (length rest) (length version) && begins version rest

-- the SS version ends the message: else it is wrong after its operation
abbrev pub ending : List ℕ → Body → Body
ending rest (wrong problem) = wrong problem
ending rest (asks scheme string) = cond (is_version rest) (asks scheme string) (wrong mistyped_parameter)

unfoldable pub register_of : List ℕ → Option Register
register_of s = do
  message ← message_of register_type s
  request ← invoke_of message.element
  some (record { first = message.first; number = request.number; body = ending message.rest request.body })

-- a Release Complete: its first octet and its component, with nothing behind it
pub record Release : Type 0 where
  pub first : ℕ
  pub answer : Component

unfoldable pub release_of : List ℕ → Option Release
release_of s = do
  message ← message_of release_type s
  answer ← component_of message.element
  only_if (eqb (length message.rest) 0) (record { first = message.first; answer = answer })
