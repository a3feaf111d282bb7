-- Document 01, "Request string" (000, 4.2.4.1), and document 02, M-100: the fields of a request, when they are sound, and their text. Assumes nothing.
use Rattle.std.specs.Prelude.{ℕ, ◌%◌, Bool, true, false, ◌&&◌, ◌||◌, List, [], ◌∷◌, length, leb, eqb}
use Rattle.answers.specs.Ascii.{ascii}
use Rattle.answers.specs.Joined.{joined}
use Rattle.answers.specs.Leading.{each}
use Rattle.numbers.specs.Numbers.{is_digit, is_number, digits_of}
use Rattle.numbers.specs.declared.FunctionalNumber.{FunctionalNumber}
use Rattle.crews.specs.Crews.{lead_code, count_of}
use Rattle.crews.specs.declared.Crew.{Crew}
use Rattle.crews.specs.declared.Crew.TheVariants.{Single, Codes, Broken}
use Rattle.strings.specs.declared.Operation.{Operation}
use Rattle.strings.specs.declared.Operation.TheVariants.{Register, Erase, Interrogate}
use Rattle.strings.specs.declared.Erasing.{Erasing}
use Rattle.strings.specs.declared.Erasing.TheVariants.{Empty, Forced}

-- the fields of a request, the additional field by its characters
pub record Request : Type 0 where
  pub operation : Operation
  pub number : FunctionalNumber
  pub erasing : Erasing
  pub additional : List ℕ

-- "from 0–9, A–Z and space"
unfoldable pub is_additional : ℕ → Bool
is_additional c = is_digit c || (leb 65 c && leb c 90) || eqb c 32

abbrev pub are_additional : List ℕ → Bool
are_additional cs = each is_additional cs

-- "The additional field has 0 to 30 characters"
abbrev pub most_additional : ℕ
most_additional = 30

-- "with `##` only"
abbrev pub may_force : Operation → Bool
may_force Register = false
may_force Erase = true
may_force Interrogate = false

-- "Supervisor field and MSISDN are both empty, or, with `##` only, `88` and a number"
abbrev pub erasing_sound : Operation → Erasing → Bool
erasing_sound o Empty = true
erasing_sound o (Forced m) = may_force o && is_number m.0

-- "Only register and plain erase may carry it"
abbrev pub may_carry : Operation → Erasing → Bool
may_carry Register Empty = true
may_carry Erase Empty = true
may_carry Interrogate Empty = false
may_carry o (Forced m) = false

-- "The functional number ends in 01"
abbrev pub is_lead : FunctionalNumber → Bool
is_lead number = eqb (number.0 % 100) lead_code

-- what an additional field says of a crew, beside the other fields: an ordinary field may stand in any request
abbrev pub crew_allowed : Operation → FunctionalNumber → Erasing → Crew → Bool
crew_allowed o number erasing Single = true
crew_allowed o number erasing (Codes n) = is_lead number && may_carry o erasing
crew_allowed o number erasing Broken = false

abbrev pub crew_kept : Request → Bool
crew_kept f = crew_allowed f.operation f.number f.erasing (count_of f.additional)

-- the fields that a writer is given
abbrev pub request_from : Operation → FunctionalNumber → Erasing → List ℕ → Request
request_from o number erasing additional = record { operation = o; number = number; erasing = erasing; additional = additional }

-- fields that keep the string's rules
unfoldable pub request_sound : Request → Bool
request_sound f =
    is_number f.number.0 && erasing_sound f.operation f.erasing && leb (length f.additional) most_additional && are_additional f.additional
    && crew_kept f

-- "operation `**` (register), `##` (erase) or `*#` (interrogate)"
abbrev pub operation_text : Operation → List ℕ
operation_text Register = ascii "**"
operation_text Erase = ascii "##"
operation_text Interrogate = ascii "*#"

-- `214`, `*`, `#` and `88`
abbrev pub service_text : List ℕ
service_text = ascii "214"

abbrev pub star : List ℕ
star = ascii "*"

abbrev pub hash : List ℕ
hash = ascii "#"

abbrev pub supervisor_text : Erasing → List ℕ
supervisor_text Empty = []
supervisor_text (Forced m) = ascii "88"

abbrev pub msisdn_text : Erasing → List ℕ
msisdn_text Empty = []
msisdn_text (Forced m) = digits_of m.0

-- "In order: operation …; `214`; `*`; functional number; `*`; supervisor field; `*`; MSISDN to erase; `*`; additional field; `#` as last character"
unfoldable pub text_of : Request → List ℕ
text_of f = joined
    (operation_text f.operation
    ∷ service_text
    ∷ star
    ∷ digits_of f.number.0
    ∷ star
    ∷ supervisor_text f.erasing
    ∷ star
    ∷ msisdn_text f.erasing
    ∷ star
    ∷ f.additional
    ∷ hash
    ∷ [])

-- "data coding scheme is not 0x0F": the scheme of a request's string
abbrev pub coding_scheme : ℕ
coding_scheme = 0x0F

-- "at most 72 characters, 63 octets"
abbrev pub most_characters : ℕ
most_characters = 72

abbrev pub most_octets : ℕ
most_octets = 63
