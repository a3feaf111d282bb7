-- Document 000, 4.2.1 and 4.2.2, and for the tags that its tables leave out TS 24.080: the component that carries a request, and the three that answer one. Assumes nothing.
use Rattle.std.specs.Prelude.{ℕ, Bool, true, ◌&&◌, List, ◌++◌, length, leb, eqb}
use Rattle.std.proofs.Math.Option.{Option, none, some}
use Rattle.answers.specs.Begins.{behind}
use Rattle.answers.specs.Checks.{◌>>=◌, only_if}
use Rattle.strings.specs.Text.{coding_scheme}
use Rattle.strings.specs.Reader.{or_else}
use Rattle.frames.specs.Parts.{part, octet_part, contents_of, octet_at}

-- ---- tags and codes

-- Invoke, Return Result, Return Error and Reject
abbrev pub invoke_tag : ℕ
invoke_tag = 0xA1

abbrev pub result_tag : ℕ
result_tag = 0xA2

abbrev pub error_tag : ℕ
error_tag = 0xA3

abbrev pub reject_tag : ℕ
reject_tag = 0xA4

-- the tag of invoke number, operation and error, of a sequence, of octets, and of a problem with the invocation
abbrev pub integer_tag : ℕ
integer_tag = 0x02

abbrev pub sequence_tag : ℕ
sequence_tag = 0x30

abbrev pub octets_tag : ℕ
octets_tag = 0x04

abbrev pub problem_tag : ℕ
problem_tag = 0x81

-- ProcessUnstructuredSS-Request
abbrev pub operation_code : ℕ
operation_code = 0x3B

-- ---- written

-- the operation
abbrev pub operation : List ℕ
operation = octet_part integer_tag operation_code

-- the coding scheme and the string
abbrev pub argument : ℕ → List ℕ → List ℕ
argument scheme string = part sequence_tag (octet_part octets_tag scheme ++ part octets_tag string)

-- a request: its invoke number, the operation, and its argument
unfoldable pub invoke : ℕ → ℕ → List ℕ → List ℕ
invoke number scheme string = part invoke_tag (octet_part integer_tag number ++ (operation ++ argument scheme string))

-- its answer
pub data Component : Type 0 where
  -- invoke number, string
  result : ℕ → List ℕ → Component
  -- invoke number, code
  error : ℕ → ℕ → Component
  -- invoke number, problem
  reject : ℕ → ℕ → Component

unfoldable pub component : Component → List ℕ
component (result number string) = part result_tag (octet_part integer_tag number ++ part sequence_tag (operation ++ argument coding_scheme string))
component (error number code) = part error_tag (octet_part integer_tag number ++ octet_part integer_tag code)
component (reject number problem) = part reject_tag (octet_part integer_tag number ++ octet_part problem_tag problem)

-- ---- a request read

-- "An unknown or unreadable operation gives Reject with problem 1, anything wrong after it problem 2"
abbrev pub unrecognized_operation : ℕ
unrecognized_operation = 1

abbrev pub mistyped_parameter : ℕ
mistyped_parameter = 2

-- what stands behind the invoke number: a problem, or the scheme and the string that are asked with
pub data Body : Type 0 where
  wrong : ℕ → Body
  asks : ℕ → List ℕ → Body

-- the coding scheme and the string, in a sequence that fills what is left
abbrev pub argument_of : List ℕ → Option Body
argument_of s = do
  contents ← contents_of sequence_tag s
  scheme ← octet_at octets_tag contents
  string ← contents_of octets_tag scheme.rest
  some (asks scheme.got string)

abbrev pub or_wrong : ℕ → Option Body → Body
or_wrong problem none = wrong problem
or_wrong problem (some body) = body

abbrev pub argued : Option (List ℕ) → Body
argued none = wrong unrecognized_operation
argued (some s) = or_wrong mistyped_parameter (argument_of s)

unfoldable pub body_of : List ℕ → Body
body_of s = argued (behind operation s)

-- a request right up to its invoke number: that, and what stands behind it
pub record Invoke : Type 0 where
  pub number : ℕ
  pub body : Body

-- a component that fills s; nothing where it is wrong up to its invoke number
unfoldable pub invoke_of : List ℕ → Option Invoke
invoke_of s = do
  contents ← contents_of invoke_tag s
  number ← octet_at integer_tag contents
  some (record { number = number.got; body = body_of number.rest })

-- ---- an answer read

-- a result's string has up to 80 octets
abbrev pub most_result_octets : ℕ
most_result_octets = 80

-- what a reader reads: a result with such a string, any error, any Reject
abbrev pub readable_answer : Component → Bool
readable_answer (result number string) = leb (length string) most_result_octets
readable_answer (error number code) = true
readable_answer (reject number problem) = true

-- behind its operation, in the coding scheme
abbrev pub string_of : Body → Option (List ℕ)
string_of (wrong problem) = none
string_of (asks scheme string) = only_if (eqb scheme coding_scheme && leb (length string) most_result_octets) string

abbrev pub result_of : List ℕ → Option Component
result_of s = do
  contents ← contents_of result_tag s
  number ← octet_at integer_tag contents
  sequence ← contents_of sequence_tag number.rest
  string ← string_of (body_of sequence)
  some (result number.got string)

-- the invoke number and one octet more, in a component that they fill
pub record Pair : Type 0 where
  pub number : ℕ
  pub code : ℕ

abbrev pub pair_of : ℕ → ℕ → List ℕ → Option Pair
pair_of tag inner s = do
  contents ← contents_of tag s
  number ← octet_at integer_tag contents
  code ← octet_at inner number.rest
  only_if (eqb (length code.rest) 0) (record { number = number.got; code = code.got })

abbrev pub error_of : List ℕ → Option Component
error_of s = pair_of error_tag integer_tag s >>= λ p. some (error p.number p.code)

abbrev pub reject_of : List ℕ → Option Component
reject_of s = pair_of reject_tag problem_tag s >>= λ p. some (reject p.number p.code)

unfoldable pub component_of : List ℕ → Option Component
component_of s = or_else (result_of s) (or_else (error_of s) (reject_of s))
