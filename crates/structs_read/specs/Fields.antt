-- The numbers of the struct that the request's reader returns, and numbers as fields. Assumes nothing.
use Rattle.std.specs.Prelude.{ℕ, cond, length, eqb, Option, Some, None}
use Rattle.rules.specs.Answers as rules
use Rattle.numbers.specs.declared.FunctionalNumber.{FunctionalNumber}
use Rattle.crews.specs.declared.Crew.{Crew}
use Rattle.crews.specs.declared.Crew.TheVariants.{Single, Codes, Broken}
use Rattle.strings.specs.declared.Operation.{Operation}
use Rattle.strings.specs.declared.Operation.TheVariants.{Register, Erase, Interrogate}
use Rattle.strings.specs.declared.Erasing.{Erasing}
use Rattle.strings.specs.declared.Erasing.TheVariants.{Empty, Forced}
use Rattle.strings.specs.Outcomes as reading
use Rattle.structs_read.specs.declared.RequestRead.{RequestRead}
use Rattle.structs.specs.Numbers.{read_class}

-- an operation by its number
abbrev pub of_operation : Operation → ℕ
of_operation Register = 0
of_operation Erase = 1
of_operation Interrogate = 2

-- the MSISDN that a forced erasure names, or 0
abbrev pub of_erasing : Erasing → ℕ
of_erasing Empty = 0
of_erasing (Forced msisdn) = msisdn.0

-- whether a request is of a crew, and how many codes it has; fields that read are not broken
abbrev pub of_crew : Crew → ℕ
of_crew Single = 0
of_crew (Codes n) = 1
of_crew Broken = 0

abbrev pub code_count : Crew → ℕ
code_count Single = 0
code_count (Codes n) = n
code_count Broken = 0

-- the fields of a request, the additional field by its place and its length
abbrev pub of_fields : Operation → FunctionalNumber → Erasing → ℕ → ℕ → Crew → RequestRead
of_fields operation number erasing start count crew = record {
  class = read_class;
  number = 0;
  operation = of_operation operation;
  crew = of_crew crew;
  functional_number = number.0;
  msisdn = of_erasing erasing;
  start = start;
  length = count;
  codes = code_count crew;
}

-- what a request's reader answers: the fields, or an error
abbrev pub of_told : reading.Told → RequestRead
of_told (reading.fields f start crew) = of_fields f.operation f.number f.erasing start (length f.additional) crew
of_told (reading.error n) = record {
  class = rules.error_class;
  number = n;
  operation = 0;
  crew = 0;
  functional_number = 0;
  msisdn = 0;
  start = 0;
  length = 0;
  codes = 0;
}

-- an operation by its number; no other number is one
abbrev pub operation_of : ℕ → Option Operation
operation_of n = cond (eqb n 0) (Some Register) (cond (eqb n 1) (Some Erase) (cond (eqb n 2) (Some Interrogate) None))

-- supervisor field and MSISDN: both empty for 0, of a forced erasure for any other word
abbrev pub erasing_of : ℕ → Erasing
erasing_of msisdn = cond (eqb msisdn 0) Empty (Forced (record { 0 = msisdn }))
