-- A helper: what the readers of fields and lines answer, in the words of `Lines`. Assumes nothing.
use Rattle.std.specs.Prelude as core
use Rattle.std.specs.Prelude.{◌≡◌, ℕ, ◌≤◌, List, length, drop, Some, None}
use Rattle.std.proofs.Math.Option.{Option, none, some}
use Rattle.forms.specs.declared.Line.{Line}
use Rattle.forms.specs.declared.Line.TheVariants as line
use Rattle.forms.specs.Lines.{Form, first_field, behind_field, number_line, subscriber_line, request_line, sending_line, result_line, delay_line}

-- the value that a field's reader answers
abbrev pub value_in : core.Option ℕ → Option ℕ
value_in (Some v) = some v
value_in None = none

-- a part of a line that is one field
abbrev pub Whole : List ℕ → Type 0
Whole rest = behind_field rest ≡ none

-- a part of a line: the field up to its first space, and what stands behind that space
pub record Parted (rest field behind : List ℕ) : Type 0 where
  pub first : first_field rest ≡ field
  pub second : behind_field rest ≡ some behind

-- the form of a line; a string stands in the line from its start on
abbrev pub form_of_line : List ℕ → Line → Form
form_of_line rest (line.Number n) = number_line n
form_of_line rest (line.Subscriber m flags) = subscriber_line m flags
form_of_line rest (line.Request m start) = request_line m (drop start rest)
form_of_line rest (line.Sending now n) = sending_line now n
form_of_line rest (line.Result now n kind) = result_line now n kind
form_of_line rest (line.Delay seconds) = delay_line seconds

-- the form that a line's reader answers
abbrev pub form_in : List ℕ → core.Option Line → Option Form
form_in rest (Some l) = some (form_of_line rest l)
form_in rest None = none

-- where the string of a line starts
abbrev pub start_of : Line → ℕ
start_of (line.Number n) = 0
start_of (line.Subscriber m flags) = 0
start_of (line.Request m start) = start
start_of (line.Sending now n) = 0
start_of (line.Result now n kind) = 0
start_of (line.Delay seconds) = 0

abbrev pub start_in : core.Option Line → ℕ
start_in (Some l) = start_of l
start_in None = 0

-- what a line's reader answers
pub record Reads (rest : List ℕ) (answer : core.Option Line) (f : Option Form) : Type 0 where
  pub form : form_in rest answer ≡ f
  pub within : start_in answer ≤ length rest
