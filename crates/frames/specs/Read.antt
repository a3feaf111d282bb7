-- What each case of the readers' answers stands for, a string by its place in the octets that it was read from; a refusal and a problem by their numbers. Assumes nothing.
use Rattle.std.specs.Prelude.{ℕ, ◌+◌, ◌-◌, cond, List, length, take, drop, Some, None, Result, Ok, Err}
use Rattle.std.specs.Prelude as core
use Rattle.std.proofs.Math.Option.{Option, none, some}
use Rattle.answers.specs.declared.Refusal.{Refusal}
use Rattle.answers.specs.Numbers.{refusal_number}
use Rattle.strings.specs.Reader.{Field}
use Rattle.frames.specs.declared.Problem.{Problem}
use Rattle.frames.specs.declared.Problem.TheVariants.{UnrecognizedOperation, MistypedParameter}
use Rattle.frames.specs.declared.Asked.{Asked}
use Rattle.frames.specs.declared.Invoke.{Invoke}
use Rattle.frames.specs.declared.Register.{Register}
use Rattle.frames.specs.declared.Answer.{Answer}
use Rattle.frames.specs.declared.Answer.TheVariants as answer
use Rattle.frames.specs.declared.Release.{Release}
use Rattle.frames.specs.Components as components
use Rattle.frames.specs.Messages as messages

-- the code of a Reject's problem
abbrev pub problem_number : Problem → ℕ
problem_number UnrecognizedOperation = components.unrecognized_operation
problem_number MistypedParameter = components.mistyped_parameter

-- where contents that end s start
abbrev pub start_of : List ℕ → Option (List ℕ) → core.Option ℕ
start_of s none = None
start_of s (some contents) = Some (length s - length contents)

-- the last octets of s
abbrev pub last_of : ℕ → List ℕ → List ℕ
last_of count s = drop (length s - count) s

abbrev pub told_octet : core.Option ℕ → List ℕ → Option (Field ℕ)
told_octet (Some x) s = some (record { got = x; rest = drop 3 s })
told_octet None s = none

abbrev pub told_pair : core.Option (ℕ × ℕ) → Option components.Pair
told_pair (Some p) = some (record { number = p.0; code = p.1 })
told_pair None = none

abbrev pub told_asked : Asked → List ℕ → components.Body
told_asked a s = components.asks a.scheme (last_of a.count s)

abbrev pub told_argument : core.Option Asked → List ℕ → Option components.Body
told_argument (Some a) s = some (told_asked a s)
told_argument None s = none

abbrev pub told_body : Result Asked Problem → List ℕ → components.Body
told_body (Ok a) s = told_asked a s
told_body (Err problem) s = components.wrong (problem_number problem)

-- with what lies behind the element
abbrev pub ended_body : List ℕ → Result Asked Problem → Result Asked Problem
ended_body rest (Ok a) = cond (messages.is_version rest) (Ok a) (Err MistypedParameter)
ended_body rest (Err problem) = Err problem

abbrev pub told_invoke : core.Option Invoke → List ℕ → Option components.Invoke
told_invoke (Some v) s = some (record { number = v.number; body = told_body v.body s })
told_invoke None s = none

-- where a message's element ends
abbrev pub end_of : Option messages.Message → core.Option ℕ
end_of none = None
end_of (some m) = Some (4 + length m.element)

-- what is read, or refusal 11
abbrev pub or_unread : {X : Type 0} → Option X → Result X ℕ
or_unread none = Err messages.unread_message
or_unread (some x) = Ok x

-- the string of a Register stands before the SS version
abbrev pub told_register : Result Register Refusal → List ℕ → Result messages.Register ℕ
told_register (Ok r) s =
    Ok (record { first = r.first; number = r.number; body = told_body r.body (take (length s - length messages.version) s) })
told_register (Err refusal) s = Err (refusal_number refusal)

abbrev pub told_component : Answer → List ℕ → components.Component
told_component (answer.Result number count) s = components.result number (last_of count s)
told_component (answer.Error number code) s = components.error number code
told_component (answer.Reject number problem) s = components.reject number problem

abbrev pub told_answer : core.Option Answer → List ℕ → Option components.Component
told_answer (Some a) s = some (told_component a s)
told_answer None s = none

abbrev pub told_release : Result Release Refusal → List ℕ → Result messages.Release ℕ
told_release (Ok r) s = Ok (record { first = r.first; answer = told_component r.answer s })
told_release (Err refusal) s = Err (refusal_number refusal)
