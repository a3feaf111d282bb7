-- The paper's class, number and values for each case of the framed request's answer. Assumes nothing.
use Rattle.std.specs.Prelude.{ℕ, Bool, ◌&&◌, leb, Result, Ok, Err}
use Rattle.answers.specs.Numbers.{refusal_number, outcome_number, error_number}
use Rattle.answers.specs.declared.Refusal.{Refusal}
use Rattle.frames.specs.Components.{most_result_octets}
use Rattle.frames.specs.Read.{problem_number}
use Rattle.rules.specs.Answers.{Answer, refusal, outcome, holder_is, return_error, reject, numbers_of}
use Rattle.exchange.specs.declared.Framed.{Framed}
use Rattle.exchange.specs.declared.Framed.TheVariants as framed

abbrev pub said_frame : Framed → Answer
said_frame (framed.Outcome o octets) = outcome (outcome_number o) octets
said_frame (framed.Held msisdn octets) = holder_is msisdn.0 octets
said_frame (framed.Error e octets) = return_error (error_number e) octets
said_frame (framed.Reject problem octets) = reject (problem_number problem) octets

abbrev pub said_framed : Result Framed Refusal → Answer
said_framed (Ok f) = said_frame f
said_framed (Err r) = refusal (refusal_number r)

-- the string of an outcome stands in the reply, and in a result
abbrev pub string_fits : Answer → ℕ → Bool
string_fits a room = leb (numbers_of a).count room && leb (numbers_of a).count most_result_octets
