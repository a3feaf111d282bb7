-- The paper's class, number and values for each case of a routing's answer. Assumes nothing.
use Rattle.std.specs.Prelude.{List, [], ◌∷◌, ℕ, Option, Some, None, Result, Ok, Err}
use Rattle.answers.specs.declared.Failure.{Failure}
use Rattle.answers.specs.declared.Failure.TheVariants.{Refused, Error}
use Rattle.answers.specs.Numbers.{refusal_number, outcome_number, error_number}
use Rattle.rules.specs.Answers.{Answer, refusal, error, outcome, ask_network, routed_to}
use Rattle.routes.specs.declared.Subaddress.{Subaddress}
use Rattle.routes.specs.declared.RoutingAnswer.{RoutingAnswer}
use Rattle.routes.specs.declared.RoutingAnswer.TheVariants.{Outcome, AskNetwork, Routed}

-- the subaddress octets
abbrev pub octets_in : Option Subaddress → List ℕ
octets_in None = []
octets_in (Some s) = s.kind ∷ s.format ∷ s.branch ∷ []

abbrev pub said_routing : Result RoutingAnswer Failure → Answer
said_routing (Err (Refused refused)) = refusal (refusal_number refused)
said_routing (Err (Error wrong)) = error (error_number wrong)
said_routing (Ok (Outcome answered)) = outcome (outcome_number answered) 0
said_routing (Ok (AskNetwork code)) = ask_network code
said_routing (Ok (Routed msisdn subaddress)) = routed_to msisdn.0 (octets_in subaddress)
