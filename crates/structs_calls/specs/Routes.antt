-- The numbers and octets of the struct that a routing returns, from the answers in the paper's words. Assumes nothing.
use Rattle.std.specs.Prelude.{ℕ, List, [], ◌∷◌, length}
use Rattle.answers.specs.Writing.{over}
use Rattle.rules.specs.Answers.{Answer, refusal, error, outcome, holder_is, return_error, reject, sent_to, delivered, dropped, again, found, none_due, ask_network, routed_to, numbers_of, ask_network_class, routed_class}
use Rattle.structs_calls.specs.declared.Route.{Route}

-- three octets that say nothing
abbrev pub no_octets : List ℕ
no_octets = 0 ∷ 0 ∷ 0 ∷ []

-- an answer that is only a number of its class
abbrev pub plain_route : Answer → Route
plain_route a =
    record { class = (numbers_of a).class; number = (numbers_of a).number; msisdn = 0; code = no_octets; subaddress = no_octets; subaddress_octets = 0 }

-- another network's code, or the MSISDN with its subaddress; a routing has no other answer but refusals, errors and outcomes
abbrev pub of_route : Answer → Route
of_route (refusal n) = plain_route (refusal n)
of_route (error n) = plain_route (error n)
of_route (outcome n octets) = plain_route (outcome n octets)
of_route (holder_is msisdn octets) = plain_route (holder_is msisdn octets)
of_route (return_error n octets) = plain_route (return_error n octets)
of_route (reject n octets) = plain_route (reject n octets)
of_route (sent_to addressee octets) = plain_route (sent_to addressee octets)
of_route delivered = plain_route delivered
of_route dropped = plain_route dropped
of_route again = plain_route again
of_route (found number) = plain_route (found number)
of_route none_due = plain_route none_due
of_route (ask_network code) = record { class = ask_network_class; number = 0; msisdn = 0; code = code; subaddress = no_octets; subaddress_octets = 0 }
of_route (routed_to msisdn subaddress) =
    record { class = routed_class; number = 0; msisdn = msisdn; code = no_octets; subaddress = over subaddress no_octets; subaddress_octets = length subaddress }
