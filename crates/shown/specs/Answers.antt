-- What a request and a framed request answer, as an answer of any call. Assumes nothing.
use Rattle.visits.specs.declared.Reply.{Reply}
use Rattle.visits.specs.declared.Reply.TheVariants as reply
use Rattle.exchange.specs.declared.Framed.{Framed}
use Rattle.exchange.specs.declared.Framed.TheVariants as framed
use Rattle.shown.specs.declared.answer.Answer.{Answer}
use Rattle.shown.specs.declared.answer.Answer.TheVariants as answer

-- of a request
abbrev pub of_reply : Reply → Answer
of_reply (reply.Outcome outcome octets) = answer.Outcome outcome octets
of_reply (reply.Held msisdn octets) = answer.Held msisdn octets

-- of a framed request
abbrev pub of_framed : Framed → Answer
of_framed (framed.Outcome outcome octets) = answer.Outcome outcome octets
of_framed (framed.Held msisdn octets) = answer.Held msisdn octets
of_framed (framed.Error error octets) = answer.Error error octets
of_framed (framed.Reject problem octets) = answer.Reject problem octets
