-- The paper's class, number and values for each case of the answers of the node's calls. Assumes nothing.
use Rattle.std.specs.Prelude.{Result, Ok, Err, Option, Some, None}
use Rattle.answers.specs.Numbers.{refusal_number, outcome_number, error_number}
use Rattle.answers.specs.declared.Refusal.{Refusal}
use Rattle.answers.specs.declared.Failure.{Failure}
use Rattle.answers.specs.declared.Failure.TheVariants as failure
use Rattle.numbers.specs.declared.FunctionalNumber.{FunctionalNumber}
use Rattle.records.specs.declared.Fate.{Fate}
use Rattle.records.specs.declared.Fate.TheVariants as fate
use Rattle.rules.specs.Answers.{Answer, refusal, error, outcome, holder_is, sent_to, delivered, dropped, again, found, none_due}
use Rattle.visits.specs.declared.Reply.{Reply}
use Rattle.visits.specs.declared.Reply.TheVariants as reply
use Rattle.visits.specs.declared.Sent.{Sent}

-- what a reply says
abbrev pub said_reply : Reply → Answer
said_reply (reply.Outcome o octets) = outcome (outcome_number o) octets
said_reply (reply.Held msisdn octets) = holder_is msisdn.0 octets

-- why there is no reply
abbrev pub said_failure : Failure → Answer
said_failure (failure.Refused r) = refusal (refusal_number r)
said_failure (failure.Error e) = error (error_number e)

abbrev pub said_request : Result Reply Failure → Answer
said_request (Ok r) = said_reply r
said_request (Err f) = said_failure f

abbrev pub said_sending : Result Sent Refusal → Answer
said_sending (Ok sent) = sent_to sent.addressee.0 sent.octets
said_sending (Err r) = refusal (refusal_number r)

-- what became of a notice
abbrev pub said_fate : Fate → Answer
said_fate fate.Delivered = delivered
said_fate fate.Dropped = dropped
said_fate fate.Again = again

abbrev pub said_result : Result Fate Refusal → Answer
said_result (Ok f) = said_fate f
said_result (Err r) = refusal (refusal_number r)

-- the lowest due number, or that none is due
abbrev pub said_due : Option FunctionalNumber → Answer
said_due (Some number) = found number.0
said_due None = none_due

abbrev pub said_finding : Result (Option FunctionalNumber) Refusal → Answer
said_finding (Ok due) = said_due due
said_finding (Err r) = refusal (refusal_number r)
