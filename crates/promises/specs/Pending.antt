-- A number's notice along a list of calls: which entries of the log are its sendings and its results, and which of them end it. Assumes nothing.
use Rattle.std.specs.Prelude.{ℕ, Bool, true, false, not, ◌&&◌, eqb}
use Rattle.records.specs.declared.Notice.{Notice}
use Rattle.states.specs.States.{State, record_for}
use Rattle.rules.specs.Answers.{is_refusal, is_sent, is_clearing}
use Rattle.rules.specs.Notices.{notice_in}
use Rattle.rules.specs.Calls.{Call, request, framed, sending, result, terminal, routes, Reply}

-- the notice that the table keeps for the number k: none, as at phase 0, where k is not in it
abbrev pub notice_for : State → ℕ → Notice
notice_for state k = notice_in (record_for state k)

-- ---- entries of a log: a call, and what it got

-- a sending of the number k
abbrev pub is_sending_of : ℕ → Call → Bool
is_sending_of k (request requester scheme string reply) = false
is_sending_of k (framed requester message frame) = false
is_sending_of k (sending now number buffer) = eqb number.0 k
is_sending_of k (result now number kind) = false
is_sending_of k (terminal number holder reply) = false
is_sending_of k (routes home coded asked) = false

-- a result that names the number k
abbrev pub is_result_of : ℕ → Call → Bool
is_result_of k (request requester scheme string reply) = false
is_result_of k (framed requester message frame) = false
is_result_of k (sending now number buffer) = false
is_result_of k (result now number kind) = eqb number.0 k
is_result_of k (terminal number holder reply) = false
is_result_of k (routes home coded asked) = false

-- a sending of k that succeeded
abbrev pub sending_done : ℕ → Call × Reply → Bool
sending_done k entry = is_sending_of k entry.0 && is_sent entry.1.answer

-- a result naming k that was not refused
abbrev pub result_taken : ℕ → Call × Reply → Bool
result_taken k entry = is_result_of k entry.0 && not (is_refusal entry.1.answer)

-- the result that clears k's notice: a result naming k, answered delivered or dropped
abbrev pub notice_cleared : ℕ → Call × Reply → Bool
notice_cleared k entry = is_result_of k entry.0 && is_clearing entry.1.answer
