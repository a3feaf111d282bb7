-- Answers in document 01's words and numbers, the texts that they write, and what a call comes to: the answer, table and figures afterwards, and the buffer afterwards. Assumes nothing.
use Rattle.std.specs.Prelude.{ℕ, Bool, not, ◌&&◌, ◌||◌, List, ◌∷◌, ◌++◌, map, length, eqb}
use Rattle.answers.specs.Writing.{over}
use Rattle.packing.specs.Packing.{packed}
use Rattle.numbers.specs.Numbers.{digits_of, two_digits}
use Rattle.states.specs.States.{State}

-- "Refusals, errors and outcomes are numbered apart"
pub data Answer : Type 0 where
  -- refusals 1 to 11
  refusal : ℕ → Answer
  -- errors 35, 36 and 71
  error : ℕ → Answer
  -- an outcome by its number, with the octet count of its reply, or of the frame around that
  outcome : ℕ → ℕ → Answer
  -- outcome 03: the holder's MSISDN, with the octet count
  holder_is : ℕ → ℕ → Answer
  -- a Return Error with its code, a Reject with its problem: in a frame, with the frame's octet count
  return_error : ℕ → ℕ → Answer
  reject : ℕ → ℕ → Answer
  -- a notice sent: its addressee, with the octet count
  sent_to : ℕ → ℕ → Answer
  -- what a result returns
  delivered dropped again : Answer
  -- what finding returns: the lowest due number, or none
  found : ℕ → Answer
  none_due : Answer
  -- M-112: "ask that network", with the code's three characters; the MSISDN that a text message goes to, with the subaddress octets
  ask_network : List ℕ → Answer
  routed_to : ℕ → List ℕ → Answer

-- ---- the paper's class, number and values of every answer

-- the classes; the answers that have no number in the paper have a class of their own
abbrev pub refusal_class : ℕ
refusal_class = 1

abbrev pub error_class : ℕ
error_class = 2

abbrev pub outcome_class : ℕ
outcome_class = 3

abbrev pub sent_class : ℕ
sent_class = 4

abbrev pub result_class : ℕ
result_class = 5

abbrev pub found_class : ℕ
found_class = 6

abbrev pub none_due_class : ℕ
none_due_class = 7

abbrev pub ask_network_class : ℕ
ask_network_class = 14

abbrev pub routed_class : ℕ
routed_class = 15

abbrev pub return_error_class : ℕ
return_error_class = 9

abbrev pub reject_class : ℕ
reject_class = 10

-- what a result returns
abbrev pub delivered_number : ℕ
delivered_number = 0

abbrev pub dropped_number : ℕ
dropped_number = 1

abbrev pub again_number : ℕ
again_number = 2

-- "Interrogation answers 03"
abbrev pub interrogation_number : ℕ
interrogation_number = 3

-- "The reply is 11 or 12": of a crew's registration, of its erasure
abbrev pub crew_registered : ℕ
crew_registered = 11

abbrev pub crew_erased : ℕ
crew_erased = 12

-- the octet count, and the MSISDN of the holder or the addressee or the number found; 0 where an answer has none
pub record Numbers : Type 0 where
  pub class : ℕ
  pub number : ℕ
  pub count : ℕ
  pub value : ℕ

abbrev pub four : ℕ → ℕ → ℕ → ℕ → Numbers
four class number count value = record { class = class; number = number; count = count; value = value }

abbrev pub numbers_of : Answer → Numbers
numbers_of (refusal n) = four refusal_class n 0 0
numbers_of (error n) = four error_class n 0 0
numbers_of (outcome n octets) = four outcome_class n octets 0
numbers_of (holder_is msisdn octets) = four outcome_class interrogation_number octets msisdn
numbers_of (return_error n octets) = four return_error_class n octets 0
numbers_of (reject n octets) = four reject_class n octets 0
numbers_of (sent_to addressee octets) = four sent_class 0 octets addressee
numbers_of delivered = four result_class delivered_number 0 0
numbers_of dropped = four result_class dropped_number 0 0
numbers_of again = four result_class again_number 0 0
numbers_of (found number) = four found_class 0 0 number
numbers_of none_due = four none_due_class 0 0 0
-- code, MSISDN and subaddress go with the class as they stand
numbers_of (ask_network code) = four ask_network_class 0 0 0
numbers_of (routed_to msisdn subaddress) = four routed_class 0 0 0

-- the answer is of a class
abbrev pub is_of : ℕ → Answer → Bool
is_of class a = eqb (numbers_of a).class class

abbrev pub is_refusal : Answer → Bool
is_refusal a = is_of refusal_class a

abbrev pub is_error : Answer → Bool
is_error a = is_of error_class a

-- "Return Error and Reject fill the frame buffer"
abbrev pub is_return_error : Answer → Bool
is_return_error a = is_of return_error_class a

abbrev pub is_reject : Answer → Bool
is_reject a = is_of reject_class a

-- it is refusal n
abbrev pub is_refused_with : ℕ → Answer → Bool
is_refused_with n a = is_of refusal_class a && eqb (numbers_of a).number n

-- it is outcome n; outcomes 01 and 02 are not refusals 1 and 2
abbrev pub is_outcome : ℕ → Answer → Bool
is_outcome n a = is_of outcome_class a && eqb (numbers_of a).number n

-- it is what a result returns, by its number
abbrev pub is_result : ℕ → Answer → Bool
is_result n a = is_of result_class a && eqb (numbers_of a).number n

-- a negative outcome: none of 01, 02 and 03, and none of a crew's, 11 and 12
abbrev pub is_negative_number : ℕ → Bool
is_negative_number n = not (eqb n 1 || eqb n 2 || eqb n interrogation_number || eqb n crew_registered || eqb n crew_erased)

abbrev pub is_negative : Answer → Bool
is_negative a = is_of outcome_class a && is_negative_number (numbers_of a).number

-- the addressee and the octet count: the sending succeeded
abbrev pub is_sent : Answer → Bool
is_sent a = is_of sent_class a

-- delivered or dropped: the result cleared the notice
abbrev pub is_clearing : Answer → Bool
is_clearing a = is_of result_class a && not (eqb (numbers_of a).number again_number)

-- ---- what a call comes to

pub record Outcome : Type 0 where
  pub answer : Answer
  pub state : State
  pub buffer : List ℕ

abbrev pub made : Answer → State → List ℕ → Outcome
made a s b = record { answer = a; state = s; buffer = b }

-- the reply and notice buffers: "under 80 octets" is refusal 1
abbrev pub buffer_room : ℕ
buffer_room = 80

-- the longest reply, `11 10 `, ten codes and ` 0`, has 28 characters
abbrev pub most_reply_octets : ℕ
most_reply_octets = 25

-- "Interrogation answers 03, and the MSISDN is written into the reply text after the code and the space"
abbrev pub holder_text : ℕ → List ℕ
holder_text msisdn = two_digits interrogation_number ++ (32 ∷ digits_of msisdn)

-- "Outcomes are packed from the start of the reply buffer and returned with their octet count; octets beyond stay"
abbrev pub packed_over : List ℕ → List ℕ → List ℕ
packed_over text buffer = over (packed text) buffer

abbrev pub octet_count : List ℕ → ℕ
octet_count text = length (packed text)

-- "Errors and refusals return only their number and touch no memory": what a check with such an answer comes to
abbrev pub unchanged : State → List ℕ → Bool × Answer → Bool × Outcome
unchanged state buffer check = (check.0, made check.1 state buffer)

abbrev pub refusing : State → List ℕ → List (Bool × Answer) → List (Bool × Outcome)
refusing state buffer checks = map (unchanged state buffer) checks
