-- Document 02, M-106: stores, notices and replies, one after the other, and what of a round is read from them. Assumes nothing.
use Rattle.std.specs.Prelude.{ℕ, suc, ◌-◌, ◌^◌, Bool, true, false, not, cond, ◌&&◌, ◌||◌, List, [], ◌∷◌, ◌++◌, length, take, eqb}
use Rattle.std.proofs.Math.Option.{Option, none, some}
use Rattle.numbers.specs.Numbers.{digits_of}
use Rattle.strings.specs.declared.Operation.{Operation}
use Rattle.strings.specs.declared.Operation.TheVariants.{Register, Erase, Interrogate}
use Rattle.strings.specs.declared.Erasing.{Erasing}
use Rattle.strings.specs.declared.Erasing.TheVariants.{Empty, Forced}
use Rattle.strings.specs.Text.{Request}
use Rattle.strings.specs.Outcomes.{request_of}
use Rattle.stores.specs.declared.Entry.{Entry}
use Rattle.stores.specs.declared.Radio.{Radio}
use Rattle.stores.specs.Stores.{entries_in, is_to_ask, is_due}
use Rattle.radio.specs.Radio.{Outcome, storing, notice_of, noticing, replying}

-- ---- calls

pub data Call : Type 0 where
  -- functional number
  store : ℕ → Call
  -- string, question buffer
  notice : List ℕ → List ℕ → Call
  -- invoke number, string, question buffer
  reply : ℕ → List ℕ → List ℕ → Call

-- the question buffer that a call is lent; a store is lent none
abbrev pub buffer_of : Call → List ℕ
buffer_of (store number) = []
buffer_of (notice string question) = question
buffer_of (reply invoke string question) = question

abbrev pub calling : Call → Radio → Outcome
calling (store number) radio = record { next = storing radio number; question = [] }
calling (notice string question) radio = noticing radio string question
calling (reply invoke string question) radio = replying radio invoke string question

-- the radio after the calls
abbrev pub end : List Call → Radio → Radio
end [] radio = radio
end (c ∷ cs) radio = end cs (calling c radio).next.radio

-- each call with what it got, in the order of the calls
abbrev pub log : List Call → Radio → List (Call × Outcome)
log [] radio = []
log (c ∷ cs) radio = (c, calling c radio) ∷ log cs (calling c radio).next.radio

-- ---- what a call got

-- not refused
abbrev pub is_accepted : Outcome → Bool
is_accepted o = eqb o.next.doing.refusal 0

abbrev pub is_store : Call → Bool
is_store (store number) = true
is_store (notice string question) = false
is_store (reply invoke string question) = false

abbrev pub is_notice : Call → Bool
is_notice (store number) = false
is_notice (notice string question) = true
is_notice (reply invoke string question) = false

abbrev pub is_reply : Call → Bool
is_reply (store number) = false
is_reply (notice string question) = false
is_reply (reply invoke string question) = true

abbrev pub accepted_notice : Call × Outcome → Bool
accepted_notice g = is_notice g.0 && is_accepted g.1

abbrev pub accepted_reply : Call × Outcome → Bool
accepted_reply g = is_reply g.0 && is_accepted g.1

-- the number of a plain interrogation: not forced, and nothing additional. Any other request asks about none
abbrev pub plain_number : Operation → Erasing → List ℕ → ℕ → List ℕ
plain_number Register e additional number = []
plain_number Erase e additional number = []
plain_number Interrogate (Forced supervisor) additional number = []
plain_number Interrogate Empty [] number = number ∷ []
plain_number Interrogate Empty (a ∷ more) number = []

abbrev pub number_in : Option Request → List ℕ
number_in none = []
number_in (some f) = plain_number f.operation f.erasing f.additional f.number.0

-- the number that a call's question asks about, as whoever gets its octets reads it; none where nothing is asked
abbrev pub asked_in : Outcome → List ℕ
asked_in o = cond (eqb o.next.doing.octets 0) [] (number_in (request_of (take o.next.doing.octets o.question)))

-- ---- what a list of calls got

-- the numbers that were asked, in their order
unfoldable pub questions : List (Call × Outcome) → List ℕ
questions [] = []
questions (g ∷ gs) = asked_in g.1 ++ questions gs

-- "Invoke numbers count up from one question to the next, 255 is followed by 0": so many questions later one comes again
abbrev pub comes_again : ℕ
comes_again = 2 ^ 8

-- no call asked a question
unfoldable pub no_question : List (Call × Outcome) → Bool
no_question [] = true
no_question (g ∷ gs) = eqb g.1.next.doing.octets 0 && no_question gs

-- how many replies were accepted
unfoldable pub replies_in : List (Call × Outcome) → ℕ
replies_in [] = 0
replies_in (g ∷ gs) = cond (accepted_reply g) (suc (replies_in gs)) (replies_in gs)

-- no notice was accepted
unfoldable pub no_notice : List (Call × Outcome) → Bool
no_notice [] = true
no_notice (g ∷ gs) = not (accepted_notice g) && no_notice gs

-- a notice or a reply was accepted: the question that was open before is answered or dropped
unfoldable pub moves_on : List (Call × Outcome) → Bool
moves_on [] = false
moves_on (g ∷ gs) = (not (is_store g.0) && is_accepted g.1) || moves_on gs

-- ---- what is stored

-- the numbers still to be asked, in stored order
unfoldable pub to_ask : List Entry → List ℕ
to_ask [] = []
to_ask (e ∷ es) = cond (is_to_ask e) (e.number ∷ to_ask es) (to_ask es)

-- the numbers that pass a test, in stored order
unfoldable pub numbers_that : (ℕ → Bool) → List Entry → List ℕ
numbers_that test [] = []
numbers_that test (e ∷ es) = cond (test e.number) (e.number ∷ numbers_that test es) (numbers_that test es)

-- "every stored number with the same root …; a hand-held asks about all": the numbers due at a notice, in stored order
abbrev pub due_at : Radio → List ℕ → List ℕ
due_at radio string = numbers_that (is_due radio (notice_of string)) (entries_in radio)

-- what is stored of a number
unfoldable pub entry_for : ℕ → List Entry → Option Entry
entry_for number [] = none
entry_for number (e ∷ es) = cond (eqb e.number number) (some e) (entry_for number es)

-- "the last two digits being the branch": the others, of a number in stored form
abbrev pub root_digits : ℕ → List ℕ
root_digits number = take (length (digits_of number) - 2) (digits_of number)
