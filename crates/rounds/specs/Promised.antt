-- Document 02, M-106: what is promised of a call, and of a list of them. Assumes nothing.
use Rattle.std.specs.Prelude.{ℕ, suc, ◌≤◌, ◌≡◌, true, false, List, [], ◌∷◌, ◌++◌, length, take, drop}
use Rattle.std.proofs.Math.Option.{some}
use Rattle.numbers.specs.Numbers.{is_number}
use Rattle.crews.specs.Crews.{is_in, distinct}
use Rattle.strings.specs.Outcomes.{request_of}
use Rattle.stores.specs.declared.Radio.{Radio}
use Rattle.stores.specs.declared.Verdict.TheVariants.{Drops}
use Rattle.stores.specs.Stores.{most_stored, entries_in, open_of, entry_of}
use Rattle.radio.specs.Radio.{Outcome, next_invoke, verdict_of, interrogation}
use Rattle.rounds.specs.Rounds.{Call, reply, calling, end, log, is_accepted, is_store, questions, no_question, replies_in, to_ask, entry_for}

-- ---- one call

-- the question buffer, of which the first `octets` are the question's: "what lies beyond stays"
pub record Buffered (buffer : List ℕ) (o : Outcome) : Type 0 where
  pub beyond : drop o.next.doing.octets o.question ≡ drop o.next.doing.octets buffer
  pub long : length o.question ≡ length buffer
  pub untouched : o.next.doing.octets ≡ 0 → o.question ≡ buffer

-- a question was asked: its octets read as the plain interrogation of the number that is open now, under the next invoke number
pub record Asked (radio : Radio) (o : Outcome) : Type 0 where
  pub accepted : is_accepted o ≡ true
  pub number : is_number (open_of (entries_in o.next.radio)) ≡ true
  pub reads : request_of (take o.next.doing.octets o.question) ≡ some (interrogation (open_of (entries_in o.next.radio)))
  pub under : o.next.doing.invoke ≡ o.next.radio.invoke
  pub counted : o.next.radio.invoke ≡ next_invoke radio.invoke

-- none was asked: the last question's invoke number stays, and behind an accepted notice or reply nothing is left to ask
pub record Silent (c : Call) (radio : Radio) (o : Outcome) : Type 0 where
  pub invoke : o.next.radio.invoke ≡ radio.invoke
  pub none : is_store c ≡ false → is_accepted o ≡ true → to_ask (entries_in o.next.radio) ≡ []

-- ---- a round

-- over calls that begin with an accepted notice, no other being accepted: each number due at the notice is asked once, in stored order, one at a time.
-- One is asked at the notice and one after each accepted reply, as long as there are any; with the last reply the round ends
pub record Round (radio : Radio) (due : List ℕ) (calls : List Call) : Type 0 where
  pub asked : questions (log calls radio) ≡ take (suc (replies_in (log calls radio))) due
  pub left : to_ask (entries_in (end calls radio)) ≡ drop (replies_in (log calls radio)) due
  pub few : replies_in (log calls radio) ≤ length due
  pub most : length due ≤ most_stored
  pub once : distinct due ≡ true

-- ---- the open question

-- in a list of calls a question was asked, and none after it: its octets read as the plain interrogation of this number, and came with this invoke number
pub record WasAsked (calls : List Call) (radio : Radio) (number invoke : ℕ) : Type 0 where
  pub before : List Call
  pub asking : Call
  pub after : List Call
  pub place : calls ≡ before ++ asking ∷ after
  pub asks : (calling asking (end before radio)).next.doing.octets ≡ 0 → ⊥
  pub reads : request_of (take (calling asking (end before radio)).next.doing.octets (calling asking (end before radio)).question) ≡ some (interrogation number)
  pub under : (calling asking (end before radio)).next.doing.invoke ≡ invoke
  pub last : no_question (log after (calling asking (end before radio)).next.radio) ≡ true

-- ---- a dropped number

-- a call has dropped a number: it is an accepted reply, to that number's own question and under its invoke number, and says so
pub record DroppedBy (c : Call) (radio : Radio) (number : ℕ) : Type 0 where
  pub invoke : ℕ
  pub string : List ℕ
  pub question : List ℕ
  pub answer : c ≡ reply invoke string question
  pub accepted : is_accepted (calling c radio) ≡ true
  pub own : open_of (entries_in radio) ≡ number
  pub under : invoke ≡ radio.invoke
  pub verdict : verdict_of radio.own string ≡ Drops

-- one of the calls has dropped a number
pub record DroppedIn (calls : List Call) (radio : Radio) (number : ℕ) : Type 0 where
  pub before : List Call
  pub dropping : Call
  pub after : List Call
  pub place : calls ≡ before ++ dropping ∷ after
  pub dropped : DroppedBy dropping (end before radio) number

-- one of the calls has dropped a number that had been asked: the last question before that reply has octets that read as the plain interrogation of the number, and the reply came under that question's invoke number
pub record AskedAndDropped (calls : List Call) (radio : Radio) (number : ℕ) : Type 0 where
  pub dropped : DroppedIn calls radio number
  pub asked : WasAsked dropped.before radio number dropped.dropped.invoke

-- ---- a new number

-- over calls, a number is stored, not marked and not to be asked; and it was not asked
pub record Waits (calls : List Call) (radio : Radio) (number : ℕ) : Type 0 where
  pub stored : entry_for number (entries_in (end calls radio)) ≡ some (entry_of number 0 0)
  pub unasked : is_in number (questions (log calls radio)) ≡ false
