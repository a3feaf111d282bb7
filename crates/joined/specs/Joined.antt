-- Document 02, M-106, joined with the node: a round's questions put to the node and its replies given to the radio, and what is promised of that. Assumes nothing.
use Rattle.std.specs.Prelude.{ℕ, suc, ◌≤◌, ◌≡◌, Bool, true, false, not, cond, ◌&&◌, ◌||◌, List, [], ◌∷◌, ◌++◌, map, length, take, eqb}
use Rattle.std.proofs.Math.Option.{Option, none, some}
use Rattle.crews.specs.Crews.{is_in}
use Rattle.strings.specs.Text.{coding_scheme}
use Rattle.strings.specs.Outcomes.{writer_room}
use Rattle.records.specs.declared.Record.{Record}
use Rattle.tables.specs.Tables.{flags_of}
use Rattle.states.specs.States.{State, state_sound, record_for}
use Rattle.rules.specs.Answers.{numbers_of, buffer_room}
use Rattle.rules.specs.Requests.{has_follow_me}
use Rattle.rules.specs.Calls as node
use Rattle.stores.specs.declared.Entry.{Entry}
use Rattle.stores.specs.declared.Radio.{Radio}
use Rattle.stores.specs.declared.Verdict.{Verdict}
use Rattle.stores.specs.declared.Verdict.TheVariants.{Keeps, Drops, Unsure}
use Rattle.stores.specs.Stores.{entries_in, has, is_due, entry_of, answered, new_entry}
use Rattle.radio.specs.Radio.{Outcome, notice_of, noticing}
use Rattle.rounds.specs.Rounds.{Call, store, notice, reply, calling, is_accepted, is_store, to_ask, due_at, entry_for}

-- ---- the node

-- to whom the table gives a number: 0 is nobody; none where the number is not in the table
abbrev pub holder_from : Option Record → Option ℕ
holder_from none = none
holder_from (some r) = some r.holder.0

abbrev pub given_to : State → ℕ → Option ℕ
given_to t number = holder_from (record_for t number)

-- "if own has flag 1"
abbrev pub has_flag1 : List ℕ → ℕ → Bool
has_flag1 list own = has_follow_me (flags_of list own)

-- the octets that an answer counts
abbrev pub octets_in : node.Reply → List ℕ
octets_in r = take (numbers_of r.answer).count r.buffer

-- ---- the exchange

-- the radio, and its last question: the octets that its answer counted in the question buffer, and the invoke number that came with them
pub record Joint : Type 0 where
  pub radio : Radio
  pub question : List ℕ
  pub invoke : ℕ

-- as a notice or a reply leaves them
abbrev pub after : Outcome → Joint
after o = record { radio = o.next.radio; question = take o.next.doing.octets o.question; invoke = o.next.doing.invoke }

pub data Step : Type 0 where
  -- a call of the radio that leaves its question open
  calls : Call → Step
  -- its question is put to the node and the node's reply is given to it: table and figures at that time, reply buffer, question buffer
  asks : State → List ℕ → List ℕ → Step

-- "each question of a round asked by the radio's own MSISDN with scheme 0x0F and a reply buffer": what the node answers and leaves in the reply buffer
abbrev pub node_says : List ℕ → ℕ → Joint → State → List ℕ → node.Reply
node_says list delay j t buffer = (node.call list delay (node.request (record { 0 = j.radio.own }) coding_scheme j.question buffer) t).0

-- "each reply given under its question's invoke number"
abbrev pub reply_given : List ℕ → ℕ → Joint → State → List ℕ → List ℕ → Outcome
reply_given list delay j t buffer question = calling (reply j.invoke (octets_in (node_says list delay j t buffer)) question) j.radio

abbrev pub stepping : List ℕ → ℕ → Step → Joint → Joint
stepping list delay (calls c) j = record { radio = (calling c j.radio).next.radio; question = j.question; invoke = j.invoke }
stepping list delay (asks t buffer question) j = after (reply_given list delay j t buffer question)

abbrev pub running : List ℕ → ℕ → List Step → Joint → Joint
running list delay [] j = j
running list delay (s ∷ ss) j = running list delay ss (stepping list delay s j)

-- how many questions were put to the node
unfoldable pub asks_in : List Step → ℕ
asks_in [] = 0
asks_in (calls c ∷ ss) = asks_in ss
asks_in (asks t buffer question ∷ ss) = suc (asks_in ss)

-- "newly stored ones": the number of an accepted store, where it was not stored already
abbrev pub new_by : Call → Radio → List ℕ
new_by (store number) radio = cond (is_accepted (calling (store number) radio) && not (has number (entries_in radio))) (number ∷ []) []
new_by (notice string question) radio = []
new_by (reply invoke string question) radio = []

abbrev pub new_at : Step → Joint → List ℕ
new_at (calls c) j = new_by c j.radio
new_at (asks t buffer question) j = []

unfoldable pub new_in : List ℕ → ℕ → List Step → Joint → List ℕ
new_in list delay [] j = []
new_in list delay (s ∷ ss) j = new_at s j ++ new_in list delay ss (stepping list delay s j)

-- ---- what is asked of it

-- "over a sound table … with right figures", "a reply buffer of at least 80 octets", a question buffer of 160, and "nothing of these numbers changing in the table":
-- to whom it gives them. Their notices may go on
pub record WellAsked (start : State) (due : List ℕ) (t : State) (buffer question : List ℕ) : Type 0 where
  pub sound : state_sound t ≡ true
  pub reply_room : buffer_room ≤ length buffer
  pub question_room : writer_room ≤ length question
  pub unchanged : (number : ℕ) → is_in number due ≡ true → given_to t number ≡ given_to start number

-- "no notice accepted meanwhile", and no reply but the node's: what else is called is a store, or is refused
abbrev pub UndisturbedAt : State → List ℕ → Step → Joint → Type 0
UndisturbedAt start due (calls c) j = (is_store c || not (is_accepted (calling c j.radio))) ≡ true
UndisturbedAt start due (asks t buffer question) j = WellAsked start due t buffer question

abbrev pub Undisturbed : List ℕ → ℕ → State → List ℕ → List Step → Joint → Type 0
Undisturbed list delay start due [] j = Unit {0}
Undisturbed list delay start due (s ∷ ss) j = UndisturbedAt start due s j × Undisturbed list delay start due ss (stepping list delay s j)

-- ---- what is promised

-- "those that the table gives to own, unmarked, and those that are not in the table (41), marked"; any other is dropped
abbrev pub by_table : ℕ → Option ℕ → Verdict
by_table own none = Unsure
by_table own (some holder) = cond (eqb holder own) Keeps Drops

-- "if she has not, all remain, marked (42)"
abbrev pub verdict_by : List ℕ → State → ℕ → ℕ → Verdict
verdict_by list t own number = cond (has_flag1 list own) (by_table own (given_to t number)) Unsure

-- what became of the stored numbers, in their order: of a due one by its verdict, and "Other numbers are untouched"; none is to be asked
unfoldable pub became : (ℕ → Bool) → (ℕ → Verdict) → List Entry → List Entry
became due verdict [] = []
became due verdict (e ∷ es) =
    cond (due e.number) (answered (verdict e.number) e) (entry_of e.number e.unsure 0 ∷ []) ++ became due verdict es

-- of a round that a notice began: what is stored at its end, where `new` are the numbers newly stored in it
pub record Joined (list : List ℕ) (t : State) (radio : Radio) (string new : List ℕ) (stored : List Entry) : Type 0 where
  pub ended : to_ask stored ≡ []
  pub exactly : stored ≡ became (is_due radio (notice_of string)) (verdict_by list t radio.own) (entries_in radio) ++ map new_entry new

-- the same, number by number
pub record NumberByNumber (list : List ℕ) (t : State) (radio : Radio) (string new : List ℕ) (stored : List Entry) : Type 0 where
  -- "of the numbers due at the notice, if own has flag 1, there remain exactly those that the table gives to own, unmarked,"
  pub hers : (number : ℕ) → is_in number (due_at radio string) ≡ true → has_flag1 list radio.own ≡ true → given_to t number ≡ some radio.own
      → entry_for number stored ≡ some (entry_of number 0 0)
  -- "and those that are not in the table (41), marked;"
  pub missing : (number : ℕ) → is_in number (due_at radio string) ≡ true → has_flag1 list radio.own ≡ true → given_to t number ≡ none
      → entry_for number stored ≡ some (entry_of number 1 0)
  -- and no other, unless it was newly stored in the round
  pub dropped : (number holder : ℕ) → is_in number (due_at radio string) ≡ true → has_flag1 list radio.own ≡ true → given_to t number ≡ some holder
      → (holder ≡ radio.own → ⊥) → is_in number new ≡ false → entry_for number stored ≡ none
  -- "if she has not, all remain, marked (42)."
  pub without_flag : (number : ℕ) → is_in number (due_at radio string) ≡ true → has_flag1 list radio.own ≡ false → entry_for number stored ≡ some (entry_of number 1 0)
  -- "Other numbers are untouched,"
  pub others : (number : ℕ) (e : Entry) → entry_for number (entries_in radio) ≡ some e → is_due radio (notice_of string) number ≡ false
      → entry_for number stored ≡ some (entry_of number e.unsure 0)
  -- "newly stored ones included."
  pub new_ones : (number : ℕ) → is_in number new ≡ true → entry_for number stored ≡ some (entry_of number 0 0)
  -- and nothing else is stored
  pub no_more : (number : ℕ) → has number (entries_in radio) ≡ false → is_in number new ≡ false → entry_for number stored ≡ none

-- ---- a notice

-- the radio takes a string for a notice: it is not refused, the empty response is to be returned, and the round is about this number
pub record Heard (radio : Radio) (string question : List ℕ) (number : ℕ) : Type 0 where
  pub accepted : is_accepted (noticing radio string question) ≡ true
  pub responds : (noticing radio string question).next.doing.respond ≡ 1
  pub about : notice_of string ≡ number
