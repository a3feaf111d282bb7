-- Document 02, M-106, in the words of docs/RULES.md, "The cab radio", where the request has none: the radio's three calls. What each answers, what it leaves in the lent state and what in the question buffer, for every input. Assumes nothing.
use Rattle.std.specs.Prelude as core
use Rattle.std.specs.Prelude.{ℕ, ◌+◌, ◌%◌, ◌^◌, Bool, cond, not, ◌&&◌, List, [], ◌∷◌, ◌++◌, length, ◌==◌, nat_lt, Some, None}
use Rattle.std.proofs.Math.Option.{Option, none, some}
use Rattle.answers.specs.Ascii.{ascii}
use Rattle.answers.specs.Begins.{begins, behind}
use Rattle.answers.specs.Checks.{decide, ◌>>=◌, only_if}
use Rattle.answers.specs.Writing.{over}
use Rattle.packing.specs.Packing.{packed, readable, unpacked}
use Rattle.numbers.specs.Numbers.{is_number, leading_number}
use Rattle.strings.specs.declared.Operation.TheVariants.{Interrogate}
use Rattle.strings.specs.declared.Erasing.TheVariants.{Empty}
use Rattle.strings.specs.Text.{Request, request_from, text_of}
use Rattle.strings.specs.Outcomes.{writer_room}
use Rattle.strings.specs.Notices.{NoticeString, notice_string_of}
use Rattle.stores.specs.declared.Entry.{Entry}
use Rattle.stores.specs.declared.Radio.{Radio}
use Rattle.stores.specs.declared.Verdict.{Verdict}
use Rattle.stores.specs.declared.Verdict.TheVariants.{Keeps, Drops, Unsure}
use Rattle.stores.specs.Stores.{most_stored, entries_in, has, open_of, radio_sound, holding, with_new, is_due, begun, settled}
use Rattle.radio.specs.declared.Doing.{Doing}
use Rattle.radio.specs.declared.Next.{Next}

-- ---- what is to be done next

-- a call's answer and the lent state, and the question buffer
pub record Outcome : Type 0 where
  pub next : Next
  pub question : List ℕ

abbrev pub doing : ℕ → ℕ → ℕ → ℕ → Doing
doing refusal respond invoke octets = record { refusal = refusal; respond = respond; invoke = invoke; octets = octets }

abbrev pub next_of : Radio → Doing → Next
next_of radio d = record { radio = radio; doing = d }

-- "Refusals, changing nothing"
abbrev pub refused : ℕ → Radio → Next
refused n radio = next_of radio (doing n 0 0 0)

abbrev pub refusing : ℕ → Radio → List ℕ → Outcome
refusing n radio question = record { next = refused n radio; question = question }

-- "Invoke numbers count up from one question to the next, 255 is followed by 0"
abbrev pub next_invoke : ℕ → ℕ
next_invoke invoke = (invoke + 1) % 2 ^ 8

-- the question about a number: "an interrogation made by the request writer"
abbrev pub interrogation : ℕ → Request
interrogation number = request_from Interrogate (record { 0 = number }) Empty []

unfoldable pub question_of : ℕ → List ℕ
question_of number = packed (text_of (interrogation number))

-- "Questions go in stored order, one at a time": the first number still to be asked, or none. `respond` is 1 where the empty response is to be returned
abbrev pub asks_next : ℕ → Radio → List Entry → List ℕ → Outcome
asks_next respond radio es question =
    cond (open_of es == 0)
    (record { next = next_of (holding radio radio.invoke es) (doing 0 respond 0 0); question = question })
    (record {
      next = next_of (holding radio (next_invoke radio.invoke) es) (doing 0 respond (next_invoke radio.invoke) (length (question_of (open_of es))));
      question = over (question_of (open_of es)) question;
    })

-- "first 24 for a state that breaks these rules, then 1 for a question buffer under 160 octets"
abbrev pub first_checks : Radio → List ℕ → List (Bool × Outcome)
first_checks radio question = (not (radio_sound radio), refusing 24 radio question) ∷ (nat_lt (length question) writer_room, refusing 1 radio question) ∷ []

-- ---- storing

-- "storing one twice changes nothing"
unfoldable pub storing : Radio → ℕ → Next
storing radio number =
    decide
    ((not (radio_sound radio), refused 24 radio)
    ∷ (not (is_number number), refused 23 radio)
    ∷ (has number (entries_in radio), next_of radio (doing 0 0 0 0))
    ∷ ((radio.count == most_stored), refused 20 radio)
    ∷ [])
    (next_of (holding radio radio.invoke (with_new number (entries_in radio))) (doing 0 0 0 0))

-- ---- a notice

-- "it checks operation and service code": the number that a notice's string names, 0 where it is none
abbrev pub noticed_number : Option NoticeString → ℕ
noticed_number none = 0
noticed_number (some n) = n.number.0

abbrev pub notice_of : List ℕ → ℕ
notice_of string = noticed_number (notice_string_of string)

-- "A notice during a round drops the open question and starts its own round"
unfoldable pub noticing : Radio → List ℕ → List ℕ → Outcome
noticing radio string question =
    decide (first_checks radio question ++ (((notice_of string == 0), refusing 21 radio question) ∷ []))
    (asks_next 1 radio (begun (is_due radio (notice_of string)) (entries_in radio)) question)

-- ---- a reply

-- a number, and nothing behind it
abbrev pub whole_number : List ℕ → core.Option (ℕ × ℕ) → Option ℕ
whole_number digits None = none
whole_number digits (Some read) = only_if (length digits == read.1) read.0

-- `03`, a space and an MSISDN's digits: the holder in a reply
abbrev pub holder_read : List ℕ → Option ℕ
holder_read text = behind (ascii "03 ") text >>= λ digits. whole_number digits (leading_number digits)

-- "exactly `62`"
abbrev pub is62 : List ℕ → Bool
is62 text = begins (ascii "62") text && length text == 2

-- "03 with its own MSISDN keeps the number and unmarks it, 03 with another … drops it, anything else keeps it and marks it unsure"
abbrev pub by_holder : ℕ → Option ℕ → Verdict
by_holder own none = Unsure
by_holder own (some msisdn) = cond (msisdn == own) Keeps Drops

-- "or 62 drops it"
unfoldable pub verdict_on : ℕ → List ℕ → Verdict
verdict_on own text = cond (is62 text) Drops (by_holder own (holder_read text))

-- "unreadable octets and none at all among it"
unfoldable pub verdict_of : ℕ → List ℕ → Verdict
verdict_of own string = cond (readable string) (verdict_on own (unpacked string)) Unsure

-- the reply is the open question's; if not, it is "a reply without a question open"
abbrev pub is_open : Radio → ℕ → Bool
is_open radio invoke = not (open_of (entries_in radio) == 0) && invoke == radio.invoke

-- "Each answer updates what is stored"
unfoldable pub replying : Radio → ℕ → List ℕ → List ℕ → Outcome
replying radio invoke string question =
    decide (first_checks radio question ++ ((not (is_open radio invoke), refusing 22 radio question) ∷ []))
    (asks_next 0 radio (settled (verdict_of radio.own string) (entries_in radio)) question)
