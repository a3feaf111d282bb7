-- Document 01, "The program": what the program prints behind a line's letter. Assumes nothing.
use Rattle.std.specs.Prelude.{◌≡◌, ℕ, ◌≤◌, true, List, [], ◌++◌, length, take}
use Rattle.answers.specs.Ascii.{ascii}
use Rattle.packing.specs.Packing.{readable, unpacked}
use Rattle.numbers.specs.Numbers.{is_number, digits_of, numeral}
use Rattle.rules.specs.Answers.{Answer, most_reply_octets, refusal, error, outcome, holder_is, return_error, reject, sent_to, delivered, dropped, again, found, none_due, ask_network, routed_to}

-- the characters that the first octets of a buffer are
abbrev pub text_in : ℕ → List ℕ → List ℕ
text_in count buffer = unpacked (take count buffer)

-- what follows the letter: "the reply text"; "addressee, notice"; "`D delivered`, `D dropped` or `D again`"; "Otherwise `error n` or `refused n`"
abbrev pub behind_letter : Answer → List ℕ → List ℕ
behind_letter (refusal n) buffer = ascii "refused " ++ numeral n
behind_letter (error n) buffer = ascii "error " ++ numeral n
behind_letter (outcome n count) buffer = text_in count buffer
behind_letter (holder_is msisdn count) buffer = text_in count buffer
behind_letter (return_error n count) buffer = []
behind_letter (reject n count) buffer = []
behind_letter (sent_to addressee count) buffer = digits_of addressee ++ (ascii " " ++ text_in count buffer)
behind_letter delivered buffer = ascii "delivered"
behind_letter dropped buffer = ascii "dropped"
behind_letter again buffer = ascii "again"
behind_letter (found n) buffer = []
behind_letter none_due buffer = []
behind_letter (ask_network code) buffer = []
behind_letter (routed_to msisdn subaddress) buffer = []

-- an addressee's 15 digits, the space and the 42 characters of the longest notice
abbrev pub answer_room : ℕ
answer_room = 58

-- the first octets of a buffer, at most so many, are packed characters
pub record Text (most count : ℕ) (buffer : List ℕ) : Type 0 where
  pub within : count ≤ length buffer
  pub short : count ≤ most
  pub reads : readable (take count buffer) ≡ true

-- `##214*`, 15 digits, `*88*`, 15 digits and `*#`: 42 characters
abbrev pub most_notice_octets : ℕ
most_notice_octets = 37

-- an answer that can be printed: its octets are a text, and its addressee is a number
abbrev pub Printable : Answer → List ℕ → Type 0
Printable (refusal n) buffer = Unit {0}
Printable (error n) buffer = Unit {0}
Printable (outcome n count) buffer = Text most_reply_octets count buffer
Printable (holder_is msisdn count) buffer = Text most_reply_octets count buffer
Printable (return_error n count) buffer = Unit {0}
Printable (reject n count) buffer = Unit {0}
Printable (sent_to addressee count) buffer = (is_number addressee ≡ true) × Text most_notice_octets count buffer
Printable delivered buffer = Unit {0}
Printable dropped buffer = Unit {0}
Printable again buffer = Unit {0}
Printable (found n) buffer = Unit {0}
Printable none_due buffer = Unit {0}
Printable (ask_network code) buffer = Unit {0}
Printable (routed_to msisdn subaddress) buffer = Unit {0}
