-- Document 02, M-109, "Moving a node to new hardware": "Write table and list as one image and read it back". What an image is, what it holds, and what writing and reading one answer and leave, for every input. Assumes nothing.
use Rattle.std.specs.Prelude.{ℕ, zero, suc, ◌+◌, ◌-◌, ◌*◌, Bool, not, ◌||◌, List, [], ◌∷◌, ◌++◌, map, length, take, drop, eqb, ltb, Result, Ok, Err}
use Rattle.answers.specs.Checks.{decide}
use Rattle.answers.specs.Numbers.{refusal_number}
use Rattle.answers.specs.Writing.{WriteOutcome, refused, over, wrote}
use Rattle.answers.specs.declared.Refusal.{Refusal}
use Rattle.packing.specs.Packing.{value_of, digits}
use Rattle.rows.specs.Rows.{row_words}
use Rattle.tables.specs.Tables.{most_numbers, rows_in, table_sound, subscriber_words, most_subscribers, subscribers_in, list_sound}
use Rattle.tables.specs.Figures.{figure_count, recount}
use Rattle.states.specs.States.{State, figures_right}
use Rattle.image.specs.declared.ImageRows.{ImageRows}

-- ---- the image

-- a word has 64 bits
abbrev pub word_octets : ℕ
word_octets = 8

-- "words low byte first"
unfoldable pub octets_of : List ℕ → List ℕ
octets_of [] = []
octets_of (w ∷ ws) = digits 256 word_octets w ++ octets_of ws

-- "A 24-byte trailer ends it"
abbrev pub trailer_words : ℕ
trailer_words = 3

abbrev pub trailer_octets : ℕ
trailer_octets = word_octets * trailer_words

-- "the number of table rows, of list rows, and the distance in bytes from the trailer's start back to the first row"
unfoldable pub trailer_of : List ℕ → List ℕ → List ℕ
trailer_of table list = rows_in table ∷ subscribers_in list ∷ word_octets * (length table + length list) ∷ []

-- "Rows come first, table then list"
unfoldable pub image_of : List ℕ → List ℕ → List ℕ
image_of table list = octets_of (table ++ list ++ trailer_of table list)

-- ---- what an image holds

-- the word whose octets begin at `start`
unfoldable pub word_at : List ℕ → ℕ → ℕ
word_at octets start = value_of 256 (take word_octets (drop start octets))

-- so many words, from `start` on
unfoldable pub words_from : List ℕ → ℕ → ℕ → List ℕ
words_from octets start zero = []
words_from octets start (suc n) = word_at octets start ∷ words_from octets (start + word_octets) n

-- "The reader starts at the end"
abbrev pub trailer_start : List ℕ → ℕ
trailer_start image = length image - trailer_octets

unfoldable pub table_rows : List ℕ → ℕ
table_rows image = word_at image (trailer_start image)

unfoldable pub list_rows : List ℕ → ℕ
list_rows image = word_at image (trailer_start image + word_octets)

unfoldable pub distance : List ℕ → ℕ
distance image = word_at image (trailer_start image + word_octets + word_octets)

-- the words of so many rows
abbrev pub table_words : List ℕ → ℕ
table_words image = row_words * table_rows image

abbrev pub list_words : List ℕ → ℕ
list_words image = subscriber_words * list_rows image

unfoldable pub table_in : List ℕ → List ℕ
table_in image = words_from image 0 (table_words image)

unfoldable pub list_in : List ℕ → List ℕ
list_in image = words_from image (word_octets * table_words image) (list_words image)

-- ---- writing

-- "Writing: 8, 2, 10, 33"
abbrev pub writing_checks : State → List ℕ → List ℕ → List (Bool × ℕ)
writing_checks s list out =
    (not (list_sound list), 8)
    ∷ (not (table_sound s.table), 2)
    ∷ (not (figures_right s), 10)
    ∷ (ltb (length out) (length (image_of s.table list)), 33)
    ∷ []

-- "These write nothing"
abbrev pub unwritten : List ℕ → Bool × ℕ → Bool × WriteOutcome
unwritten out check = (check.0, refused check.1 out)

-- "a success returns its size and leaves the rest"
unfoldable pub writing_image : State → List ℕ → List ℕ → WriteOutcome
writing_image s list out = decide (map (unwritten out) (writing_checks s list out)) (wrote (image_of s.table list) out)

-- ---- reading

-- in the paper's words: the counts of rows, or a refusal by its number
pub data SaidRead : Type 0 where
  counts : ℕ → ℕ → SaidRead
  refusal : ℕ → SaidRead

-- what was said, and the lent words afterwards
pub record RestoreOutcome (S : Type 0) : Type 0 where
  pub answer : S
  pub table : List ℕ
  pub list : List ℕ
  pub figures : List ℕ

abbrev pub leaving : {S : Type 0} → S → List ℕ → List ℕ → List ℕ → RestoreOutcome S
leaving answer table list figures = record { answer = answer; table = table; list = list; figures = figures }

-- "Refusals, reading: 30 image under 24 bytes, 31 distance not the image's length less 24, 32 a count over its limit, 34 rows don't fill the distance"
abbrev pub trailer_checks : List ℕ → List (Bool × ℕ)
trailer_checks image =
    (ltb (length image) trailer_octets, 30)
    ∷ (not (eqb (distance image) (length image - trailer_octets)), 31)
    ∷ (ltb most_numbers (table_rows image) || ltb most_subscribers (list_rows image), 32)
    ∷ (not (eqb (word_octets * (table_words image + list_words image)) (distance image)), 34)
    ∷ []

-- "33 buffer too small": for the table, for the list or for the figures
abbrev pub room_checks : List ℕ → List ℕ → List ℕ → List ℕ → List (Bool × ℕ)
room_checks image table list figures =
    (ltb (length table) (table_words image) || ltb (length list) (list_words image) || ltb (length figures) figure_count, 33) ∷ []

-- "then 2, 8": "only sound contents"
abbrev pub contents_checks : List ℕ → List ℕ → List (Bool × ℕ)
contents_checks table list = (not (table_sound table), 2) ∷ (not (list_sound list), 8) ∷ []

abbrev pub reading_checks : List ℕ → List ℕ → List ℕ → List ℕ → List (Bool × ℕ)
reading_checks image table list figures = trailer_checks image ++ room_checks image table list figures ++ contents_checks (table_in image) (list_in image)

-- "These write nothing"
abbrev pub unread : List ℕ → List ℕ → List ℕ → Bool × ℕ → Bool × RestoreOutcome SaidRead
unread table list figures check = (check.0, leaving (refusal check.1) table list figures)

-- "M-103's figures are recounted"; what lies beyond stays
abbrev pub restored : SaidRead → List ℕ → List ℕ → List ℕ → List ℕ → List ℕ → RestoreOutcome SaidRead
restored answer newTable newList table list figures = leaving answer (over newTable table) (over newList list) (over (recount newTable) figures)

-- a success returns the counts of rows
unfoldable pub reading_image : List ℕ → List ℕ → List ℕ → List ℕ → RestoreOutcome SaidRead
reading_image image table list figures =
    decide (map (unread table list figures) (reading_checks image table list figures))
    (restored (counts (table_rows image) (list_rows image)) (table_in image) (list_in image) table list figures)

-- what the code's answer says in the paper's words
abbrev pub said_read : Result ImageRows Refusal → SaidRead
said_read (Err r) = refusal (refusal_number r)
said_read (Ok rows) = counts rows.numbers rows.subscribers

abbrev pub made_read : Result ImageRows Refusal → List ℕ → List ℕ → List ℕ → RestoreOutcome SaidRead
made_read r table list figures = leaving (said_read r) table list figures

-- ---- what the parts of the code say

-- what the trailer alone decides: the counts of rows, or a refusal
abbrev pub saying : Bool × ℕ → Bool × SaidRead
saying check = (check.0, refusal check.1)

unfoldable pub trailer_says : List ℕ → SaidRead
trailer_says image = decide (map saying (trailer_checks image)) (counts (table_rows image) (list_rows image))

-- what contents come to, where there is room for them
unfoldable pub restoring : List ℕ → List ℕ → List ℕ → List ℕ → List ℕ → RestoreOutcome SaidRead
restoring newTable newList table list figures =
    decide (map (unread table list figures) (contents_checks newTable newList))
    (restored (counts (rows_in newTable) (subscribers_in newList)) newTable newList table list figures)
