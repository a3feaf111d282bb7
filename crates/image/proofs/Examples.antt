-- Images computed from the definitions: empty contents, one number and one subscriber worked out by hand, and each refusal with a neighbour. Assumes nothing.
use mathlib.Core.Path.{◌≡◌, refl}
use mathlib.Core.List.{List, [], ◌∷◌, ◌++◌}
use Prim.Native.Nat.{ℕ}
use lib.ListN.{take}
use Rattle.answers.specs.Writing.{Said, wrote}
use Rattle.packing.specs.Packing.{value_of, digits}
use Rattle.numbers.specs.Numbers.{is_number}
use Rattle.rows.specs.Rows.{notice_up_to, row_up_to}
use Rattle.tables.specs.Tables.{table_up_to, list_sound}
use Rattle.tables.specs.Figures.{recount}
use Rattle.states.specs.States.{beside, figures_right}
use Rattle.image.specs.Images.{octets_of, trailer_of, image_of, word_at, words_from, table_rows, list_rows, distance, table_in, list_in, writing_image, SaidRead, leaving, reading_image}
use Rattle.image.specs.Images.SaidRead.{counts, refusal}

-- ---- empty contents: 24 zero bytes

abbrev zeros : List ℕ
zeros = 0 ∷ 0 ∷ 0 ∷ 0 ∷ 0 ∷ 0 ∷ 0 ∷ 0 ∷ 0 ∷ 0 ∷ 0 ∷ 0 ∷ 0 ∷ 0 ∷ 0 ∷ 0 ∷ 0 ∷ 0 ∷ 0 ∷ 0 ∷ 0 ∷ 0 ∷ 0 ∷ 0 ∷ []

pub empty_image : image_of [] [] ≡ zeros
unfolding image_of trailer_of octets_of digits
empty_image = refl

-- lent words beyond stay
pub empty_read : reading_image zeros (7 ∷ []) [] (9 ∷ 9 ∷ 9 ∷ 9 ∷ []) ≡ leaving (counts 0 0) (7 ∷ []) [] (0 ∷ 0 ∷ 0 ∷ 9 ∷ [])
unfolding octets_of digits word_at words_from value_of table_rows list_rows distance table_in list_in is_number notice_up_to row_up_to table_up_to list_sound recount reading_image
empty_read = refl

-- ---- one number, free and open, and one subscriber with flags 1: a word a line, and the trailer 1, 1, 72

abbrev number : List ℕ
number = 10492123401 ∷ 0 ∷ 0 ∷ 0 ∷ 0 ∷ 0 ∷ 0 ∷ []

abbrev subscriber : List ℕ
subscriber = 14915100001 ∷ 1 ∷ []

abbrev small : List ℕ
small =
    9 ∷ 25 ∷ 97 ∷ 113 ∷ 2 ∷ 0 ∷ 0 ∷ 0
    ∷ 0 ∷ 0 ∷ 0 ∷ 0 ∷ 0 ∷ 0 ∷ 0 ∷ 0
    ∷ 0 ∷ 0 ∷ 0 ∷ 0 ∷ 0 ∷ 0 ∷ 0 ∷ 0
    ∷ 0 ∷ 0 ∷ 0 ∷ 0 ∷ 0 ∷ 0 ∷ 0 ∷ 0
    ∷ 0 ∷ 0 ∷ 0 ∷ 0 ∷ 0 ∷ 0 ∷ 0 ∷ 0
    ∷ 0 ∷ 0 ∷ 0 ∷ 0 ∷ 0 ∷ 0 ∷ 0 ∷ 0
    ∷ 0 ∷ 0 ∷ 0 ∷ 0 ∷ 0 ∷ 0 ∷ 0 ∷ 0
    ∷ 97 ∷ 93 ∷ 2 ∷ 121 ∷ 3 ∷ 0 ∷ 0 ∷ 0
    ∷ 1 ∷ 0 ∷ 0 ∷ 0 ∷ 0 ∷ 0 ∷ 0 ∷ 0
    ∷ 1 ∷ 0 ∷ 0 ∷ 0 ∷ 0 ∷ 0 ∷ 0 ∷ 0
    ∷ 1 ∷ 0 ∷ 0 ∷ 0 ∷ 0 ∷ 0 ∷ 0 ∷ 0
    ∷ 72 ∷ 0 ∷ 0 ∷ 0 ∷ 0 ∷ 0 ∷ 0 ∷ 0
    ∷ []

pub small_image : image_of number subscriber ≡ small
unfolding image_of trailer_of octets_of digits
small_image = refl

pub small_read : reading_image small (number ++ (7 ∷ [])) (8 ∷ 8 ∷ []) (9 ∷ 9 ∷ 9 ∷ []) ≡ leaving (counts 1 1) (number ++ (7 ∷ [])) subscriber (0 ∷ 0 ∷ 0 ∷ [])
unfolding octets_of digits word_at words_from value_of table_rows list_rows distance table_in list_in is_number notice_up_to row_up_to table_up_to list_sound recount reading_image
small_read = refl

pub small_written : writing_image (beside number (0 ∷ 0 ∷ 0 ∷ [])) subscriber (zeros ++ zeros ++ zeros ++ zeros) ≡ wrote small (zeros ++ zeros ++ zeros ++ zeros)
unfolding octets_of digits trailer_of image_of is_number notice_up_to row_up_to table_up_to list_sound recount figures_right writing_image
small_written = refl

-- ---- refusals, reading

abbrev read : List ℕ → List ℕ → List ℕ → List ℕ → SaidRead
read image table list figures = (reading_image image table list figures).answer

abbrev none : List ℕ
none = []

-- three words, where a reader needs as many figures
abbrev three : List ℕ
three = 9 ∷ 9 ∷ 9 ∷ []

-- 30: 23 bytes; 24 are read above
pub under_24 : read (take 23 zeros) none none three ≡ refusal 30
unfolding octets_of digits word_at words_from value_of table_rows list_rows distance table_in list_in is_number notice_up_to row_up_to table_up_to list_sound recount reading_image
under_24 = refl

-- 31: an octet in front; a distance of 1 and none
pub octet_in_front : read (0 ∷ zeros) none none three ≡ refusal 31
unfolding octets_of digits word_at words_from value_of table_rows list_rows distance table_in list_in is_number notice_up_to row_up_to table_up_to list_sound recount reading_image
octet_in_front = refl

pub distance_one : read (octets_of (0 ∷ 0 ∷ 1 ∷ [])) none none three ≡ refusal 31
unfolding octets_of digits word_at words_from value_of table_rows list_rows distance table_in list_in is_number notice_up_to row_up_to table_up_to list_sound recount reading_image
distance_one = refl

-- 32: a row more than the limit; at the limit they do not fill the distance. A count whose octets wrap round to 0 is no 0
pub too_many_numbers : (read (octets_of (1025 ∷ 0 ∷ 0 ∷ [])) none none three ≡ refusal 32) × (read (octets_of (1024 ∷ 0 ∷ 0 ∷ [])) none none three ≡ refusal 34)
unfolding octets_of digits word_at words_from value_of table_rows list_rows distance table_in list_in is_number notice_up_to row_up_to table_up_to list_sound recount reading_image
too_many_numbers = (refl, refl)

pub too_many_subscribers : (read (octets_of (0 ∷ 4097 ∷ 0 ∷ [])) none none three ≡ refusal 32) × (read (octets_of (0 ∷ 4096 ∷ 0 ∷ [])) none none three ≡ refusal 34)
unfolding octets_of digits word_at words_from value_of table_rows list_rows distance table_in list_in is_number notice_up_to row_up_to table_up_to list_sound recount reading_image
too_many_subscribers = (refl, refl)

pub wraps_round : (read (octets_of (1152921504606846976 ∷ 0 ∷ 0 ∷ [])) none none three ≡ refusal 32) × (read (octets_of (0 ∷ 1152921504606846976 ∷ 0 ∷ [])) none none three ≡ refusal 32)
unfolding octets_of digits word_at words_from value_of table_rows list_rows distance table_in list_in is_number notice_up_to row_up_to table_up_to list_sound recount reading_image
wraps_round = (refl, refl)

-- 34, before 33: two rows said, and one there
pub not_filled : read (octets_of (number ++ (2 ∷ 0 ∷ 56 ∷ []))) none none none ≡ refusal 34
unfolding octets_of digits word_at words_from value_of table_rows list_rows distance table_in list_in is_number notice_up_to row_up_to table_up_to list_sound recount reading_image
not_filled = refl

-- M-110: "an old one with numbers in it is refused 34"; one without is read, above and here
pub old_image :
    (read (octets_of (10492123401 ∷ 0 ∷ 0 ∷ 0 ∷ 0 ∷ 0 ∷ 1 ∷ 0 ∷ 48 ∷ [])) number none three ≡ refusal 34)
    × (read (octets_of (14915100001 ∷ 1 ∷ 0 ∷ 1 ∷ 16 ∷ [])) none subscriber three ≡ counts 0 1)
unfolding octets_of digits word_at words_from value_of table_rows list_rows distance table_in list_in is_number notice_up_to row_up_to table_up_to list_sound recount reading_image
old_image = (refl, refl)

-- 33: a word too few of the table, of the list, of the figures; exactly as many are read above
pub table_short : read small (0 ∷ 0 ∷ 0 ∷ 0 ∷ 0 ∷ 0 ∷ []) subscriber three ≡ refusal 33
unfolding octets_of digits word_at words_from value_of table_rows list_rows distance table_in list_in is_number notice_up_to row_up_to table_up_to list_sound recount reading_image
table_short = refl

pub list_short : read small number (0 ∷ []) three ≡ refusal 33
unfolding octets_of digits word_at words_from value_of table_rows list_rows distance table_in list_in is_number notice_up_to row_up_to table_up_to list_sound recount reading_image
list_short = refl

pub figures_short : read small number subscriber (9 ∷ 9 ∷ []) ≡ refusal 33
unfolding octets_of digits word_at words_from value_of table_rows list_rows distance table_in list_in is_number notice_up_to row_up_to table_up_to list_sound recount reading_image
figures_short = refl

-- 2 for a number that is none, before 8 for flags 4
abbrev image : ℕ → ℕ → List ℕ
image first flags = octets_of (first ∷ 0 ∷ 0 ∷ 0 ∷ 0 ∷ 0 ∷ 0 ∷ 14915100001 ∷ flags ∷ 1 ∷ 1 ∷ 72 ∷ [])

pub unsound : (read (image 1 4) number subscriber three ≡ refusal 2) × (read (image 10492123401 4) number subscriber three ≡ refusal 8) × (read (image 10492123401 3) number subscriber three ≡ counts 1 1)
unfolding octets_of digits word_at words_from value_of table_rows list_rows distance table_in list_in is_number notice_up_to row_up_to table_up_to list_sound recount reading_image
unsound = (refl, refl, refl)

-- ---- refusals, writing: 8 before 2, 2 before 10, 10 before 33

abbrev written : List ℕ → List ℕ → List ℕ → List ℕ → Said
written table figures list out = (writing_image (beside table figures) list out).answer

pub writing_refused :
    (written (1 ∷ []) none (1 ∷ []) none ≡ Said.refusal 8) × (written (1 ∷ []) none none none ≡ Said.refusal 2)
    × (written none none none none ≡ Said.refusal 10) × (written none (0 ∷ 0 ∷ 0 ∷ []) none (take 23 zeros) ≡ Said.refusal 33)
    × (written none (0 ∷ 0 ∷ 0 ∷ []) none zeros ≡ Said.count 24)
unfolding octets_of digits trailer_of image_of is_number notice_up_to row_up_to table_up_to list_sound recount figures_right writing_image
writing_refused = (refl, refl, refl, refl, refl)
