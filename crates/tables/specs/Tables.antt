-- Document 01, "The lent table and list": when they are sound, and what is found in them. Assumes nothing.
use Rattle.std.specs.Prelude.{ℕ, ◌+◌, ◌*◌, ◌/◌, ◌%◌, Bool, ◌&&◌, List, length, get_or, eqb, leb}
use Rattle.std.proofs.Math.Option.{Option, none, some}
use Rattle.numbers.specs.Numbers.{is_number}
use Rattle.records.specs.Steps.{most_sendings}
use Rattle.rows.specs.Rows.{row_words, row_up_to, record_at}
use Rattle.records.specs.declared.Record.{Record}
use Rattle.tables.specs.Keys.{Found}
use Rattle.std.specs.Prelude.{Some, None}
use Rattle.tables.specs.Keys.{key, every, ascends, place_of}

-- ---- the table

-- "at most 1,024 numbers"
abbrev pub most_numbers : ℕ
most_numbers = 1024

-- how many rows a table has
abbrev pub rows_in : List ℕ → ℕ
rows_in t = length t / row_words

-- the functional number of row i
abbrev pub number_key : List ℕ → ℕ → ℕ
number_key t = key row_words t

-- row i is sound and stands in its place, with at most `limit` sendings of a notice
abbrev pub stands_up_to : ℕ → List ℕ → ℕ → Bool
stands_up_to limit t i = ascends (number_key t) i && row_up_to limit t i

-- "A table … that breaks this, or whose length isn't whole rows, is unsound. Empty ones are sound"
unfoldable pub table_up_to : ℕ → List ℕ → Bool
table_up_to limit t = eqb (length t % row_words) 0 && leb (rows_in t) most_numbers && every (stands_up_to limit t) (rows_in t)

-- at the limit
abbrev pub row_stands : List ℕ → ℕ → Bool
row_stands = stands_up_to most_sendings

-- a table that is sound for fewer sendings is sound too (proofs/Sound, `table_more`)
abbrev pub table_sound : List ℕ → Bool
table_sound = table_up_to most_sendings

-- the row of a functional number
unfoldable pub row_of : List ℕ → ℕ → Found
row_of t number = place_of (number_key t) number (rows_in t)

-- the record of a functional number
abbrev pub record_found : List ℕ → Found → Option Record
record_found t None = none
record_found t (Some i) = some (record_at t i)

unfoldable pub record_of : List ℕ → ℕ → Option Record
record_of t number = record_found t (row_of t number)

-- ---- the subscriber list

-- "Subscriber list: two words each (MSISDN; flags 0 to 3 …), strictly ascending, at most 4,096"
abbrev pub subscriber_words : ℕ
subscriber_words = 2

abbrev pub most_subscribers : ℕ
most_subscribers = 4096

abbrev pub most_flags : ℕ
most_flags = 3

abbrev pub subscribers_in : List ℕ → ℕ
subscribers_in l = length l / subscriber_words

abbrev pub msisdn_key : List ℕ → ℕ → ℕ
msisdn_key l = key subscriber_words l

abbrev pub flags_at : List ℕ → ℕ → ℕ
flags_at l i = get_or l (subscriber_words * i + 1) 0

abbrev pub subscriber_stands : List ℕ → ℕ → Bool
subscriber_stands l i = ascends (msisdn_key l) i && (is_number (msisdn_key l i) && leb (flags_at l i) most_flags)

unfoldable pub list_sound : List ℕ → Bool
list_sound l = eqb (length l % subscriber_words) 0 && leb (subscribers_in l) most_subscribers && every (subscriber_stands l) (subscribers_in l)

-- the flags of a subscriber; "requester absent from the list" has none
abbrev pub flags_found : List ℕ → Found → ℕ
flags_found l None = 0
flags_found l (Some i) = flags_at l i

unfoldable pub flags_of : List ℕ → ℕ → ℕ
flags_of l msisdn = flags_found l (place_of (msisdn_key l) msisdn (subscribers_in l))

-- ---- the fullest table and list

abbrev pub full_table_words : ℕ
full_table_words = row_words * most_numbers

abbrev pub full_list_words : ℕ
full_list_words = subscriber_words * most_subscribers
