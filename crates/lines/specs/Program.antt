-- Document 01, "The program": what each line prints and leaves, and the whole output for the whole input. Assumes nothing.
use Rattle.std.specs.Prelude.{ℕ, ◌-◌, ◌/◌, Bool, true, false, cond, ◌&&◌, List, [], ◌∷◌, ◌++◌, length, get_or, replicate, ltb}
use Prim.Native.Char.{code}
use Rattle.std.proofs.Math.Option.{Option, none, some}
use Rattle.answers.specs.Ascii.{ascii}
use Rattle.packing.specs.Packing.{takes, packed}
use Rattle.numbers.specs.declared.FunctionalNumber.{FunctionalNumber}
use Rattle.numbers.specs.declared.Msisdn.{Msisdn}
use Rattle.strings.specs.Text.{coding_scheme}
use Rattle.records.specs.Steps.{delay_allowed}
use Rattle.rows.specs.Rows.{row_words}
use Rattle.tables.specs.Tables.{most_numbers, subscriber_words, most_subscribers}
use Rattle.states.specs.States.{State, counted}
use Rattle.rules.specs.Answers.{refusal, Outcome, made, buffer_room}
use Rattle.rules.specs.Crews as crews
use Rattle.rules.specs.Notices as notices
use Rattle.replies.specs.Replies.{behind_letter}
use Rattle.forms.specs.Lines.{line_feed, space, lines_of, Form, number_line, subscriber_line, request_line, sending_line, result_line, delay_line, form_of}

-- the words of the table and of the list, and whether they are still being filled; M-107: the delay, and whether no line has come yet
pub record Program : Type 0 where
  pub table : List ℕ
  pub list : List ℕ
  pub filling : Bool
  pub delay : ℕ
  pub fresh : Bool

-- M-107: the program passes 60 by name, "so document 01's listing stays as printed"
abbrev pub program_delay : ℕ
program_delay = 60

abbrev pub start : Program
start = record { table = []; list = []; filling = true; delay = program_delay; fresh = true }

-- what a line comes to: what it prints, and the program behind it
pub record Effect : Type 0 where
  pub prints : List ℕ
  pub leaves : Program

-- "Any other line … prints `?` and changes nothing": what it leaves is the program it came to, where no line is the first any more (`begun`)
abbrev pub questioned : Program → Effect
questioned p = record { prints = ascii "?\n"; leaves = p }

-- where it is allowed, the program becomes the next and nothing is printed; else `?`
abbrev pub when_allowed : Bool → Program → Program → Effect
when_allowed allowed next p = cond allowed (record { prints = []; leaves = next }) (questioned p)

-- ---- filling: "`N` number and `S` MSISDN flags fill table and list … before any `R`, `T` or `D`, and print nothing"

-- the first word of the last row, in rows of `width` words; 0 where there is none
abbrev pub last_key : ℕ → List ℕ → ℕ
last_key width words = get_or words (length words - width) 0

-- "ascending as stored", and not over the limit
unfoldable pub may_follow : ℕ → ℕ → ℕ → List ℕ → Bool
may_follow width most key words = ltb (length words / width) most && ltb (last_key width words) key

-- a number's row, free and with no notice
abbrev pub free_row : FunctionalNumber → List ℕ
free_row n = n.0 ∷ replicate (row_words - 1) 0

abbrev pub with_number : FunctionalNumber → Program → Program
with_number n p = record { table = p.table ++ free_row n; list = p.list; filling = p.filling; delay = p.delay; fresh = p.fresh }

unfoldable pub numbered : FunctionalNumber → Program → Effect
numbered n p = when_allowed (p.filling && may_follow row_words most_numbers n.0 p.table) (with_number n p) p

abbrev pub subscriber_row : Msisdn → ℕ → List ℕ
subscriber_row m flags = m.0 ∷ flags ∷ []

abbrev pub with_subscriber : Msisdn → ℕ → Program → Program
with_subscriber m flags p = record { table = p.table; list = p.list ++ subscriber_row m flags; filling = p.filling; delay = p.delay; fresh = p.fresh }

unfoldable pub subscribed : Msisdn → ℕ → Program → Effect
subscribed m flags p = when_allowed (p.filling && may_follow subscriber_words most_subscribers m.0 p.list) (with_subscriber m flags p) p

-- ---- the delay

abbrev pub with_delay : ℕ → Program → Program
with_delay seconds p = record { table = p.table; list = p.list; filling = p.filling; delay = seconds; fresh = p.fresh }

-- "A first line `W` seconds sets another delay and prints nothing; elsewhere, or with a delay not allowed, it prints `?`"
unfoldable pub delayed : Bool → ℕ → Program → Effect
delayed first seconds p = when_allowed (first && delay_allowed seconds) (with_delay seconds p) p

-- ---- answers

-- an answer to an `R`, `T` or `D`, which ends the filling; M-103: its call takes the table with the figures of a recount
abbrev pub answered_line : ℕ → Outcome → Program → Effect
answered_line letter o p = record {
  prints = letter ∷ space ∷ behind_letter o.answer o.buffer ++ (line_feed ∷ []);
  leaves = record { table = o.state.table; list = p.list; filling = false; delay = p.delay; fresh = p.fresh };
}

-- the buffer that each request and each sending is lent
abbrev pub lent_buffer : List ℕ
lent_buffer = replicate buffer_room 0

-- "the program packs it", and "one the packer refuses" is refused 9, whoever the requester is
unfoldable pub asked : Msisdn → List ℕ → State → List ℕ → Outcome
asked m string state list =
    cond (takes string) (crews.requesting state list lent_buffer m coding_scheme (packed string)) (made (refusal 9) state lent_buffer)

-- "`R` requester string (unpacked …) prints `R` and the reply text"
unfoldable pub requested : Msisdn → List ℕ → Program → Effect
requested m string p = answered_line (code "R") (asked m string (counted p.table) p.list) p

-- "`T` now number prints `T`, addressee, notice", with the delay of the program
unfoldable pub dispatched : ℕ → FunctionalNumber → Program → Effect
dispatched now n p = answered_line (code "T") (notices.sending_notice (counted p.table) lent_buffer n p.delay now) p

-- "`D` now number kind prints `D delivered`, `D dropped` or `D again`"
unfoldable pub reported : ℕ → FunctionalNumber → ℕ → Program → Effect
reported now n kind p = answered_line (code "D") (notices.taking_result (counted p.table) n kind now) p

-- ---- lines

-- by its form, and whether it is the first
abbrev pub effect_of : Bool → Option Form → Program → Effect
effect_of first none p = questioned p
effect_of first (some (number_line n)) p = numbered n p
effect_of first (some (subscriber_line m flags)) p = subscribed m flags p
effect_of first (some (request_line m string)) p = requested m string p
effect_of first (some (sending_line now n)) p = dispatched now n p
effect_of first (some (result_line now n kind)) p = reported now n kind p
effect_of first (some (delay_line seconds)) p = delayed first seconds p

-- once a line has come, whatever it is, no other is the first
abbrev pub begun : Program → Program
begun p = record { table = p.table; list = p.list; filling = p.filling; delay = p.delay; fresh = false }

unfoldable pub line_effect : List ℕ → Program → Effect
line_effect line p = effect_of p.fresh (form_of line) (begun p)

-- an effect behind what was printed before
abbrev pub printed_behind : List ℕ → Effect → Effect
printed_behind printed e = record { prints = printed ++ e.prints; leaves = e.leaves }

-- lines one after the other, each on the program that the one before it leaves
unfoldable pub lines_effect : List (List ℕ) → Program → Effect
lines_effect [] p = record { prints = []; leaves = p }
lines_effect (line ∷ lines) p = let e = line_effect line p in printed_behind e.prints (lines_effect lines e.leaves)

-- the whole input, from empty table and list on
unfoldable pub program_effect : List ℕ → Effect
program_effect input = lines_effect (lines_of input) start

-- "Whole output, no header"
unfoldable pub output_of : List ℕ → List ℕ
output_of input = (program_effect input).prints
