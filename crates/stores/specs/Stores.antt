-- Document 02, M-106, in the words of docs/RULES.md, "The cab radio", where the request has none: what a radio stores, when that is sound, and what becomes of it. Assumes nothing.
use Rattle.std.specs.Prelude.{ℕ, ◌-◌, ◌/◌, Bool, true, false, not, cond, ◌&&◌, ◌||◌, List, [], ◌∷◌, ◌++◌, length, take, drop, replicate, eqb, leb}
use Rattle.numbers.specs.Numbers.{is_number}
use Rattle.stores.specs.declared.Entry.{Entry}
use Rattle.stores.specs.declared.Radio.{Radio}
use Rattle.stores.specs.declared.Verdict.{Verdict}
use Rattle.stores.specs.declared.Verdict.TheVariants.{Keeps, Drops, Unsure}

-- "It stores up to 16 functional numbers"
abbrev pub most_stored : ℕ
most_stored = 16

-- the numbers stored, in the order in which they were stored
abbrev pub entries_in : Radio → List Entry
entries_in radio = take radio.count radio.entries

-- "a hand-held", else a cab radio
abbrev pub is_hand_held : Radio → Bool
is_hand_held radio = eqb radio.hand_held 1

-- the number is still to be asked in this round
abbrev pub is_to_ask : Entry → Bool
is_to_ask e = eqb e.to_ask 1

-- "the last two digits being the branch": all digits but these. A stored form begins with a 1, so numbers of another length have another root
abbrev pub root_of : ℕ → ℕ
root_of number = number / 100

-- ---- soundness

abbrev pub is_flag : ℕ → Bool
is_flag n = leb n 1

-- a number with its mark and whether it is still to be asked
abbrev pub entry_sound : Entry → Bool
entry_sound e = is_number e.number && is_flag e.unsure && is_flag e.to_ask

-- a place behind the stored numbers
abbrev pub blank : Entry
blank = record { number = 0; unsure = 0; to_ask = 0 }

abbrev pub is_blank : Entry → Bool
is_blank e = eqb e.number 0 && eqb e.unsure 0 && eqb e.to_ask 0

-- every entry passes
unfoldable pub every : (Entry → Bool) → List Entry → Bool
every test [] = true
every test (e ∷ es) = test e && every test es

-- the number is among them
unfoldable pub has : ℕ → List Entry → Bool
has number [] = false
has number (e ∷ es) = eqb e.number number || has number es

-- "none comes twice"
unfoldable pub none_twice : List Entry → Bool
none_twice [] = true
none_twice (e ∷ es) = not (has e.number es) && none_twice es

-- the open question: the first number still to be asked; 0 where there is none
unfoldable pub open_of : List Entry → ℕ
open_of [] = 0
open_of (e ∷ es) = cond (is_to_ask e) e.number (open_of es)

-- an entry that is still to be asked has this root
abbrev pub is_of : ℕ → Entry → Bool
is_of root e = not (is_to_ask e) || eqb (root_of e.number) root

-- "the numbers still to be asked have one root": that of the open question
abbrev pub one_root : List Entry → Bool
one_root es = every (is_of (root_of (open_of es))) es

-- "a state that breaks these rules"
unfoldable pub radio_sound : Radio → Bool
radio_sound radio =
    is_number radio.own && is_flag radio.hand_held && leb radio.count most_stored
    && every entry_sound (entries_in radio) && none_twice (entries_in radio)
    && every is_blank (drop radio.count radio.entries)
    && (is_hand_held radio || one_root (entries_in radio))

-- ---- what becomes of the stored numbers

-- the places of a radio: the entries, and blanks behind them
abbrev pub laid : List Entry → List Entry
laid es = es ++ replicate (most_stored - length es) blank

-- the radio with other entries and another last invoke number
abbrev pub holding : Radio → ℕ → List Entry → Radio
holding radio invoke es = record {
  own = radio.own;
  count = length es;
  entries = laid es;
  hand_held = radio.hand_held;
  invoke = invoke;
}

-- a fresh radio has stored nothing and asked nothing
abbrev pub fresh_radio : ℕ → ℕ → Radio
fresh_radio own handHeld = record { own = own; count = 0; entries = laid []; hand_held = handHeld; invoke = 0 }

abbrev pub entry_of : ℕ → ℕ → ℕ → Entry
entry_of number unsure to_ask = record { number = number; unsure = unsure; to_ask = to_ask }

-- a new number: neither marked nor to be asked
abbrev pub new_entry : ℕ → Entry
new_entry number = entry_of number 0 0

-- "it goes last, not marked, and waits for the next round"
abbrev pub with_new : ℕ → List Entry → List Entry
with_new number es = es ++ (new_entry number ∷ [])

-- due at a notice about a number: "every stored number with the same root"; "a hand-held asks about all"
abbrev pub due_by : ℕ → ℕ → ℕ → Bool
due_by handHeld about number = eqb handHeld 1 || eqb (root_of number) (root_of about)

abbrev pub is_due : Radio → ℕ → ℕ → Bool
is_due radio = due_by radio.hand_held

abbrev pub flag_of : Bool → ℕ
flag_of b = cond b 1 0

-- "the round begins anew": to be asked are the numbers that are due, and no others; marks stay
unfoldable pub begun : (ℕ → Bool) → List Entry → List Entry
begun due [] = []
begun due (e ∷ es) = entry_of e.number e.unsure (flag_of (due e.number)) ∷ begun due es

-- what an answer makes of the number that was asked: "keeps the number and unmarks it", "drops it", "keeps it and marks it unsure"
abbrev pub answered : Verdict → Entry → List Entry
answered Keeps e = entry_of e.number 0 0 ∷ []
answered Drops e = []
answered Unsure e = entry_of e.number 1 0 ∷ []

-- the open question is answered: "a dropped one leaving no gap"
unfoldable pub settled : Verdict → List Entry → List Entry
settled v [] = []
settled v (e ∷ es) = cond (is_to_ask e) (answered v e ++ es) (e ∷ settled v es)
