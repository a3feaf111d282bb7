-- Helpers by which the code speaks of places. Assumes nothing.
use Rattle.std.specs.Prelude.{ℕ, suc, ◌-◌, cond, List, [], ◌∷◌, ◌++◌, get_or, set, take, drop, Option, Some, None}
use Rattle.stores.specs.declared.Entry.{Entry}
use Rattle.stores.specs.declared.Radio.{Radio}
use Rattle.stores.specs.Stores.{is_to_ask, blank, entry_of}

-- the place of the first number still to be asked; behind all where there is none
unfoldable pub first_to_ask : List Entry → ℕ
first_to_ask [] = 0
first_to_ask (e ∷ es) = cond (is_to_ask e) 0 (suc (first_to_ask es))

-- the place that an answer says: behind all of so many where it says none
abbrev pub said_place : ℕ → Option ℕ → ℕ
said_place n None = n
said_place n (Some at) = at

-- the number that an answer says; 0 where it says none
abbrev pub said_open : Option ℕ → ℕ
said_open None = 0
said_open (Some number) = number

-- without the entry at a place: those behind it move one down, and a blank comes last
unfoldable pub closed_up : List Entry → ℕ → List Entry
closed_up es at = take at es ++ (drop (suc at) es ++ (blank ∷ []))

-- the radio with another count and other entries
abbrev pub with_entries : Radio → ℕ → List Entry → Radio
with_entries radio count entries = record {
  own = radio.own;
  count = count;
  entries = entries;
  hand_held = radio.hand_held;
  invoke = radio.invoke;
}

abbrev pub kept_at : Radio → ℕ → ℕ → Radio
kept_at radio at mark = with_entries radio radio.count (set radio.entries at (entry_of (get_or radio.entries at blank).number mark 0))

abbrev pub dropped_at : Radio → ℕ → Radio
dropped_at radio at = with_entries radio (radio.count - 1) (closed_up radio.entries at)
