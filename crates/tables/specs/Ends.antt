-- A helper: the words of one length lie together, so a scan of ascending words knows a number by the end of the last one's length; proved equal to `table_sound` and `list_sound` (proofs/Ends, and the functions of these names). Assumes nothing.
use Rattle.std.specs.Prelude.{ℕ, ◌+◌, ◌*◌, Bool, cond, ◌&&◌, List, length, get_or, ltb, leb}
use Rattle.numbers.specs.Least.{least_for}
use Rattle.tables.specs.Tables.{subscriber_words, most_flags}

-- the end by which a scan tests w, once the words up to `end` are known, else that of the numbers as long as w: twice the least of them
unfoldable pub end_for : ℕ → ℕ → ℕ
end_for end w = cond (ltb w end) end (2 * least_for w)

-- a scan's test of w, behind `before` and below `end`, with a test of its own
abbrev pub within : ℕ → ℕ → ℕ → Bool → Bool
within before end w own = ltb before w && (ltb w end && own)

-- the same of the subscriber whose row begins at word `at`
abbrev pub subscriber_within : List ℕ → ℕ → ℕ → ℕ → Bool
subscriber_within l at before end = within before end (get_or l at 0) (leb (get_or l (at + 1) 0) most_flags)

-- of two at once: the first below the second
unfoldable pub pair_within : List ℕ → ℕ → ℕ → ℕ → Bool
pair_within l at before end =
    leb (at + 2 * subscriber_words) (length l)
    && (subscriber_within l at before (get_or l (at + subscriber_words) 0) && subscriber_within l (at + subscriber_words) (get_or l at 0) end)
