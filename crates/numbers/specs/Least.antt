-- A helper: the least number as long as a word, by which two comparisons tell whether it is a number; proved equal to `is_number` (proofs/Least). Assumes nothing.
use Rattle.std.specs.Prelude.{ℕ, zero, suc, ◌+◌, ◌-◌, ◌*◌, ◌^◌, Bool, cond, ◌&&◌, nat_le, nat_lt}
use Rattle.numbers.specs.Numbers.{fewest_digits, most_digits}

-- how many lengths a number can have
abbrev pub lengths : ℕ
lengths = suc (most_digits - fewest_digits)

-- the greatest of the least numbers of the n shortest lengths that is not above w; 0 where all are
unfoldable pub least_of : ℕ → ℕ → ℕ
least_of w zero = 0
least_of w (suc n) = cond (nat_le (10 ^ (fewest_digits + n)) w) (10 ^ (fewest_digits + n)) (least_of w n)

-- of all lengths
unfoldable pub least_for : ℕ → ℕ
least_for w = least_of w lengths

-- w is not below a start, and below twice that
abbrev pub is_from : ℕ → ℕ → Bool
is_from start w = nat_le start w && nat_lt w (2 * start)
