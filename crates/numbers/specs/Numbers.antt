-- Document 01, "Numbers": digits, the stored form, and how the one is read from and written to the other. Assumes nothing.
use Rattle.std.specs.Prelude.{ℕ, zero, suc, ◌+◌, ◌-◌, ◌*◌, ◌/◌, ◌%◌, ◌^◌, Bool, cond, not, ◌&&◌, ◌||◌, List, [], ◌∷◌, ◌++◌, length, take, ◌==◌, nat_le, nat_lt, Option, Some, None}
use Rattle.answers.specs.Leading.{each, leading}
use Rattle.answers.specs.Writing.{WriteOutcome, writing}
use Rattle.numbers.specs.declared.Msisdn.{Msisdn}

-- "Each has 5 to 15 decimal digits"
abbrev pub fewest_digits : ℕ
fewest_digits = 5

abbrev pub most_digits : ℕ
most_digits = 15

-- "Digits … have their ASCII values"
unfoldable pub is_digit : ℕ → Bool
is_digit c = nat_le 48 c && nat_le c 57

abbrev pub are_digits : List ℕ → Bool
are_digits cs = each is_digit cs

-- w, with the digits cs put behind it, read as a decimal
unfoldable pub pushed : ℕ → List ℕ → ℕ
pushed w [] = w
pushed w (c ∷ cs) = pushed (10 * w + (c - 48)) cs

-- "Stored, a number is its digits with a 1 put in front, read as a decimal"
unfoldable pub stored_form : List ℕ → ℕ
stored_form cs = pushed 1 cs

-- w is a 1 with d digits behind it
abbrev pub one_and : ℕ → ℕ → Bool
one_and d w = nat_le (10 ^ d) w && nat_lt w (2 * 10 ^ d)

-- w is a number in stored form
unfoldable pub is_number : ℕ → Bool
is_number w =
    one_and 5 w || one_and 6 w || one_and 7 w || one_and 8 w || one_and 9 w || one_and 10 w || one_and 11 w || one_and 12 w || one_and 13 w || one_and 14 w
    || one_and 15 w

-- "0 means nobody"
abbrev pub nobody : Msisdn
nobody = record { 0 = 0 }

abbrev pub is_nobody : Msisdn → Bool
is_nobody m = m.0 == 0

-- a number, or nobody
abbrev pub number_or_nobody : ℕ → Bool
number_or_nobody w = w == 0 || is_number w

-- the digits of w behind its first one, at most `room` of them
unfoldable pub digits_up_to : ℕ → ℕ → List ℕ
digits_up_to zero w = []
digits_up_to (suc room) w = cond (nat_lt w 10) [] (digits_up_to room (w / 10) ++ ((48 + w % 10) ∷ []))

-- the digits of a number in stored form: what stands behind the 1 in front
unfoldable pub digits_of : ℕ → List ℕ
digits_of w = digits_up_to most_digits w

-- the two digits of a number below 100
abbrev pub two_digits : ℕ → List ℕ
two_digits n = (48 + n / 10) ∷ (48 + n % 10) ∷ []

-- a number below 100 without leading zero: one character or two
abbrev pub numeral : ℕ → List ℕ
numeral n = cond (nat_lt n 10) ((48 + n) ∷ []) (two_digits n)

-- how many digits stand at the front of a string
abbrev pub leading_digits : List ℕ → ℕ
leading_digits s = leading is_digit s

-- the number at the front of a string, with how far it reaches: 5 to 15 digits, and no digit behind them
unfoldable pub leading_number : List ℕ → Option (ℕ × ℕ)
leading_number s =
    cond (nat_le fewest_digits (leading_digits s) && nat_le (leading_digits s) most_digits) (Some (stored_form (take (leading_digits s) s), leading_digits s))
    None

-- a number's digits written over the front of a buffer that has room for the longest
unfoldable pub writing_digits : ℕ → List ℕ → WriteOutcome
writing_digits w out = writing (nat_lt (length out) most_digits) (not (is_number w)) (digits_of w) out
