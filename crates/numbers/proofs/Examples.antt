-- Document 01, "Numbers": its own example. Assumes nothing.
use Rattle.std.proofs.Common.{◌≡◌, ℕ, false, List, [], ◌∷◌, refl}
use Rattle.numbers.specs.Numbers.{pushed, stored_form, is_number, digits_up_to, digits_of}

-- "0492123401 and 492123401 differ"
abbrev without_zero : List ℕ
without_zero = 52 ∷ 57 ∷ 50 ∷ 49 ∷ 50 ∷ 51 ∷ 52 ∷ 48 ∷ 49 ∷ []

-- "0492123401 is stored as 10492123401"
pub with_zero : stored_form (48 ∷ without_zero) ≡ 10492123401
unfolding stored_form pushed
with_zero = refl

pub without_zero_lem : stored_form without_zero ≡ 1492123401
unfolding stored_form pushed
without_zero_lem = refl

pub read_back_lem : digits_of 10492123401 ≡ 48 ∷ without_zero
unfolding digits_of digits_up_to
read_back_lem = refl

-- "0 means nobody"
pub nobody : is_number 0 ≡ false
unfolding is_number
nobody = refl
