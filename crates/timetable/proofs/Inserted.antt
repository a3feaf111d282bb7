-- A row put between others, for any rows: that they ascend, and what is found among them. Assumes nothing.
use mathlib.Core.Path.{◌≡◌, refl, ◌∙◌}
use mathlib.Core.Bool.{true, ◌&&◌}
use mathlib.Core.List.{List, [], ◌∷◌, ◌++◌}
use Prim.Native.Nat.{ℕ, ◌<◌}
use lib.Dec.{ltb}
use borrow.Author.Tests.{lt-ltb}
use Rattle.answers.proofs.Tests.{and_left, and_right, and_both}
use Rattle.timetable.specs.Moving.{number_of}
use Rattle.timetable.proofs.Lists.{ascend, last_number, ascend_append, rest_ascends}

-- the first row of b, if it has one, is above the number
pub data Above (number : ℕ) : List (List ℕ) → Type 0 where
  nothing : Above number []
  first : {r : List ℕ} {rs : List (List ℕ)} → number < number_of r → Above number (r ∷ rs)

above_ascends : {number : ℕ} (last : ℕ) {b : List (List ℕ)} → Above number b → ascend last b ≡ true → ascend number b ≡ true
above_ascends last nothing h = refl
above_ascends {number} last {b = r ∷ rs} (first l) h = and_both (ltb number (number_of r)) (ascend (number_of r) rs) (lt-ltb number (number_of r) l) (rest_ascends last r rs h)

pub insert_ascends : (last : ℕ) (a : List (List ℕ)) (r : List ℕ) (b : List (List ℕ)) → ascend last (a ++ b) ≡ true → last_number last a < number_of r → Above (number_of r) b
    → ascend last (a ++ r ∷ b) ≡ true
insert_ascends last a r b h l m =
    let both = rw ascend_append at h in
    ascend_append last a (r ∷ b)
    ∙ and_both (ascend last a) (ltb (last_number last a) (number_of r) && ascend (number_of r) b) (and_left (ascend last a) _ both)
    (and_both (ltb (last_number last a) (number_of r)) (ascend (number_of r) b) (lt-ltb _ _ l) (above_ascends (last_number last a) m (and_right (ascend last a) _ both)))
