-- The texts of outcomes: the packer takes them, and a buffer of 80 octets has room for them. Assumes nothing.
use mathlib.Core.Path.{◌≡◌, sym, ap, ◌∙◌}
use mathlib.Core.Bool.{true}
use mathlib.Core.List.{List, [], ◌∷◌, ◌++◌, append-nil}
use Prim.Native.Nat.{ℕ, ◌+◌, ◌≤◌}
use native.Mathlib.Omega.{arith}
use lib.ListN.{length, take}
use lib.Seq.{take-append-add, take_at}
use native.Mathlib.Nat.{add_comm}
use Rattle.packing.specs.Packing.{octets_for}
use Rattle.numbers.specs.Numbers.{is_number, digits_of}
use Rattle.numbers.proofs.Digits.{digits_most}
use Rattle.rules.specs.Answers.{holder_text, buffer_room}

pub holder_room : (w room : ℕ) → is_number w ≡ true → buffer_room ≤ room → octets_for (length (holder_text w)) ≤ room
unfolding octets_for
holder_room w room e h = omega (arith, digits_most w e)

-- the code, the space and a number's digits, as they stand at the front of a longer text
pub holder_front : (w n : ℕ) (new rest : List ℕ) → n ≡ length (digits_of w) → new ≡ digits_of w ++ rest → take (n + 3) (48 ∷ 51 ∷ 32 ∷ (new ++ [])) ≡ holder_text w
holder_front w n new rest e f =
    rw (add_comm n 3)
    (take-append-add (48 ∷ 51 ∷ 32 ∷ []) (new ++ []) n ∙ ap (λ (l : List ℕ). 48 ∷ 51 ∷ 32 ∷ l) (rw (append-nil, f) (take_at (digits_of w) rest n (sym e))))
