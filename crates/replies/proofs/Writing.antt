-- Texts put over the front of a part. Assumes nothing.
use mathlib.Core.Path.{◌≡◌, refl, ◌∙◌}
use mathlib.Core.Bool.{true}
use mathlib.Core.List.{List, ◌++◌}
use Prim.Native.Nat.{ℕ, ◌≤◌}
use native.Mathlib.Nat.{le_refl, le_trans}
use native.Mathlib.Omega.{arith}
use lib.ListN.{length, take, drop}
use lib.Seq.{length-take-le}
use Rattle.std.specs.Prelude.{Result, Ok}
use Rattle.answers.specs.declared.Refusal.{Refusal}
use Rattle.answers.specs.Writing.{made_write}
use Rattle.answers.proofs.Writing.{made_one}
use Rattle.packing.specs.Packing.{chars_in, readable, unpacked}
use Rattle.packing.specs.Outcomes.{unpacking}
use Rattle.packing.proofs.Laws.{length_unpacked_le}
use Rattle.packing.proofs.Outcomes.{unpacking_good}
use Rattle.replies.specs.Replies.{Text}

-- ---- readable octets, with room for their characters

pub text_unpacked :
    (os old new : List ℕ) (r : Result ℕ Refusal) → readable os ≡ true → chars_in (length os) ≤ length old → made_write r new ≡ unpacking os old
    → (r ≡ Ok (length (unpacked os))) × (new ≡ unpacked os ++ drop (length (unpacked os)) old)
text_unpacked os old new r h l e = made_one r (Ok (length (unpacked os))) new _ (e ∙ unpacking_good os old l h) refl

-- ---- the text of an answer

pub text_room : {most count : ℕ} {buffer : List ℕ} (room : ℕ) → Text most count buffer → chars_in most ≤ room → chars_in (length (take count buffer)) ≤ room
unfolding chars_in
text_room {count = count} {buffer} room t h = rw (length-take-le count buffer t.within) (omega (arith, t.short))

pub text_most : {most count : ℕ} {buffer : List ℕ} → Text most count buffer → length (unpacked (take count buffer)) ≤ chars_in most
text_most {most} {count} {buffer} t = le_trans (length_unpacked_le (take count buffer)) (text_room (chars_in most) t (le_refl _))
