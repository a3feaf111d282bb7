-- The contracts leave no choice: two answers that one contract allows are equal, and so is what they leave. Assumes nothing.
use mathlib.Core.Path.{◌≡◌, sym, ◌∙◌}
use mathlib.Core.List.{List}
use Prim.Native.Nat.{ℕ}
use Rattle.stores.specs.declared.Radio.{Radio}
use Rattle.radio.specs.declared.Doing.{Doing}
use Rattle.radio.specs.declared.Next.{Next}
use Rattle.radio.specs.Radio.{Outcome}
use Rattle.radio_c.specs.Leaves.{Leaves, LeavesBoth}

pub leaves_one : (n : Next) (a b : Radio) (c d : Doing) → Leaves a c n → Leaves b d n → (a ≡ b) × (c ≡ d)
leaves_one n a b c d p q = (p.0 ∙ sym q.0, p.1 ∙ sym q.1)

pub leaves_both_one : (o : Outcome) (a b : Radio) (c d : Doing) (x y : List ℕ) → LeavesBoth a c x o → LeavesBoth b d y o → (a ≡ b) × (c ≡ d) × (x ≡ y)
leaves_both_one o a b c d x y p q = let r = leaves_one o.next a b c d p.0 q.0 in (r.0, r.1, p.1 ∙ sym q.1)
