-- The writers leave no choice: two answers and frames that a contract allows are equal. Assumes nothing.
use mathlib.Core.Path.{◌≡◌}
use mathlib.Core.List.{List}
use Prim.Native.Nat.{ℕ}
use Rattle.answers.specs.Writing.{made_write, Stands}
use Rattle.std.specs.Prelude.{Result}
use Rattle.answers.specs.declared.Refusal.{Refusal}
use Rattle.answers.proofs.Writing.{made_one, stands_one}
use Rattle.strings.specs.Text.{Request}
use Rattle.frames.specs.Components.{Component}
use Rattle.frames.specs.Messages.{inverted, release}
use Rattle.framers.specs.Written.{writing_register}

pub write_register_one :
    (transaction number : ℕ) (f : Request) (old : List ℕ) (v w : Result ℕ Refusal) (a b : List ℕ) → made_write v a ≡ writing_register transaction number f old
    → made_write w b ≡ writing_register transaction number f old → (v ≡ w) × (a ≡ b)
write_register_one transaction number f old v w a b p q = made_one v w a b p q

-- of a result, an error and a Reject
pub write_release_one :
    (first : ℕ) (c : Component) (old : List ℕ) (n m : ℕ) (a b : List ℕ) → Stands (release (inverted first) c) old n a
    → Stands (release (inverted first) c) old m b → (n ≡ m) × (a ≡ b)
write_release_one first c old n m a b p q = stands_one p q
