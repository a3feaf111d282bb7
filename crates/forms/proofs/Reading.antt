-- What a field's reader tells in each case of its answer. Assumes nothing.
use mathlib.Core.Path.{◌≡◌, refl, sym, ap, ◌∙◌}
use mathlib.Core.Bool.{Bool, true, false, ◌&&◌}
use mathlib.Core.Option.{Option, none, some}
use mathlib.Core.List.{List}
use Prim.Native.Nat.{ℕ, ◌<◌}
use native.Mathlib.Omega.{arith}
use lib.Dec.{ltb}
use borrow.Author.Tests.{ltb-true}
use Rattle.answers.specs.Checks.{only_if}
use Rattle.answers.proofs.Tests.{and_right}
use Rattle.numbers.specs.Numbers.{pushed}
use Rattle.std.specs.Prelude as core
use Rattle.std.specs.Prelude.{Some, None}
use Rattle.forms.specs.declared.Line.{Line}
use Rattle.forms.specs.Lines.{is_digits, value_below, Form}
use Rattle.forms.specs.Reads.{value_in, Reads}

pub is_value : (r : core.Option ℕ) (v : ℕ) {x : Option ℕ} → value_in r ≡ x → r ≡ Some v → x ≡ some v
is_value r v e told = sym e ∙ ap value_in told

pub is_none_lem : (r : core.Option ℕ) {x : Option ℕ} → value_in r ≡ x → r ≡ None → x ≡ none
is_none_lem r e told = sym e ∙ ap value_in told

pub value_fits : (limit : ℕ) (s : List ℕ) (v : ℕ) → value_below limit s ≡ some v → v < limit
unfolding value_below
value_fits limit s v = go (is_digits s && ltb (pushed 0 s) limit) refl
  where
    go : (b : Bool) → (is_digits s && ltb (pushed 0 s) limit) ≡ b → only_if b (pushed 0 s) ≡ some v → v < limit
    go true t e = let p : pushed 0 s ≡ v = cc in omega (arith, ltb-true (pushed 0 s) limit (and_right (is_digits s) _ t))
    go false t e = absurd (let z : ◌≡◌ {A = ℕ} 0 1 = cc in omega arith)

pub reads_as : {rest : List ℕ} {answer : core.Option Line} {f g : Option Form} → Reads rest answer f → f ≡ g → Reads rest answer g
reads_as r e = record { form = r.form ∙ e; within = r.within }
