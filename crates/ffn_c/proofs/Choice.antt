-- The C functions leave no choice: two outcomes that a contract allows are equal, the struct, the table, the figures and every octet; of the image's reader, `left_one` of `image` says so. Assumes nothing.
use mathlib.Core.Path.{◌≡◌, sym, ap, ◌∙◌}
use mathlib.Core.List.{List}
use Prim.Native.Nat.{ℕ}
use Rattle.ffn_c.specs.Calls.{Returned, returning}

-- a struct, a table, figures and a buffer that one outcome allows are its own; [] stands for what is not lent
pub returned_one : {S : Type 0} {a b : S} {t u f g d e : List ℕ} {o : Returned S} → returning a t f d ≡ o → returning b u g e ≡ o → (a ≡ b) × (t ≡ u) × (f ≡ g) × (d ≡ e)
returned_one {S} p q =
    let r = p ∙ sym q in
    (ap (λ (x : Returned S). x.answer) r, ap (λ (x : Returned S). x.table) r, ap (λ (x : Returned S). x.figures) r, ap (λ (x : Returned S). x.buffer) r)
