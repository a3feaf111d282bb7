-- A text that begins with given characters: what stands behind them, and the test one character after the other. Assumes nothing.
use mathlib.Core.Path.{◌≡◌, refl, sym, ap, ◌∙◌}
use mathlib.Core.Bool.{Bool, true, false, ◌&&◌}
use mathlib.Core.Option.{some}
use mathlib.Core.List.{List, [], ◌∷◌, ◌++◌}
use Prim.Native.Nat.{ℕ, ◌≤◌, ◌<◌}
use native.Mathlib.Omega.{arith}
use lib.ListN.{length, get_or, drop, length-append, drop_of_length-le}
use lib.Seq.{drop-cons}
use lib.Dec.{eqb}
use Rattle.std.specs.List.{starts_with}
use borrow.Author.Tests.{eqb-true, eq-eqb, ne_eqb}
use Rattle.answers.proofs.Tests.{no_path, and_left, and_right}
use Rattle.answers.proofs.Checks.{only_if_some}
use Rattle.answers.specs.Begins.{begins, behind}

pub begins_only : (p s : List ℕ) → begins p s ≡ true → s ≡ p ++ drop (length p) s
unfolding begins
begins_only [] s e = refl
begins_only (c ∷ p) [] e = no_path e
begins_only (c ∷ p) (x ∷ s) e =
    let a = eqb-true x c (and_left (eqb x c) (begins p s) e) in
    let b = begins_only p s (and_right (eqb x c) (begins p s) e) in
    cc

pub begins_within : (p s : List ℕ) → begins p s ≡ true → length p ≤ length s
begins_within p s e = omega (arith, simp length-append at (ap length (begins_only p s e)))

pub behind_only : (p s : List ℕ) {rest : List ℕ} → behind p s ≡ some rest → s ≡ p ++ rest
behind_only p s e =
    let d = only_if_some (begins p s) e in
    begins_only p s d.0 ∙ ap (λ (l : List ℕ). p ++ l) d.1

-- ---- one character at a place

alone : (e : Bool) → (e && true) ≡ e
alone true = refl
alone false = refl

pub stands_not : (s : List ℕ) (i c : ℕ) → length s ≤ i → false ≡ begins (c ∷ []) (drop i s)
unfolding begins
stands_not s i c h = rw (drop_of_length-le s h)

pub stands_if : (s : List ℕ) (i c : ℕ) → i < length s → eqb (get_or s i 0) c ≡ begins (c ∷ []) (drop i s)
unfolding begins
stands_if s i c h = rw (drop-cons s i 0 h) (sym (alone (eqb (get_or s i 0) c)))

eqb_swap : (a b : ℕ) → eqb a b ≡ eqb b a
eqb_swap a b = go (eqb a b) (eqb b a) refl refl
  where
    go : (p q : Bool) → eqb a b ≡ p → eqb b a ≡ q → eqb a b ≡ eqb b a
    go true q e f = e ∙ sym (eq-eqb b a (sym (eqb-true a b e)))
    go false true e f = e ∙ sym (ne_eqb b a (λ (z : b ≡ a). no_path (sym e ∙ eq-eqb a b (sym z))))
    go false false e f = e ∙ sym f

-- the library's test, which compares one after the other too
pub begins_starts : (p s : List ℕ) → starts_with eqb s p ≡ begins p s
unfolding begins
begins_starts [] s = refl
begins_starts (c ∷ p) [] = refl
begins_starts (c ∷ p) (x ∷ s) = rw (begins_starts p s) (ap (λ (r : Bool). r && begins p s) (eqb_swap c x))
