use mathlib.Core.Path.{◌≡◌, refl}
use mathlib.Core.List.{List}
use Prim.Native.Nat.{ℕ, ◌+◌, ◌%◌}
use native.Mathlib.Omega.{arith}
use borrow.Author.Rules.{rules}
use borrow.Author.Tests.{ne_eqb}
use Rattle.rows.specs.Rows.{phase_at, one}
use Rattle.rows.proofs.Rows.{flag_word}
use Rattle.tables.specs.declared.Figures.{Figures}
use Rattle.tables.specs.Figures.{is_held_at, waits_at, flies_at, with_row}
use Rattle.tables.proofs.Counts.{one_most}
use Rattle.tables.proofs.count_row.Statement.{statement}
use Rattle.tables.proofs.count_row.Tie as tie

bounds-words-1 : tie.Need-bounds-words-1
bounds-words-1 c = search rules

from-requires : tie.Need-from-requires
from-requires c κs = search rules

overflow_add-held : tie.Need-overflow_add-held
overflow_add-held c = omega (arith, c.from.ensures, flag_word (is_held_at c.args.words.now 0), one_most (is_held_at c.args.words.now 0))

bounds-words-2 : tie.Need-bounds-words-2
bounds-words-2 c = search rules

-- what a row counts, by its phase
module _ (t : List ℕ) where
  absent : phase_at t 0 ≡ 0 → (one (waits_at t 0) ≡ 0) × (one (flies_at t 0) ≡ 0)
  absent e = rw e (refl, refl)

  odd : phase_at t 0 % 2 ≡ 1 → (one (waits_at t 0) ≡ 1) × (one (flies_at t 0) ≡ 0)
  odd e = rw e (refl, refl)

  even : (phase_at t 0 ≡ 0 → ⊥) → (phase_at t 0 % 2 ≡ 1 → ⊥) → (one (waits_at t 0) ≡ 0) × (one (flies_at t 0) ≡ 1)
  even some not-odd = let e : phase_at t 0 % 2 ≡ 0 = omega arith in rw (e, ne_eqb (phase_at t 0) 0 some) (refl, refl)

  counted : (f : Figures) (held waiting flying : ℕ) → held ≡ f.held + one (is_held_at t 0) → waiting ≡ f.waiting + one (waits_at t 0) → flying ≡ f.flying + one (flies_at t 0)
      → ◌≡◌ {A = Figures} (record { held = held; waiting = waiting; flying = flying }) (with_row f t 0)
  counted f held waiting flying h w k = rw (h, w, k) refl

returns-then-phase-eq0 : tie.Need-returns-then-phase-eq0
returns-then-phase-eq0 c =
    let a = c.args in
    let n = absent a.words.now c.if-phase-eq0.true in
    counted a.words.now a.figures _ _ _ (omega (arith, c.from.ensures, flag_word (is_held_at c.args.words.now 0))) (omega (arith, n.0)) (omega (arith, n.1))

overflow_add-result : tie.Need-overflow_add-result
overflow_add-result c = search rules

returns-then-phase-eq1 : tie.Need-returns-then-phase-eq1
returns-then-phase-eq1 c =
    let a = c.args in
    let n = odd a.words.now c.if-phase-eq1.true in
    counted a.words.now a.figures _ _ _ (omega (arith, c.from.ensures, flag_word (is_held_at c.args.words.now 0))) (omega (arith, n.0)) (omega (arith, n.1))

overflow_add-result-2 : tie.Need-overflow_add-result-2
overflow_add-result-2 c = search rules

returns : tie.Need-returns
returns c =
    let a = c.args in
    let n = even a.words.now c.if-phase-eq0.false c.if-phase-eq1.false in
    counted a.words.now a.figures _ _ _ (omega (arith, c.from.ensures, flag_word (is_held_at c.args.words.now 0))) (omega (arith, n.0)) (omega (arith, n.1))

pub count_row_spec : {M : Type 1} → statement M
count_row_spec =
    tie.close
    (tie.spec
    bounds-words-1
    from-requires
    overflow_add-held
    bounds-words-2
    returns-then-phase-eq0
    overflow_add-result
    returns-then-phase-eq1
    overflow_add-result-2
    returns)
