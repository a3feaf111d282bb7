-- The search for the first due number, row by row. Assumes nothing.
use mathlib.Core.Path.{◌≡◌}
use mathlib.Core.Bool.{true, false}
use mathlib.Core.List.{List}
use Prim.Native.Nat.{ℕ, suc, ◌+◌, ◌-◌, ◌≤◌, ◌<◌}
use native.Mathlib.Numerals.{add-one}
use native.Mathlib.Omega.{arith}
use Rattle.rows.specs.Rows.{number_at, record_at}
use Rattle.records.specs.Steps.{is_due}
use Rattle.rules.specs.Answers.{found, none_due}
use Rattle.rules.specs.Notices.{first_due}

module _ (t : List ℕ) (delay clock n i : ℕ) where
  one_row : i < n → n - i ≡ suc (n - (i + 1))
  one_row h = rw (← (add-one (n - (i + 1)))) (omega arith)

  pub due_here : i < n → is_due delay clock (record_at t i).notice ≡ true → first_due t delay clock (n - i) i ≡ found (number_at t i)
  unfolding first_due
  due_here h d = rw (one_row h, d)

  pub due_later : i < n → is_due delay clock (record_at t i).notice ≡ false → first_due t delay clock (n - i) i ≡ first_due t delay clock (n - (i + 1)) (i + 1)
  unfolding first_due
  due_later h d = rw (one_row h, d, add-one i)

  pub due_nowhere : n ≤ i → first_due t delay clock (n - i) i ≡ none_due
  unfolding first_due
  due_nowhere h = let z : n - i ≡ 0 = omega arith in rw z
