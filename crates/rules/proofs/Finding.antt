-- Finding returns the lowest due number, and none exactly if none is due. Assumes nothing.
use mathlib.Core.Path.{◌≡◌, refl, sym, ap, ◌∙◌}
use mathlib.Core.Logic.{◌↔◌, ⊎_elim}
use mathlib.Core.Bool.{Bool, true, false, cond}
use mathlib.Core.List.{List}
use Prim.Native.Nat.{ℕ, zero, suc, ◌+◌, ◌≤◌, ◌<◌}
use native.Mathlib.Omega.{arith}
use Rattle.answers.proofs.Tests.{no_path, less_or_not}
use Rattle.records.specs.Steps.{delay_allowed}
use Rattle.rows.specs.Rows.{number_at}
use Rattle.tables.specs.Tables.{table_sound, rows_in}
use Rattle.tables.proofs.Sound.{table_ascending}
use Rattle.rules.specs.Answers.{Answer, found, none_due}
use Rattle.rules.specs.Notices.{first_due, finding}
use Rattle.rules.specs.Finding.{due_at, LowestDue, NothingDue}

module _ (t : List ℕ) (delay clock : ℕ) where
  abbrev due : ℕ → Bool
  due = due_at t delay clock

  -- what the rows from i on answer, n of them
  data First (i n : ℕ) : Answer → Type 0 where
    at : (j : ℕ) → i ≤ j → j < i + n → due j ≡ true → ((m : ℕ) → i ≤ m → m < j → due m ≡ false) → First i n (found (number_at t j))
    nowhere : ((m : ℕ) → i ≤ m → m < i + n → due m ≡ false) → First i n none_due

  -- one row more in front, that is not due
  skip : (i n : ℕ) (a : Answer) → due i ≡ false → First (suc i) n a → First i (suc n) a
  skip i n a e (at j l m d before) = at j (omega arith) (omega arith) d (λ p q r. front p q (before p) r)
    where
      front : (p : ℕ) → i ≤ p → (suc i ≤ p → p < j → due p ≡ false) → p < j → due p ≡ false
      front p q rest r = ⊎_elim (λ h. rest h r) (λ h. let x : p ≡ i = omega arith in rw x e) (less_or_not i p)
  skip i n a e (nowhere none) = nowhere (λ p q r. ⊎_elim (λ h. none p h (omega arith)) (λ h. let x : p ≡ i = omega arith in rw x e) (less_or_not i p))

  first : (n i : ℕ) → First i n (first_due t delay clock n i)
  unfolding first_due
  first zero i = nowhere (λ m l h. absurd (omega arith))
  first (suc n) i = go (due i) refl (first n (suc i))
    where
      go : (b : Bool) → due i ≡ b → First (suc i) n (first_due t delay clock n (suc i))
          → First i (suc n) (cond b (found (number_at t i)) (first_due t delay clock n (suc i)))
      go true e rest = at i (omega arith) (omega arith) e (λ m l h. absurd (omega arith))
      go false e rest = skip i n _ e rest

module _ (t : List ℕ) (delay clock : ℕ) (sound : table_sound t ≡ true) (allowed : delay_allowed delay ≡ true) where
  abbrev Row : Answer → Type 0
  Row = First t delay clock 0 (rows_in t)

  found_first : Row (finding t delay clock)
  unfolding finding
  found_first = rw (sound, allowed) (first t delay clock (rows_in t) 0)

  -- an earlier row has a lower number
  in_order : (i j : ℕ) → i ≤ j → j < rows_in t → number_at t i ≤ number_at t j
  in_order i j l h =
      ⊎_elim (λ (q : i < j). let x = table_ascending t sound i j q h in omega arith) (λ (q : j ≤ i). let x : i ≡ j = omega arith in rw x (omega arith))
      (less_or_not i j)

  -- a row that is due does not stand before the first that is
  not_before : (i j : ℕ) → due t delay clock i ≡ true → ((m : ℕ) → 0 ≤ m → m < j → due t delay clock m ≡ false) → j ≤ i
  not_before i j d before = ⊎_elim (λ (q : i < j). no_path (sym (before i (omega arith) q) ∙ d)) (λ q. q) (less_or_not i j)

  lowest_of : (k : ℕ) {a : Answer} → Row a → a ≡ found k → LowestDue t delay clock k
  lowest_of k (at j l h d before) e =
      let n : number_at t j ≡ k = cc in
      record {
        row = j;
        within = omega arith;
        number = n;
        due = d;
        lowest = λ i il di. rw (← n) (in_order j i (not_before i j di before) il);
      }
  lowest_of k (nowhere none) e = absurd (let z : ◌≡◌ {A = ℕ} 0 1 = cc in omega arith)

  of_lowest : (k : ℕ) {a : Answer} → Row a → LowestDue t delay clock k → a ≡ found k
  of_lowest k (at j l h d before) low =
      let below = low.lowest j (omega arith) d in
      let above = in_order j low.row (not_before low.row j low.due before) low.within in
      ap found (omega (arith, low.number))
  of_lowest k (nowhere none) low = no_path (sym (none low.row (omega arith) (omega (arith, low.within))) ∙ low.due)

  -- "returns the lowest due number"
  pub finds_lowest : (k : ℕ) → (finding t delay clock ≡ found k) ↔ LowestDue t delay clock k
  finds_lowest k = (lowest_of k found_first, of_lowest k found_first)

  none_of : {a : Answer} → Row a → a ≡ none_due → NothingDue t delay clock
  none_of (at j l h d before) e = absurd (let z : ◌≡◌ {A = ℕ} 0 1 = cc in omega arith)
  none_of (nowhere none) e = λ i il. none i (omega arith) (omega arith)

  of_none : {a : Answer} → Row a → NothingDue t delay clock → a ≡ none_due
  of_none (at j l h d before) none = no_path (sym (none j (omega arith)) ∙ d)
  of_none (nowhere none) e = refl

  -- "or none exactly if none is due"
  pub finds_none : (finding t delay clock ≡ none_due) ↔ NothingDue t delay clock
  finds_none = (none_of found_first, of_none found_first)
