-- Rows that ascend by a key, and where a key stands among them: for every key function, so for every width of row. Assumes nothing.
use mathlib.Core.Path.{◌≡◌, refl, ap}
use mathlib.Core.Logic.{⊎_elim}
use mathlib.Core.Bool.{Bool, true, false}
use Prim.Native.Nat.{ℕ, zero, suc, ◌+◌, ◌≤◌, ◌<◌}
use native.Mathlib.Nat.{not-suc-le-zero, le_of_suc-le-suc, eq-or-lt_of_le}
use native.Mathlib.Numerals.{add-one}
use native.Mathlib.Omega.{arith}
use lib.Dec.{eqb, ltb}
use borrow.Author.Tests.{eq-eqb, ne_eqb, eqb-true, ltb-true}
use Rattle.answers.proofs.Tests.{and_left, and_right, and_no}
use Rattle.std.specs.Prelude.{Some, None}
use Rattle.tables.specs.Keys.{every, ascends, place_of}

-- ---- every row below n

module _ (test : ℕ → Bool) where
  pub every_more : (i : ℕ) → every test i ≡ true → test i ≡ true → every test (i + 1) ≡ true
  every_more i all here = rw add-one (simp (all, here))

  pub every_not : (n i : ℕ) → i < n → test i ≡ false → every test n ≡ false
  every_not zero i l e = absurd (not-suc-le-zero l)
  every_not (suc n) i l e =
      ⊎_elim (λ q. and_no (every test n) (test n) (rw q at e)) (λ h. rw (every_not n i h e)) (eq-or-lt_of_le (le_of_suc-le-suc l))

  pub every_at : (n : ℕ) → every test n ≡ true → (i : ℕ) → i < n → test i ≡ true
  every_at zero e i l = absurd (not-suc-le-zero l)
  every_at (suc n) e i l =
      ⊎_elim (λ q. rw q (and_right (every test n) (test n) e)) (every_at n (and_left (every test n) (test n) e) i) (eq-or-lt_of_le (le_of_suc-le-suc l))

  pub every_from : (n : ℕ) → ((i : ℕ) → i < n → test i ≡ true) → every test n ≡ true
  every_from zero h = refl
  every_from (suc n) h = simp (every_from n (λ i l. h i (omega arith)), h n (omega arith))

-- ---- the key before

-- what a scan has seen last: 0 before the first row
abbrev pub key_before : (ℕ → ℕ) → ℕ → ℕ
key_before k zero = 0
key_before k (suc i) = k i

pub before_next : (k : ℕ → ℕ) (i : ℕ) → k i ≡ key_before k (i + 1)
before_next k i = rw add-one refl

pub ascends_before : (k : ℕ → ℕ) (i : ℕ) → ascends k i ≡ ltb (key_before k i) (k i)
ascends_before k zero = refl
ascends_before k (suc i) = refl

pub ascends_same : (k l : ℕ → ℕ) (i : ℕ) → ((i : ℕ) → k i ≡ l i) → ascends k i ≡ ascends l i
ascends_same k l zero h = simp (h 0)
ascends_same k l (suc i) h = simp (h i, h (suc i))

-- ---- where a key stands

module _ (k : ℕ → ℕ) (wanted : ℕ) where
  pub place_none : (n : ℕ) → ((i : ℕ) → i < n → k i ≡ wanted → ⊥) → None ≡ place_of k wanted n
  unfolding place_of
  place_none zero h = refl
  place_none (suc n) h = simp (ne_eqb _ _ (h n (omega arith))) (place_none n (λ i l. h i (omega arith)))

  -- what is found is a row below n, and has the key
  pub place_found : (n i : ℕ) → place_of k wanted n ≡ Some i → (i < n) × (k i ≡ wanted)
  unfolding place_of
  place_found zero i e = absurd (let z : ◌≡◌ {A = ℕ} 0 1 = cc in omega arith)
  place_found (suc n) i e = go (eqb (k n) wanted) refl (place_found n i)
    where
      go : (b : Bool) → eqb (k n) wanted ≡ b → (place_of k wanted n ≡ Some i → (i < n) × (k i ≡ wanted)) → (i < suc n) × (k i ≡ wanted)
      go true q f = let h : n ≡ i = let a : Some n ≡ Some i = rw q at e in cc in (omega arith, rw (← h) (eqb-true (k n) wanted q))
      go false q f = let h = f (rw q at e) in let l = h.0 in (omega arith, h.1)

-- the place depends on the keys below n alone
pub place_same : (k l : ℕ → ℕ) (wanted n : ℕ) → ((i : ℕ) → i < n → k i ≡ l i) → place_of k wanted n ≡ place_of l wanted n
unfolding place_of
place_same k l wanted zero h = refl
place_same k l wanted (suc n) h = simp (h n (omega arith), place_same k l wanted n (λ i b. h i (omega arith)))

-- ---- keys that ascend

module _ (k : ℕ → ℕ) (n : ℕ) (sorted : every (ascends k) n ≡ true) where
  pub ascending : (p q : ℕ) → p < q → q < n → k p < k q
  ascending p zero l h = absurd (not-suc-le-zero l)
  ascending p (suc q) l h =
      let next = ltb-true (k q) (k (suc q)) (every_at (ascends k) n sorted (suc q) h) in
      ⊎_elim (λ x. rw x next) (λ x. let below = ascending p q x (omega arith) in omega arith) (eq-or-lt_of_le (le_of_suc-le-suc l))

  module _ (wanted : ℕ) where
    pub place_at : (i : ℕ) → i < n → k i ≡ wanted → Some i ≡ place_of k wanted n
    unfolding place_of
    place_at i l q = go n (omega arith) l
      where
        go : (m : ℕ) → m ≤ n → i < m → Some i ≡ place_of k wanted m
        go zero b l = absurd (not-suc-le-zero l)
        go (suc m) b l =
            ⊎_elim (λ x. let here : k m ≡ wanted = rw (← x) q in simp (eq-eqb _ _ here) (ap Some x))
            (λ x.
            let above = ascending i m x (omega arith) in
            let other : k m ≡ wanted → ⊥ = λ y. omega arith in
            simp (ne_eqb _ _ other) (go m (omega arith) x))
            (eq-or-lt_of_le (le_of_suc-le-suc l))
