-- The rows that a test leaves, for any test and any rows: which they are, that they ascend, and what is found among them. Assumes nothing.
use mathlib.Core.Path.{◌≡◌, refl, sym, ap, ◌∙◌}
use mathlib.Core.Logic.{◌⊎◌, ⊎_elim}
use mathlib.Core.Bool.{Bool, true, false, true≢false, cond}
use mathlib.Core.Option.{none, some, none-ne-some}
use mathlib.Core.List.Memᴰ
use mathlib.Core.List.{List, [], ◌∷◌, ◌++◌, Memᴰ, Sublistᴰ}
use Prim.Native.Nat.{ℕ, suc, ◌+◌, ◌≤◌}
use native.Mathlib.Omega.{arith}
use lib.ListN.{length}
use lib.Dec.{eqb, ltb}
use borrow.Author.Tests.{lt-ltb, eqb-true, ne_eqb}
use Rattle.answers.proofs.Tests.{and_left, and_right, and_both}
use Rattle.rows.specs.Rows.{row_sound, one}
use Rattle.timetable.specs.Moving.{number_of, kept_by}
use Rattle.timetable.proofs.Lists.{ascend, all_sound, many, found, first_above, rest_ascends}
use Rattle.timetable.proofs.Packing.{kept_append}

-- ---- rows that ascend

pub ascends_lower : (a b : ℕ) (rs : List (List ℕ)) → a ≤ b → ascend b rs ≡ true → ascend a rs ≡ true
ascends_lower a b [] l h = refl
ascends_lower a b (r ∷ rs) l h =
    let f = first_above b r rs h in and_both (ltb a (number_of r)) (ascend (number_of r) rs) (lt-ltb a (number_of r) (omega arith)) (rest_ascends b r rs h)

-- a number up to `last` has no row
found_low : (m last : ℕ) (rs : List (List ℕ)) → m ≤ last → ascend last rs ≡ true → found m rs ≡ none
found_low m last [] l h = refl
found_low m last (r ∷ rs) l h =
    let f = first_above last r rs h in rw (ne_eqb (number_of r) m (λ e. omega arith)) (found_low m (number_of r) rs (omega arith) (rest_ascends last r rs h))

module _ (test : List ℕ → Bool) where
  -- ---- which rows went, and which stayed

  -- a row that passes goes, whatever stands around it
  pub row_goes : (before : List (List ℕ)) (r : List ℕ) (behind : List (List ℕ)) → test r ≡ true
      → kept_by test (before ++ r ∷ behind) ≡ kept_by test before ++ kept_by test behind
  row_goes before r behind e = kept_append test before (r ∷ behind) ∙ rw e

  -- every other row stays, behind what is kept of those before it and before what is kept of those behind it
  pub row_stays : (before : List (List ℕ)) (r : List ℕ) (behind : List (List ℕ)) → test r ≡ false
      → kept_by test (before ++ r ∷ behind) ≡ kept_by test before ++ r ∷ kept_by test behind
  row_stays before r behind e = kept_append test before (r ∷ behind) ∙ rw e

  -- the order is the old one
  pub kept_order : (rs : List (List ℕ)) → Sublistᴰ (kept_by test rs) rs
  kept_order [] = Sublistᴰ.slnil
  kept_order (r ∷ rs) = go (test r) (kept_order rs)
    where
      go : (b : Bool) → Sublistᴰ (kept_by test rs) rs → Sublistᴰ (cond b (kept_by test rs) (r ∷ kept_by test rs)) (r ∷ rs)
      go true s = Sublistᴰ.cons s
      go false s = Sublistᴰ.cons-cons refl s

  -- a row is kept if and only if it was there and does not pass
  pub kept_was : (r : List ℕ) (rs : List (List ℕ)) → Memᴰ r (kept_by test rs) → Memᴰ r rs × (test r ≡ false)
  kept_was r [] m = absurd (Memᴰ.not-nil m)
  kept_was r (x ∷ rs) m = go (test x) refl m (kept_was r rs)
    where
      go : (b : Bool) → test x ≡ b → Memᴰ r (cond b (kept_by test rs) (x ∷ kept_by test rs)) → (Memᴰ r (kept_by test rs) → Memᴰ r rs × (test r ≡ false))
          → Memᴰ r (x ∷ rs) × (test r ≡ false)
      go true q m ih = (Memᴰ.tail (ih m).0, (ih m).1)
      go false q m ih = ⊎_elim (λ e. (Memᴰ.head e, rw e q)) (λ n. (Memᴰ.tail (ih n).0, (ih n).1)) (Memᴰ.cases_cons m)

  pub was_kept : (r : List ℕ) (rs : List (List ℕ)) → Memᴰ r rs → test r ≡ false → Memᴰ r (kept_by test rs)
  was_kept r [] m f = absurd (Memᴰ.not-nil m)
  was_kept r (x ∷ rs) m f = go (test x) refl (Memᴰ.cases_cons m) (was_kept r rs)
    where
      go : (b : Bool) → test x ≡ b → (r ≡ x) ⊎ Memᴰ r rs → (Memᴰ r rs → test r ≡ false → Memᴰ r (kept_by test rs)) → Memᴰ r (cond b (kept_by test rs) (x ∷ kept_by test rs))
      go true q o ih = ⊎_elim (λ e. absurd (true≢false (sym q ∙ sym (ap test e) ∙ f))) (λ n. ih n f) o
      go false q o ih = ⊎_elim (λ e. Memᴰ.head e) (λ n. Memᴰ.tail (ih n f)) o

  -- ---- ascending rows stay ascending

  pub kept_ascends : (last : ℕ) (rs : List (List ℕ)) → ascend last rs ≡ true → ascend last (kept_by test rs) ≡ true
  kept_ascends last [] h = refl
  kept_ascends last (r ∷ rs) h = go (test r) (kept_ascends (number_of r) rs (rest_ascends last r rs h))
    where
      go : (b : Bool) → ascend (number_of r) (kept_by test rs) ≡ true → ascend last (cond b (kept_by test rs) (r ∷ kept_by test rs)) ≡ true
      go true ih = let f = first_above last r rs h in ascends_lower last (number_of r) (kept_by test rs) (omega arith) ih
      go false ih = and_both (ltb last (number_of r)) (ascend (number_of r) (kept_by test rs)) (and_left (ltb last (number_of r)) (ascend (number_of r) rs) h) ih

  -- ---- what is found afterwards

  -- the row of a number, where it does not pass, is the same words
  pub found_stays : (m : ℕ) (rs : List (List ℕ)) (r : List ℕ) → found m rs ≡ some r → test r ≡ false → found m (kept_by test rs) ≡ some r
  found_stays m [] r e f = absurd (none-ne-some r e)
  found_stays m (x ∷ rs) r e f = go (eqb (number_of x) m) refl (test x) refl (found_stays m rs r)
    where
      go : (h : Bool) → eqb (number_of x) m ≡ h → (b : Bool) → test x ≡ b → (found m rs ≡ some r → test r ≡ false → found m (kept_by test rs) ≡ some r)
          → found m (cond (test x) (kept_by test rs) (x ∷ kept_by test rs)) ≡ some r
      go true p true q ih = absurd (let s : some x ≡ some r = rw p at e in true≢false (cc))
      go true p false q ih = rw (q, p) (rw p at e)
      go false p true q ih = rw q (ih (rw p at e) f)
      go false p false q ih = rw (q, p) (ih (rw p at e) f)

  -- a number without a row has none
  pub found_none : (m : ℕ) (rs : List (List ℕ)) → found m rs ≡ none → found m (kept_by test rs) ≡ none
  found_none m [] e = refl
  found_none m (x ∷ rs) e = go (eqb (number_of x) m) refl (test x) (found_none m rs)
    where
      go : (h : Bool) → eqb (number_of x) m ≡ h → (b : Bool) → (found m rs ≡ none → found m (kept_by test rs) ≡ none) → found m (cond b (kept_by test rs) (x ∷ kept_by test rs)) ≡ none
      go true p b ih = absurd (none-ne-some x (sym (rw p at e)))
      go false p true ih = ih (rw p at e)
      go false p false ih = rw p (ih (rw p at e))

  -- where the row passes, the number has no row any more
  pub found_goes : (m last : ℕ) (rs : List (List ℕ)) (r : List ℕ) → ascend last rs ≡ true → found m rs ≡ some r → test r ≡ true → found m (kept_by test rs) ≡ none
  found_goes m last [] r a e f = refl
  found_goes m last (x ∷ rs) r a e f = go (eqb (number_of x) m) refl (test x) refl (found_goes m (number_of x) rs r (rest_ascends last x rs a))
    where
      go : (h : Bool) → eqb (number_of x) m ≡ h → (b : Bool) → test x ≡ b → (found m rs ≡ some r → test r ≡ true → found m (kept_by test rs) ≡ none)
          → found m (cond (test x) (kept_by test rs) (x ∷ kept_by test rs)) ≡ none
      go true p true q ih =
          let k = eqb-true (number_of x) m p in rw q (found_none m rs (found_low m (number_of x) rs (omega arith) (rest_ascends last x rs a)))
      go true p false q ih = absurd (let s : some x ≡ some r = rw p at e in true≢false (cc))
      go false p true q ih = rw q (ih (rw p at e) f)
      go false p false q ih = rw (q, p) (ih (rw p at e) f)

  -- ---- sound rows stay sound, and what no row that goes is counted in stays

  pub kept_sound : (rs : List (List ℕ)) → all_sound rs ≡ true → all_sound (kept_by test rs) ≡ true
  kept_sound [] h = refl
  kept_sound (r ∷ rs) h = go (test r) (kept_sound rs (and_right (row_sound r 0) (all_sound rs) h))
    where
      go : (b : Bool) → all_sound (kept_by test rs) ≡ true → all_sound (cond b (kept_by test rs) (r ∷ kept_by test rs)) ≡ true
      go true ih = ih
      go false ih = and_both (row_sound r 0) (all_sound (kept_by test rs)) (and_left (row_sound r 0) (all_sound rs) h) ih

  pub kept_many : (other : List ℕ → Bool) → ((r : List ℕ) → test r ≡ true → other r ≡ false) → (rs : List (List ℕ)) → many other (kept_by test rs) ≡ many other rs
  kept_many other apart [] = refl
  kept_many other apart (r ∷ rs) = go (test r) refl (kept_many other apart rs)
    where
      go : (b : Bool) → test r ≡ b → many other (kept_by test rs) ≡ many other rs → many other (cond b (kept_by test rs) (r ∷ kept_by test rs)) ≡ one (other r) + many other rs
      go true e ih = omega (arith, ih, ap one (apart r e))
      go false e ih = omega (arith, ih)

  -- the rows that stay and those that go are all
  pub kept_count : (rs : List (List ℕ)) → length (kept_by test rs) + many test rs ≡ length rs
  kept_count [] = refl
  kept_count (r ∷ rs) = go (test r) (kept_count rs)
    where
      go : (b : Bool) → length (kept_by test rs) + many test rs ≡ length rs → length (cond b (kept_by test rs) (r ∷ kept_by test rs)) + (one b + many test rs) ≡ suc (length rs)
      go true ih = omega arith
      go false ih = omega arith

  -- a row that goes is one of them
  pub found_counts : (m : ℕ) (rs : List (List ℕ)) (r : List ℕ) → found m rs ≡ some r → test r ≡ true → 1 ≤ many test rs
  found_counts m [] r e f = absurd (none-ne-some r e)
  found_counts m (x ∷ rs) r e f = go (eqb (number_of x) m) refl (found_counts m rs r)
    where
      go : (h : Bool) → eqb (number_of x) m ≡ h → (found m rs ≡ some r → test r ≡ true → 1 ≤ many test rs) → 1 ≤ one (test x) + many test rs
      go true p ih = let s : some x ≡ some r = rw p at e in let q : test x ≡ true = cc in rw q (omega arith)
      go false p ih = omega (arith, ih (rw p at e) f)
