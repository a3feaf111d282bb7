-- What is stored of one number, at the end of a round. Assumes nothing.
use mathlib.Core.Path.{◌≡◌, refl, sym, ◌∙◌}
use mathlib.Core.Bool.{Bool, true, false, not, cond, ◌||◌}
use mathlib.Core.Option.{Option, none, some}
use mathlib.Core.List.{List, [], ◌∷◌, ◌++◌, map}
use Prim.Native.Nat.{ℕ}
use lib.Dec.{eqb}
use borrow.Author.Tests.{eqb-true, not-true}
use Rattle.answers.proofs.Tests.{no_path, and_left, and_right, or_right, or_neither}
use Rattle.crews.specs.Crews.{is_in}
use Rattle.stores.specs.declared.Entry.{Entry}
use Rattle.stores.specs.declared.Verdict.{Verdict}
use Rattle.stores.specs.declared.Verdict.TheVariants.{Keeps, Drops, Unsure}
use Rattle.stores.specs.Stores.{has, none_twice, entry_of, answered, new_entry}
use Rattle.rounds.specs.Rounds.{numbers_that, entry_for}
use Rattle.joined.specs.Joined.{became}

-- ---- stored or not

pub entry_none : (n : ℕ) (es : List Entry) → has n es ≡ false → entry_for n es ≡ none
unfolding has entry_for
entry_none n [] h = refl
entry_none n (e ∷ es) h = let o = or_neither (eqb e.number n) (has n es) h in rw o.0 (entry_none n es o.1)

has_append : (n : ℕ) (front back : List Entry) → has n back ≡ true → has n (front ++ back) ≡ true
unfolding has
has_append n [] back h = h
has_append n (e ∷ front) back h = or_right (eqb e.number n) (has n (front ++ back)) (has_append n front back h)

-- where none comes twice, what is stored last is not stored before
pub apart : (n : ℕ) (front back : List Entry) → none_twice (front ++ back) ≡ true → has n back ≡ true → has n front ≡ false
unfolding has none_twice
apart n [] back t h = refl
apart n (e ∷ front) back t h =
    go (eqb e.number n) refl (apart n front back (and_right (not (has e.number (front ++ back))) (none_twice (front ++ back)) t) h)
  where
    go : (b : Bool) → eqb e.number n ≡ b → has n front ≡ false → (b || has n front) ≡ false
    go true q rest =
        let others = not-true (has e.number (front ++ back)) (and_left (not (has e.number (front ++ back))) (none_twice (front ++ back)) t) in
        no_path (sym others ∙ rw (eqb-true e.number n q) (has_append n front back h))
    go false q rest = rest

-- ---- in two lists, one behind the other

abbrev pub or_else : Option Entry → Option Entry → Option Entry
or_else none o = o
or_else (some e) o = some e

pub entry_append : (n : ℕ) (front back : List Entry) → entry_for n (front ++ back) ≡ or_else (entry_for n front) (entry_for n back)
unfolding entry_for
entry_append n [] back = refl
entry_append n (e ∷ front) back = go (eqb e.number n) (entry_append n front back)
  where
    go : (b : Bool) → entry_for n (front ++ back) ≡ or_else (entry_for n front) (entry_for n back)
        → cond b (some e) (entry_for n (front ++ back)) ≡ or_else (cond b (some e) (entry_for n front)) (entry_for n back)
    go true rest = refl
    go false rest = rest

or_none : (o : Option Entry) → or_else o none ≡ o
or_none none = refl
or_none (some e) = refl

-- ---- a number that was stored before the notice

-- what a verdict leaves of it
abbrev pub left_of : Verdict → ℕ → Option Entry
left_of Keeps n = some (entry_of n 0 0)
left_of Drops n = none
left_of Unsure n = some (entry_of n 1 0)

abbrev pub became_of : (ℕ → Bool) → (ℕ → Verdict) → ℕ → Option Entry → Option Entry
became_of due v n none = none
became_of due v n (some e) = cond (due n) (left_of (v n) n) (some (entry_of n e.unsure 0))

module _ (due : ℕ → Bool) (v : ℕ → Verdict) (n : ℕ) where
  -- of another number's entry nothing
  other_fate : (b : Bool) (w : Verdict) (e : Entry) → eqb e.number n ≡ false → entry_for n (cond b (answered w e) (entry_of e.number e.unsure 0 ∷ [])) ≡ none
  unfolding entry_for
  other_fate true Keeps e h = rw h
  other_fate true Drops e h = refl
  other_fate true Unsure e h = rw h
  other_fate false w e h = rw h

  own_fate : (b : Bool) (w : Verdict) (e : Entry) → eqb e.number n ≡ true
      → entry_for n (cond b (answered w e) (entry_of e.number e.unsure 0 ∷ [])) ≡ cond b (left_of w n) (some (entry_of n e.unsure 0))
  unfolding entry_for
  own_fate true Keeps e h = rw (h, eqb-true e.number n h)
  own_fate true Drops e h = refl
  own_fate true Unsure e h = rw (h, eqb-true e.number n h)
  own_fate false w e h = rw (h, eqb-true e.number n h)

  pub entry_became : (es : List Entry) → none_twice es ≡ true → entry_for n (became due v es) ≡ became_of due v n (entry_for n es)
  unfolding became entry_for none_twice
  entry_became [] t = refl
  entry_became (e ∷ es) t =
      entry_append n (cond (due e.number) (answered (v e.number) e) (entry_of e.number e.unsure 0 ∷ [])) (became due v es)
      ∙ go (eqb e.number n) refl (entry_became es (and_right (not (has e.number es)) (none_twice es) t))
    where
      go : (b : Bool) → eqb e.number n ≡ b → entry_for n (became due v es) ≡ became_of due v n (entry_for n es)
          → or_else (entry_for n (cond (due e.number) (answered (v e.number) e) (entry_of e.number e.unsure 0 ∷ []))) (entry_for n (became due v es))
          ≡ became_of due v n (cond b (some e) (entry_for n es))
      go true q rest =
          let same = eqb-true e.number n q in
          let others = not-true (has e.number es) (and_left (not (has e.number es)) (none_twice es) t) in
          let once : entry_for n (became due v es) ≡ none = rest ∙ rw (entry_none n es (rw same at others)) in
          rw (own_fate (due e.number) (v e.number) e q, once, same) (or_none (cond (due n) (left_of (v n) n) (some (entry_of n e.unsure 0))))
      go false q rest = rw (other_fate (due e.number) (v e.number) e q, rest)

-- a number that is due was stored
pub due_known : (due : ℕ → Bool) (es : List Entry) (n : ℕ) → is_in n (numbers_that due es) ≡ true → (e : Entry) × (entry_for n es ≡ some e) × (due n ≡ true)
unfolding is_in numbers_that entry_for
due_known due [] n h = no_path h
due_known due (e ∷ es) n h = go (due e.number) (eqb e.number n) refl refl h (due_known due es n)
  where
    go :
        (a b : Bool) → due e.number ≡ a → eqb e.number n ≡ b → is_in n (cond a (e.number ∷ numbers_that due es) (numbers_that due es)) ≡ true
        → (is_in n (numbers_that due es) ≡ true → (x : Entry) × (entry_for n es ≡ some x) × (due n ≡ true))
        → (x : Entry) × (cond b (some e) (entry_for n es) ≡ some x) × (due n ≡ true)
    go true true p q h rest = (e, refl, rw (eqb-true e.number n q) at p)
    go true false p q h rest = rest (rw q at h)
    go false true p q h rest = (e, refl, (rest h).2)
    go false false p q h rest = rest h

-- ---- a number that was newly stored

pub has_new_entry : (n : ℕ) (ns : List ℕ) → has n (map new_entry ns) ≡ is_in n ns
unfolding has is_in
has_new_entry n [] = refl
has_new_entry n (m ∷ ns) = rw (has_new_entry n ns)

pub entry_new_entry : (n : ℕ) (ns : List ℕ) → is_in n ns ≡ true → entry_for n (map new_entry ns) ≡ some (new_entry n)
unfolding is_in entry_for
entry_new_entry n [] h = no_path h
entry_new_entry n (m ∷ ns) h = go (eqb m n) refl h (entry_new_entry n ns)
  where
    go : (b : Bool) → eqb m n ≡ b → (b || is_in n ns) ≡ true → (is_in n ns ≡ true → entry_for n (map new_entry ns) ≡ some (new_entry n))
        → cond b (some (new_entry m)) (entry_for n (map new_entry ns)) ≡ some (new_entry n)
    go true q h rest = rw (eqb-true m n q)
    go false q h rest = rest h
