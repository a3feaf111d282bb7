-- Stored numbers with a verdict for each that is still to be asked: what the calls make of them. Assumes nothing.
use mathlib.Core.Path.{◌≡◌, refl, sym, ap}
use mathlib.Core.Bool.{Bool, true, false, cond}
use mathlib.Core.List.{List, [], ◌∷◌, ◌++◌, map, append_assoc, map-append, cons≢nil}
use Prim.Native.Nat.{ℕ}
use lib.Dec.{eqb}
use Rattle.stores.specs.declared.Entry.{Entry}
use Rattle.stores.specs.declared.Verdict.{Verdict}
use Rattle.stores.specs.declared.Verdict.TheVariants.{Keeps, Drops, Unsure}
use Rattle.stores.specs.Stores.{is_to_ask, open_of, entry_of, begun, answered, settled, new_entry}
use Rattle.rounds.specs.Rounds.{to_ask}
use Rattle.joined.specs.Joined.{became}

-- each number that is to be asked, answered by its verdict
unfoldable pub resolved : (ℕ → Verdict) → List Entry → List Entry
resolved v [] = []
resolved v (e ∷ es) = cond (is_to_ask e) (answered (v e.number) e) (e ∷ []) ++ resolved v es

module _ (v : ℕ → Verdict) where
  -- an answered one is not asked again
  resolved_answered : (w : Verdict) (e : Entry) (es : List Entry) → resolved v (answered w e ++ es) ≡ answered w e ++ resolved v es
  unfolding resolved
  resolved_answered Keeps e es = refl
  resolved_answered Drops e es = refl
  resolved_answered Unsure e es = refl

  -- the open question's answer is the first of them
  pub resolved_settled : (es : List Entry) → resolved v (settled (v (open_of es)) es) ≡ resolved v es
  unfolding resolved settled open_of
  resolved_settled [] = refl
  resolved_settled (e ∷ es) = go (is_to_ask e) refl (resolved_settled es)
    where
      go : (b : Bool) → is_to_ask e ≡ b → resolved v (settled (v (open_of es)) es) ≡ resolved v es
          → resolved v (cond b (answered (v (cond b e.number (open_of es))) e ++ es) (e ∷ settled (v (cond b e.number (open_of es))) es))
          ≡ cond b (answered (v e.number) e) (e ∷ []) ++ resolved v es
      go true t rest = resolved_answered (v e.number) e es
      go false t rest = rw (t, rest)

  -- new ones stay
  pub resolved_new : (es : List Entry) (ns : List ℕ) → resolved v (es ++ map new_entry ns) ≡ resolved v es ++ map new_entry ns
  unfolding resolved
  resolved_new [] [] = refl
  resolved_new [] (n ∷ ns) = ap (λ (l : List Entry). new_entry n ∷ l) (resolved_new [] ns)
  resolved_new (e ∷ es) ns = rw (resolved_new es ns) (sym (append_assoc (cond (is_to_ask e) (answered (v e.number) e) (e ∷ [])) (resolved v es) (map new_entry ns)))

  -- and where nothing is to be asked, all do
  pub resolved_none : (es : List Entry) → to_ask es ≡ [] → resolved v es ≡ es
  unfolding resolved to_ask
  resolved_none [] h = refl
  resolved_none (e ∷ es) h = go (is_to_ask e) h (resolved_none es)
    where
      go : (b : Bool) → cond b (e.number ∷ to_ask es) (to_ask es) ≡ [] → (to_ask es ≡ [] → resolved v es ≡ es)
          → cond b (answered (v e.number) e) (e ∷ []) ++ resolved v es ≡ e ∷ es
      go true h rest = absurd (cons≢nil h)
      go false h rest = rw (rest h)

  -- at the notice
  pub resolved_begun : (due : ℕ → Bool) (es : List Entry) → resolved v (begun due es) ≡ became due v es
  unfolding resolved begun became
  resolved_begun due [] = refl
  resolved_begun due (e ∷ es) = go (due e.number) (v e.number) (resolved_begun due es)
    where
      go : (b : Bool) (w : Verdict) → resolved v (begun due es) ≡ became due v es
          → cond (eqb (cond b 1 0) 1) (answered w (entry_of e.number e.unsure (cond b 1 0))) (entry_of e.number e.unsure (cond b 1 0) ∷ []) ++ resolved v (begun due es)
          ≡ cond b (answered w e) (entry_of e.number e.unsure 0 ∷ []) ++ became due v es
      go true Keeps rest = rw rest
      go true Drops rest = rest
      go true Unsure rest = rw rest
      go false w rest = rw rest

-- new ones, one after the other
pub new_more : (es : List Entry) (ms ns : List ℕ) → (es ++ map new_entry ms) ++ map new_entry ns ≡ es ++ map new_entry (ms ++ ns)
new_more es ms ns = simp (append_assoc, map-append)

-- they are not to be asked
pub ask_new_entry : (es : List Entry) (ns : List ℕ) → to_ask (es ++ map new_entry ns) ≡ to_ask es
unfolding to_ask
ask_new_entry [] [] = refl
ask_new_entry [] (n ∷ ns) = ask_new_entry [] ns
ask_new_entry (e ∷ es) ns = rw (ask_new_entry es ns)
