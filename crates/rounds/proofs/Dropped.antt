-- A number is dropped only by an accepted reply to its own question. Assumes nothing.
use mathlib.Core.Path.{◌≡◌, refl, sym, ap, ◌∙◌}
use mathlib.Core.Bool.{Bool, true, false, cond, or-false, true≢false}
use mathlib.Core.List.{List, [], ◌∷◌, ◌++◌}
use Prim.Native.Nat.{ℕ}
use lib.Dec.{eqb}
use borrow.Author.Tests.{eqb-true, eqb-false}
use Rattle.answers.proofs.Tests.{no_path, or_neither}
use Rattle.stores.specs.declared.Entry.{Entry}
use Rattle.stores.specs.declared.Radio.{Radio}
use Rattle.stores.specs.declared.Verdict.{Verdict}
use Rattle.stores.specs.declared.Verdict.TheVariants.{Keeps, Drops, Unsure}
use Rattle.stores.specs.Stores.{entries_in, is_to_ask, has, open_of, with_new, is_due, answered, settled}
use Rattle.radio.specs.Radio.{notice_of, verdict_of}
use Rattle.rounds.specs.Rounds.{Call, store, notice, reply, calling, end, is_accepted}
use Rattle.rounds.specs.Promised.{WasAsked, DroppedBy, DroppedIn, AskedAndDropped}
use Rattle.rounds.proofs.Entries.{has_new, has_begun}
use Rattle.rounds.proofs.Calls.{stored_by, call_stores, accepted_fits}
use Rattle.rounds.proofs.Asked.{was_asked}

-- a number that an answer drops was asked
settled_drops : (v : Verdict) (es : List Entry) (n : ℕ) → has n es ≡ true → has n (settled v es) ≡ false → (open_of es ≡ n) × (v ≡ Drops)
unfolding has open_of settled
settled_drops v [] n h g = no_path h
settled_drops v (e ∷ es) n h g = go (is_to_ask e) v g (settled_drops v es n)
  where
    go :
        (b : Bool) (w : Verdict) → has n (cond b (answered w e ++ es) (e ∷ settled w es)) ≡ false
        → (has n es ≡ true → has n (settled w es) ≡ false → (open_of es ≡ n) × (w ≡ Drops)) → (cond b e.number (open_of es) ≡ n) × (w ≡ Drops)
    go true Keeps g rest = absurd (true≢false (sym h ∙ g))
    go true Drops g rest = (eqb-true e.number n (rw (g, or-false) at h), refl)
    go true Unsure g rest = absurd (true≢false (sym h ∙ g))
    go false w g rest =
        let o = or_neither (eqb e.number n) (has n (settled w es)) g in
        rest (rw o.0 at h) o.1

asked_as :
    (cs : List Call) (radio : Radio) {m n j k : ℕ} → m ≡ n → j ≡ k → WasAsked cs radio m j → WasAsked cs radio n k
asked_as cs radio p q w = rw (← p, ← q) w

module _ (number : ℕ) where
  pub dropped_by :
      (c : Call) (radio : Radio) → has number (entries_in radio) ≡ true → has number (entries_in (calling c radio).next.radio) ≡ false
      → DroppedBy c radio number
  dropped_by c radio h g = go c (is_accepted (calling c radio)) refl (rw (call_stores c radio) at g)
    where
      kept : {A : Type 0} → has number (entries_in radio) ≡ false → A
      kept g = absurd (true≢false (sym h ∙ g))

      known : {A : Type 0} (new : ℕ) (b : Bool) → has number (cond b (entries_in radio) (with_new new (entries_in radio))) ≡ false → A
      known new true g = kept g
      known new false g = kept (or_neither (has number (entries_in radio)) (eqb new number) (sym (has_new number new (entries_in radio)) ∙ g)).0

      go : (c : Call) (b : Bool) → is_accepted (calling c radio) ≡ b → has number (cond b (stored_by c radio) (entries_in radio)) ≡ false
          → DroppedBy c radio number
      go c false a g = kept g
      go (store new) true a g = known new (has new (entries_in radio)) g
      go (notice string question) true a g = kept (sym (has_begun number (is_due radio (notice_of string)) (entries_in radio)) ∙ g)
      go (reply invoke string question) true a g =
          let d = settled_drops (verdict_of radio.own string) (entries_in radio) number h g in
          let under = (accepted_fits (reply invoke string question) radio refl a).2 in
          record { invoke = invoke; string = string; question = question; answer = refl; accepted = a; own = d.0; under = under; verdict = d.1 }

  pub dropped_in :
      (cs : List Call) (radio : Radio) → has number (entries_in radio) ≡ true → has number (entries_in (end cs radio)) ≡ false
      → DroppedIn cs radio number
  dropped_in [] radio h g = absurd (true≢false (sym h ∙ g))
  dropped_in (c ∷ cs) radio h g = go (has number (entries_in next)) refl (λ b. dropped_in cs (calling c radio).next.radio b g)
    where
      next : Radio
      next = (calling c radio).next.radio

      go : (b : Bool) → has number (entries_in next) ≡ b → (has number (entries_in next) ≡ true → DroppedIn cs next number) → DroppedIn (c ∷ cs) radio number
      go true b rest =
          let d = rest b in
          record { before = c ∷ d.before; dropping = d.dropping; after = d.after; place = ap (λ (l : List Call). c ∷ l) d.place; dropped = d.dropped }
      go false b rest = record { before = []; dropping = c; after = cs; place = refl; dropped = dropped_by c radio h b }

  -- a reply that drops had a question open, so the number is not 0
  dropped_some : (c : Call) (radio : Radio) → DroppedBy c radio number → open_of (entries_in radio) ≡ 0 → ⊥
  dropped_some c radio d =
      let a = rw d.answer at d.accepted in
      eqb-false (open_of (entries_in radio)) 0 (accepted_fits (reply d.invoke d.string d.question) radio refl a).1

  -- calls that begin with an accepted notice: the notice drops none, and the question was asked behind it
  pub asked_and_dropped :
      (radio : Radio) (string question : List ℕ) → is_accepted (calling (notice string question) radio) ≡ true → (cs : List Call)
      → has number (entries_in radio) ≡ true → has number (entries_in (end (notice string question ∷ cs) radio)) ≡ false
      → AskedAndDropped (notice string question ∷ cs) radio number
  asked_and_dropped radio string question accepted cs h g =
      let c = notice string question in
      let es = entries_in radio in
      let stored : has number (entries_in (calling c radio).next.radio) ≡ true =
      rw (call_stores c radio, accepted, has_begun number (is_due radio (notice_of string)) es) h in
      let d = dropped_in cs (calling c radio).next.radio stored g in
      let last = end (c ∷ d.before) radio in
      let asked = was_asked radio string question accepted d.before (dropped_some d.dropping last d.dropped) in
      record {
        dropped = record { before = c ∷ d.before; dropping = d.dropping; after = d.after; place = ap (λ (l : List Call). c ∷ l) d.place; dropped = d.dropped };
        asked = asked_as (c ∷ d.before) radio d.dropped.own (sym d.dropped.under) asked;
      }
