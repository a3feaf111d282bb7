-- A number that was new when it was stored waits for the next round. Assumes nothing.
use mathlib.Core.Path.{◌≡◌, refl, ◌∙◌}
use mathlib.Core.Bool.{Bool, true, false, not, cond, ◌&&◌, true≢false}
use mathlib.Core.Option.{some}
use mathlib.Core.List.{List, [], ◌∷◌, ◌++◌}
use Prim.Native.Nat.{ℕ, zero, suc}
use native.Mathlib.Omega.{arith}
use lib.ListN.{take, drop}
use lib.Dec.{eqb}
use borrow.Author.Tests.{eqb-true, eq-eqb, not-true}
use Rattle.answers.proofs.Tests.{and_left, and_right, or_neither}
use Rattle.answers.proofs.Checks.{not_some}
use Rattle.crews.specs.Crews.{is_in}
use Rattle.stores.specs.declared.Entry.{Entry}
use Rattle.stores.specs.declared.Radio.{Radio}
use Rattle.stores.specs.declared.Verdict.{Verdict}
use Rattle.stores.specs.declared.Verdict.TheVariants.{Keeps, Drops, Unsure}
use Rattle.stores.specs.Stores.{entries_in, is_to_ask, has, entry_of, with_new, answered, settled}
use Rattle.radio.specs.Radio.{verdict_of}
use Rattle.rounds.specs.Rounds.{Call, store, notice, reply, calling, end, log, is_accepted, is_notice, accepted_notice, questions, replies_in, no_notice, to_ask, entry_for}
use Rattle.rounds.specs.Promised.{Waits}
use Rattle.rounds.proofs.Entries.{ask_new, not_asked, not_behind}
use Rattle.rounds.proofs.Calls.{stored_by, call_stores}
use Rattle.rounds.proofs.Round.{call_asks, round_along}

-- what is stored of a number that is neither marked nor to be asked
abbrev Still : ℕ → List Entry → Type 0
Still number es = entry_for number es ≡ some (entry_of number 0 0)

still_new : (number : ℕ) (es : List Entry) → has number es ≡ false → Still number (with_new number es)
unfolding has entry_for
still_new number [] h = rw (eq-eqb number number refl)
still_new number (e ∷ es) h =
    let o = or_neither (eqb e.number number) (has number es) h in
    rw o.0 (still_new number es o.1)

still_more : (number other : ℕ) (es : List Entry) → Still number es → Still number (with_new other es)
unfolding entry_for
still_more number other [] h = not_some h
still_more number other (e ∷ es) h = go (eqb e.number number) h (still_more number other es)
  where
    go : (b : Bool) → cond b (some e) (entry_for number es) ≡ some (entry_of number 0 0) → (Still number es → Still number (with_new other es))
        → cond b (some e) (entry_for number (with_new other es)) ≡ some (entry_of number 0 0)
    go true h rest = h
    go false h rest = rest h

still_settled : (number : ℕ) (v : Verdict) (es : List Entry) → Still number es → Still number (settled v es)
unfolding entry_for settled
still_settled number v [] h = h
still_settled number v (e ∷ es) h = go (is_to_ask e) (eqb e.number number) v refl refl h (still_settled number v es)
  where
    go :
        (a b : Bool) (w : Verdict) → is_to_ask e ≡ a → eqb e.number number ≡ b → cond b (some e) (entry_for number es) ≡ some (entry_of number 0 0)
        → (Still number es → Still number (settled w es)) → entry_for number (cond a (answered w e ++ es) (e ∷ settled w es)) ≡ some (entry_of number 0 0)
    go true true w a b h rest = let z : ◌≡◌ {A = ℕ} 0 1 = cc (eqb-true e.to_ask 1 a) in absurd (omega arith)
    go true false Keeps a b h rest = rw b h
    go true false Drops a b h rest = h
    go true false Unsure a b h rest = rw b h
    go false true w a b h rest = rw b h
    go false false w a b h rest = rw b (rest h)

-- no call but an accepted notice changes that
still_stored :
    (number : ℕ) (c : Call) (radio : Radio) (b : Bool) → (is_notice c && b) ≡ false → Still number (entries_in radio)
    → Still number (cond b (stored_by c radio) (entries_in radio))
still_stored number c radio false z h = h
still_stored number (store other) radio true z h = go (has other (entries_in radio))
  where
    go : (known : Bool) → Still number (cond known (entries_in radio) (with_new other (entries_in radio)))
    go true = h
    go false = still_more number other (entries_in radio) h
still_stored number (notice string question) radio true z h = absurd (true≢false z)
still_stored number (reply invoke string question) radio true z h = still_settled number (verdict_of radio.own string) (entries_in radio) h

still_along :
    (number : ℕ) (cs : List Call) (radio : Radio) → no_notice (log cs radio) ≡ true → Still number (entries_in radio)
    → Still number (entries_in (end cs radio))
unfolding no_notice
still_along number [] radio n h = h
still_along number (c ∷ cs) radio n h =
    let o = calling c radio in
    let z = accepted_notice (c, o) in
    let rest = no_notice (log cs o.next.radio) in
    still_along number cs o.next.radio (and_right (not z) rest n)
    (rw (call_stores c radio) (still_stored number c radio (is_accepted o) (not-true z (and_left (not z) rest n)) h))

-- ---- what was asked

not_taken : (n k : ℕ) (ns : List ℕ) → is_in n ns ≡ false → is_in n (take k ns) ≡ false
unfolding is_in
not_taken n zero ns h = refl
not_taken n (suc k) [] h = refl
not_taken n (suc k) (m ∷ ns) h = let o = or_neither (eqb m n) (is_in n ns) h in rw o.0 (not_taken n k ns o.1)

module _ (number : ℕ) (radio : Radio) (new : has number (entries_in radio) ≡ false) (accepted : is_accepted (calling (store number) radio) ≡ true) (cs : List Call)
    (meanwhile : no_notice (log cs (calling (store number) radio).next.radio) ≡ true) where
  pub new_waits : Waits (store number ∷ cs) radio number
  unfolding questions
  new_waits =
      let c = store number in
      let r = (calling c radio).next.radio in
      let es : entries_in r ≡ with_new number (entries_in radio) = call_stores c radio ∙ rw (accepted, new) in
      let none : is_in number (to_ask (entries_in r)) ≡ false = rw (es, ask_new number (entries_in radio)) (not_asked number (entries_in radio) new) in
      let a = round_along cs r meanwhile in
      record {
        stored = still_along number cs r meanwhile (rw es (still_new number (entries_in radio) new));
        unasked = rw (call_asks c radio, a.asks) (not_taken number (replies_in (log cs r)) (drop 1 (to_ask (entries_in r))) (not_behind number (to_ask (entries_in r)) none));
      }
