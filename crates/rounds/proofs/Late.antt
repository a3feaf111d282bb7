-- A reply to a question that was answered or dropped is refused, until 256 questions later. Assumes nothing.
use mathlib.Core.Path.{◌≡◌, refl, ◌∙◌}
use mathlib.Core.Logic.{◌⊎◌, inl, inr, ⊎_elim}
use mathlib.Core.Bool.{Bool, true, false, not, cond, ◌&&◌}
use mathlib.Core.List.{List, [], ◌∷◌}
use Prim.Native.Nat.{ℕ, ◌+◌, ◌%◌, ◌^◌, ◌<◌}
use native.Mathlib.Omega.{arith}
use lib.ListN.{length, take, drop, length-append}
use lib.Dec.{eqb, ltb}
use borrow.Author.Tests.{ne_eqb}
use Rattle.answers.proofs.Tests.{no_path, and_no, or_cases, same_or_not}
use Rattle.strings.specs.Outcomes.{writer_room}
use Rattle.stores.specs.declared.Radio.{Radio}
use Rattle.stores.specs.Stores.{entries_in, open_of, radio_sound}
use Rattle.radio.specs.Radio.{Outcome, refusing, question_of, is_open, replying}
use Rattle.rounds.specs.Rounds.{Call, reply, buffer_of, calling, end, log, is_accepted, is_store, asked_in, questions, comes_again, moves_on, to_ask}
use Rattle.rounds.proofs.Entries.{none_open}
use Rattle.rounds.proofs.Cases.{turned, call_each}
use Rattle.rounds.proofs.Calls.{sound_stays, sound_along, accepted_sound, question_reads}
use Rattle.rounds.proofs.Round.{asked_first, call_leaves, quiet_leaves, call_asks}

-- ---- invoke numbers count the questions

abbrev Counts : Call → Radio → Outcome → Type 0
Counts c radio o = radio.invoke < 2 ^ 8 → o.next.radio.invoke ≡ (radio.invoke + length (asked_in o)) % 2 ^ 8

call_counts : (c : Call) (radio : Radio) → Counts c radio (calling c radio)
call_counts = call_each Counts (record {
  refused = λ c radio n z h. omega arith;
  again = λ number radio s b h. omega arith;
  rests = λ c radio a e h. omega arith;
  asks = λ c radio a t room n e h.
      let number = open_of (turned c radio) in
      rw (asked_first number (drop (length (question_of number)) (buffer_of c)) n);
})

counts_along : (cs : List Call) (radio : Radio) → radio.invoke < 2 ^ 8 → (end cs radio).invoke ≡ (radio.invoke + length (questions (log cs radio))) % 2 ^ 8
unfolding questions
counts_along [] radio h = omega arith
counts_along (c ∷ cs) radio h =
    let o = calling c radio in
    let e = call_counts c radio h in
    let rest = counts_along cs o.next.radio (omega arith) in
    rw (length-append (asked_in o) (questions (log cs o.next.radio))) (omega arith)

-- ---- where nothing is asked, nothing is left to ask behind an accepted notice or reply

none_taken : (ns : List ℕ) → length (take 1 ns) ≡ 0 → ns ≡ []
none_taken [] h = refl
none_taken (n ∷ ns) h = absurd (omega arith)

-- the question before is answered or dropped, or there was none
abbrev Gone : Bool → Radio → Type 0
Gone moved radio = (moved ≡ true) ⊎ (to_ask (entries_in radio) ≡ [])

silent_call :
    (c : Call) (radio : Radio) → length (asked_in (calling c radio)) ≡ 0 → Gone (not (is_store c) && is_accepted (calling c radio)) radio
    → to_ask (entries_in (calling c radio).next.radio) ≡ []
silent_call c radio h g = go (not (is_store c) && is_accepted (calling c radio)) refl (rw (call_asks c radio) at h) g
  where
    after : List ℕ
    after = to_ask (entries_in (calling c radio).next.radio)

    go : (b : Bool) → (not (is_store c) && is_accepted (calling c radio)) ≡ b → length (cond b (take 1 after) []) ≡ 0 → Gone b radio → after ≡ []
    go true e h g = none_taken after h
    go false e h (inl p) = no_path p
    go false e h (inr p) = call_leaves c radio ∙ quiet_leaves c radio (is_accepted (calling c radio)) e ∙ p

silent_along :
    (cs : List Call) (radio : Radio) → length (questions (log cs radio)) ≡ 0 → Gone (moves_on (log cs radio)) radio
    → to_ask (entries_in (end cs radio)) ≡ []
unfolding questions moves_on
silent_along [] radio h g = ⊎_elim (λ e. no_path e) (λ e. e) g
silent_along (c ∷ cs) radio h g =
    let o = calling c radio in
    let r = o.next.radio in
    let turn = not (is_store c) && is_accepted o in
    let both = length-append (asked_in o) (questions (log cs r)) in
    let one : length (asked_in o) ≡ 0 = omega arith in
    let rest : Gone (moves_on (log cs r)) r → to_ask (entries_in (end cs r)) ≡ [] = silent_along cs r (omega arith) in
    ⊎_elim (λ m. ⊎_elim (λ t. rest (inr (silent_call c radio one (inl t)))) (λ t. rest (inl t)) (or_cases turn (moves_on (log cs r)) m))
    (λ e. rest (inr (silent_call c radio one (inr e)))) g

-- ---- a late reply

-- none is open, or another question is
closed :
    (radio : Radio) (k m : ℕ) → k < 2 ^ 8 → m < comes_again → radio.invoke ≡ (k + m) % 2 ^ 8 → (m ≡ 0 → to_ask (entries_in radio) ≡ [])
    → is_open radio k ≡ false
closed radio k m b l e h =
    let es = entries_in radio in
    ⊎_elim (λ z. rw (none_open es (h z)))
    (λ z. and_no (not (eqb (open_of es) 0)) (eqb k radio.invoke) (ne_eqb k radio.invoke (λ q. omega arith))) (same_or_not m 0)

-- 22, once the question buffer has room
closed_refuses :
    (radio : Radio) (k : ℕ) (string question : List ℕ) → radio_sound radio ≡ true → is_open radio k ≡ false
    → replying radio k string question ≡ refusing (cond (ltb (length question) writer_room) 1 22) radio question
unfolding replying
closed_refuses radio k string question s o = rw (s, o) (go (ltb (length question) writer_room))
  where
    go : (b : Bool) → cond b (refusing 1 radio question) (refusing 22 radio question) ≡ refusing (cond b 1 22) radio question
    go true = refl
    go false = refl

-- a question is asked; then a notice or a reply is accepted, and fewer than 256 questions are asked
module _ (c : Call) (radio : Radio) (asked : (calling c radio).next.doing.octets ≡ 0 → ⊥) (cs : List Call)
    (moved : moves_on (log cs (calling c radio).next.radio) ≡ true) (few : length (questions (log cs (calling c radio).next.radio)) < comes_again) where
  pub late_reply :
      (string question : List ℕ) → calling (reply (calling c radio).next.doing.invoke string question) (end (c ∷ cs) radio)
      ≡ refusing (cond (ltb (length question) writer_room) 1 22) (end (c ∷ cs) radio) question
  late_reply string question =
      let r = (calling c radio).next.radio in
      let q = question_reads c radio asked in
      let below : r.invoke < 2 ^ 8 = omega (arith, q.counted) in
      let s = sound_along cs r (sound_stays c radio (accepted_sound c radio q.accepted)) in
      rw q.under (closed_refuses (end cs r) r.invoke string question s
      (closed (end cs r) r.invoke (length (questions (log cs r))) below few (counts_along cs r below) (λ z. silent_along cs r z (inl moved))))
