-- A round: each number due at the notice is asked once, in stored order, one at a time. Assumes nothing.
use mathlib.Core.Path.{◌≡◌, refl, sym, ap, ◌∙◌}
use mathlib.Core.Bool.{Bool, true, false, not, cond, ◌&&◌, and-false}
use mathlib.Core.List.{List, [], ◌∷◌, ◌++◌}
use Prim.Native.Nat.{ℕ, suc, ◌≤◌, ◌<◌}
use native.Mathlib.Omega.{arith}
use lib.ListN.{length, take, drop, length-drop}
use lib.Seq.{take-append_seam, take-nil, take_all, drop-length}
use lib.Dec.{eqb}
use borrow.Author.Tests.{not-true, eq-eqb, ne_eqb, le-ltb}
use Rattle.answers.proofs.Tests.{and_left, and_right}
use Rattle.answers.proofs.Decide.{decide_each}
use Rattle.numbers.specs.Numbers.{is_number}
use Rattle.strings.specs.Outcomes.{request_of, writer_room}
use Rattle.stores.specs.declared.Entry.{Entry}
use Rattle.stores.specs.declared.Radio.{Radio}
use Rattle.stores.specs.Stores.{entries_in, has, open_of, radio_sound, with_new, is_due, settled}
use Rattle.radio.specs.Radio.{Outcome, next_invoke, question_of, asks_next, notice_of, verdict_of, replying}
use Rattle.rounds.specs.Rounds.{Call, store, notice, reply, buffer_of, calling, end, log, is_accepted, is_store, number_in, asked_in, questions, replies_in, no_notice, to_ask, due_at}
use Rattle.rounds.specs.Promised.{Round}
use Rattle.rounds.proofs.Entries.{ask_new, ask_begun, ask_settled, open_some, length_asked, asked_once}
use Rattle.rounds.proofs.Sound.{sound_parts, begun_storable}
use Rattle.stores.proofs.Stored.{entries_held}
use Rattle.rounds.proofs.Cases.{turned, resting, asking, call_each}
use Rattle.rounds.proofs.Calls.{stored_by, call_stores, accepted_sound, accepted_fits, question_back, question_some}

-- ---- one call

-- the numbers that a call leaves to ask
abbrev pub left_by : Call → Radio → Bool → List ℕ
left_by (store number) radio accepted = to_ask (entries_in radio)
left_by (notice string question) radio accepted = cond accepted (due_at radio string) (to_ask (entries_in radio))
left_by (reply invoke string question) radio accepted = cond accepted (drop 1 (to_ask (entries_in radio))) (to_ask (entries_in radio))

left_of_lem : (c : Call) (radio : Radio) (b : Bool) → to_ask (cond b (stored_by c radio) (entries_in radio)) ≡ left_by c radio b
left_of_lem (store number) radio b = go b (has number (entries_in radio))
  where
    go : (b known : Bool) → to_ask (cond b (cond known (entries_in radio) (with_new number (entries_in radio))) (entries_in radio)) ≡ to_ask (entries_in radio)
    go true true = refl
    go true false = ask_new number (entries_in radio)
    go false known = refl
left_of_lem (notice string question) radio true = ask_begun (is_due radio (notice_of string)) (entries_in radio)
left_of_lem (notice string question) radio false = refl
left_of_lem (reply invoke string question) radio true = ask_settled (verdict_of radio.own string) (entries_in radio)
left_of_lem (reply invoke string question) radio false = refl

pub call_leaves : (c : Call) (radio : Radio) → to_ask (entries_in (calling c radio).next.radio) ≡ left_by c radio (is_accepted (calling c radio))
call_leaves c radio = rw (call_stores c radio) (left_of_lem c radio (is_accepted (calling c radio)))

-- a store, or a call that is refused, leaves the same
pub quiet_leaves : (c : Call) (radio : Radio) (b : Bool) → (not (is_store c) && b) ≡ false → left_by c radio b ≡ to_ask (entries_in radio)
quiet_leaves (store number) radio b z = refl
quiet_leaves (notice string question) radio b z = rw z
quiet_leaves (reply invoke string question) radio b z = rw z

-- an accepted notice or reply asks the first that it leaves
abbrev AsksFirst : Call → Radio → Outcome → Type 0
AsksFirst c radio o = asked_in o ≡ cond (not (is_store c) && is_accepted o) (take 1 (to_ask (entries_in o.next.radio))) []

none_first : (b : Bool) (ns : List ℕ) → (b ≡ false → ns ≡ []) → [] ≡ cond (not b && true) (take 1 ns) []
none_first true ns h = refl
none_first false ns h = rw (h refl)

pub asked_first :
    (number : ℕ) (rest : List ℕ) → is_number number ≡ true
    → cond (eqb (length (question_of number)) 0) [] (number_in (request_of (take (length (question_of number)) (question_of number ++ rest)))) ≡ number ∷ []
asked_first number rest n =
    rw (ne_eqb (length (question_of number)) 0 (question_some number), take-append_seam (question_of number) rest, question_back number n)

pub call_asks :
    (c : Call) (radio : Radio) → asked_in (calling c radio)
    ≡ cond (not (is_store c) && is_accepted (calling c radio)) (take 1 (to_ask (entries_in (calling c radio).next.radio))) []
call_asks = call_each AsksFirst (record {
  refused = λ c radio n z. rw (z, and-false);
  again = λ number radio s b. refl;
  rests = λ c radio a e. rw (entries_held radio radio.invoke (turned c radio)) (none_first (is_store c) (to_ask (turned c radio)) e);
  asks = λ c radio a t room n e.
      let es = turned c radio in
      asked_first (open_of es) (drop (length (question_of (open_of es))) (buffer_of c)) n ∙ rw (t, entries_held radio (next_invoke radio.invoke) es, e);
})

-- an accepted reply had a question to answer
reply_answers :
    (invoke : ℕ) (string question : List ℕ) (radio : Radio) → is_accepted (calling (reply invoke string question) radio) ≡ true → 0 < length (to_ask (entries_in radio))
reply_answers invoke string question radio h =
    let c = reply invoke string question in
    let es = entries_in radio in
    rw (open_some es (sound_parts radio (accepted_sound c radio h)).1.entries (accepted_fits c radio refl h).1).1 (omega arith)

-- ---- calls without an accepted notice

-- from the numbers to ask: what is asked with k replies, and what is left to ask behind them
pub record Along (before : List ℕ) (k : ℕ) (asked after : List ℕ) : Type 0 where
  pub asks : asked ≡ take k (drop 1 before)
  pub left : after ≡ drop k before
  pub few : k ≤ length before

along_quiet :
    {before new first asked after : List ℕ} {k : ℕ} → new ≡ before → first ≡ [] → Along new k asked after → Along before k (first ++ asked) after
along_quiet p q a = rw (q, ← p) a

take_on : (k : ℕ) (ns : List ℕ) → take 1 ns ++ take k (drop 1 ns) ≡ take (suc k) ns
take_on k [] = take-nil k
take_on k (n ∷ ns) = refl

along_reply :
    (before : List ℕ) {new first asked after : List ℕ} {k : ℕ} → new ≡ drop 1 before → first ≡ take 1 new → 0 < length before → Along new k asked after
    → Along before (suc k) (first ++ asked) after
along_reply [] p q h a = absurd (omega arith)
along_reply (n ∷ ns) {k} p q h a =
    let b = rw p at a in
    record { asks = rw (q, p, b.asks) (take_on k ns); left = b.left; few = omega (arith, b.few) }

pub round_along :
    (cs : List Call) (radio : Radio) → no_notice (log cs radio) ≡ true
    → Along (to_ask (entries_in radio)) (replies_in (log cs radio)) (questions (log cs radio)) (to_ask (entries_in (end cs radio)))
unfolding no_notice replies_in questions
round_along [] radio h = record { asks = refl; left = refl; few = omega arith }
round_along (store number ∷ cs) radio h =
    let c = store number in
    along_quiet (call_leaves c radio) (call_asks c radio) (round_along cs (calling c radio).next.radio h)
round_along (notice string question ∷ cs) radio h =
    let c = notice string question in
    let o = calling c radio in
    let z = not-true (is_accepted o) (and_left (not (is_accepted o)) (no_notice (log cs o.next.radio)) h) in
    along_quiet (call_leaves c radio ∙ rw z) (call_asks c radio ∙ rw z)
    (round_along cs o.next.radio (and_right (not (is_accepted o)) (no_notice (log cs o.next.radio)) h))
round_along (reply invoke string question ∷ cs) radio h = go (is_accepted o) refl (round_along cs o.next.radio h)
  where
    c : Call
    c = reply invoke string question

    o : Outcome
    o = calling c radio

    k : ℕ
    k = replies_in (log cs o.next.radio)

    asked : List ℕ
    asked = questions (log cs o.next.radio)

    after : List ℕ
    after = to_ask (entries_in (end cs o.next.radio))

    go :
        (b : Bool) → is_accepted o ≡ b → Along (to_ask (entries_in o.next.radio)) k asked after
        → Along (to_ask (entries_in radio)) (cond b (suc k) k) (asked_in o ++ asked) after
    go true e rest = along_reply (to_ask (entries_in radio)) (call_leaves c radio ∙ rw e) (call_asks c radio ∙ rw e) (reply_answers invoke string question radio e) rest
    go false e rest = along_quiet (call_leaves c radio ∙ rw e) (call_asks c radio ∙ rw e) rest

-- ---- a reply that is accepted

-- whatever is asked next
pub next_accepted : (respond : ℕ) (radio : Radio) (es : List Entry) (question : List ℕ)
    → (is_accepted (asks_next respond radio es question) ≡ true) × ((asks_next respond radio es question).next.doing.respond ≡ respond)
next_accepted respond radio es question =
    decide_each (λ o. (is_accepted o ≡ true) × (o.next.doing.respond ≡ respond)) ((eqb (open_of es) 0, resting respond radio es question) ∷ [])
    (asking respond radio es question) ((refl, refl), tt) (refl, refl)

-- a sound radio with a question open accepts every reply under its invoke number, whatever the string, if the next question has room; so a round can go on to its end
pub reply_accepted :
    (radio : Radio) (string question : List ℕ) → radio_sound radio ≡ true → (open_of (entries_in radio) ≡ 0 → ⊥) → writer_room ≤ length question
    → is_accepted (calling (reply radio.invoke string question) radio) ≡ true
unfolding replying
reply_accepted radio string question s some room =
    rw (s, le-ltb (length question) writer_room room, ne_eqb (open_of (entries_in radio)) 0 some, eq-eqb radio.invoke radio.invoke refl)
    (next_accepted 0 radio (settled (verdict_of radio.own string) (entries_in radio)) question).0

-- ---- the round

module _ (radio : Radio) (string question : List ℕ) (accepted : is_accepted (calling (notice string question) radio) ≡ true) (cs : List Call)
    (meanwhile : no_notice (log cs (calling (notice string question) radio).next.radio) ≡ true) where
  pub round : Round radio (due_at radio string) (notice string question ∷ cs)
  unfolding questions replies_in
  round =
      let c = notice string question in
      let due : to_ask (entries_in (calling c radio).next.radio) ≡ due_at radio string = call_leaves c radio ∙ rw accepted in
      let first : asked_in (calling c radio) ≡ take 1 (due_at radio string) = call_asks c radio ∙ rw (accepted, due) in
      let a = rw due at (round_along cs (calling c radio).next.radio meanwhile) in
      let s = begun_storable radio (notice_of string) (entries_in radio) (sound_parts radio (accepted_sound c radio accepted)).1 in
      let same = ask_begun (is_due radio (notice_of string)) (entries_in radio) in
      record {
        asked = rw (first, a.asks) (take_on (replies_in (log cs (calling c radio).next.radio)) (due_at radio string));
        left = a.left;
        few = a.few;
        most = rw (← same) (omega (arith, length_asked (turned c radio), s.few));
        once = rw (← same) (asked_once (turned c radio) s.once);
      }

  -- so the round ends with as many accepted replies as it has numbers, and then each of them has been asked
  pub round_ends :
      replies_in (log (notice string question ∷ cs) radio) ≡ length (due_at radio string)
      → (to_ask (entries_in (end (notice string question ∷ cs) radio)) ≡ []) × (questions (log (notice string question ∷ cs) radio) ≡ due_at radio string)
  round_ends e =
      let due = due_at radio string in
      (round.left ∙ rw e (drop-length due), round.asked ∙ rw e (take_all (suc (length due)) due (omega arith)))

  -- and not before
  pub round_lasts :
      to_ask (entries_in (end (notice string question ∷ cs) radio)) ≡ [] → replies_in (log (notice string question ∷ cs) radio) ≡ length (due_at radio string)
  round_lasts e =
      let k = replies_in (log (notice string question ∷ cs) radio) in
      let due = due_at radio string in
      let none : length (drop k due) ≡ 0 = ap length (sym round.left ∙ e) in
      omega (arith, length-drop k due, round.few)
