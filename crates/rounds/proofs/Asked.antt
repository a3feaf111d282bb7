-- The question that is open was asked: its octets were the last that were written, and read as the plain interrogation of the number that is open. Assumes nothing.
use mathlib.Core.Path.{◌≡◌, refl, sym, ap, ◌∙◌}
use mathlib.Core.Bool.{Bool, true, false, not, ◌&&◌, true≢false}
use mathlib.Core.List.{List, [], ◌∷◌}
use Prim.Native.Nat.{ℕ}
use lib.Dec.{eqb}
use borrow.Author.Tests.{eqb-true, eqb-false, not-true}
use Rattle.answers.proofs.Tests.{and_left, and_right}
use Rattle.stores.specs.declared.Radio.{Radio}
use Rattle.stores.specs.Stores.{entries_in, open_of}
use Rattle.radio.specs.Radio.{Outcome}
use Rattle.rounds.specs.Rounds.{Call, notice, calling, end, log, is_accepted, is_store, no_question}
use Rattle.rounds.specs.Promised.{WasAsked}
use Rattle.rounds.proofs.Entries.{open_same, none_open}
use Rattle.rounds.proofs.Calls.{question_reads, no_question_lem}
use Rattle.rounds.proofs.Round.{call_leaves, quiet_leaves}

-- the number that is open, 0 where there is none
abbrev open_in : Radio → ℕ
open_in radio = open_of (entries_in radio)

-- an accepted notice or reply asks, if a question is open behind it
pub open_asks :
    (c : Call) (radio : Radio) → is_store c ≡ false → is_accepted (calling c radio) ≡ true → (open_in (calling c radio).next.radio ≡ 0 → ⊥)
    → (calling c radio).next.doing.octets ≡ 0 → ⊥
open_asks c radio s a some z = some (none_open (entries_in (calling c radio).next.radio) ((no_question_lem c radio z).none s a))

-- ---- where nothing is asked, the last question's invoke number stays, and a question that is open was open before

pub invoke_along : (cs : List Call) (radio : Radio) → no_question (log cs radio) ≡ true → (end cs radio).invoke ≡ radio.invoke
unfolding no_question
invoke_along [] radio q = refl
invoke_along (c ∷ cs) radio q =
    let o = calling c radio in
    let silent = eqb o.next.doing.octets 0 in
    let rest = no_question (log cs o.next.radio) in
    invoke_along cs o.next.radio (and_right silent rest q)
    ∙ (no_question_lem c radio (eqb-true o.next.doing.octets 0 (and_left silent rest q))).invoke

pub open_stays :
    (c : Call) (radio : Radio) → (calling c radio).next.doing.octets ≡ 0 → (open_in (calling c radio).next.radio ≡ 0 → ⊥)
    → open_in (calling c radio).next.radio ≡ open_in radio
open_stays c radio z some = go (not (is_store c) && is_accepted o) refl
  where
    o : Outcome
    o = calling c radio

    go : (b : Bool) → (not (is_store c) && is_accepted o) ≡ b → open_in o.next.radio ≡ open_in radio
    go true e =
        absurd (open_asks c radio (not-true (is_store c) (and_left (not (is_store c)) (is_accepted o) e)) (and_right (not (is_store c)) (is_accepted o) e) some z)
    go false e = open_same (entries_in o.next.radio) (entries_in radio) (call_leaves c radio ∙ quiet_leaves c radio (is_accepted o) e)

open_along : (cs : List Call) (radio : Radio) → no_question (log cs radio) ≡ true → (open_in (end cs radio) ≡ 0 → ⊥) → open_in (end cs radio) ≡ open_in radio
unfolding no_question
open_along [] radio q some = refl
open_along (c ∷ cs) radio q some =
    let o = calling c radio in
    let silent = eqb o.next.doing.octets 0 in
    let more = no_question (log cs o.next.radio) in
    let rest = open_along cs o.next.radio (and_right silent more q) some in
    rest ∙ open_stays c radio (eqb-true o.next.doing.octets 0 (and_left silent more q)) (λ z. some (rest ∙ z))

-- ---- the last question

abbrev AskedLast : List Call → Radio → Type 0
AskedLast cs radio = WasAsked cs radio (open_in (end cs radio)) (end cs radio).invoke

asked_here :
    (c : Call) (cs : List Call) (radio : Radio) → ((calling c radio).next.doing.octets ≡ 0 → ⊥) → no_question (log cs (calling c radio).next.radio) ≡ true
    → (open_in (end (c ∷ cs) radio) ≡ 0 → ⊥) → AskedLast (c ∷ cs) radio
asked_here c cs radio asks q some =
    let a = question_reads c radio asks in
    let r = (calling c radio).next.radio in
    record {
      before = [];
      asking = c;
      after = cs;
      place = refl;
      asks = asks;
      reads = rw (open_along cs r q some) a.reads;
      under = a.under ∙ sym (invoke_along cs r q);
      last = q;
    }

asked_later : (c : Call) (cs : List Call) (radio : Radio) → AskedLast cs (calling c radio).next.radio → AskedLast (c ∷ cs) radio
asked_later c cs radio w = record {
  before = c ∷ w.before;
  asking = w.asking;
  after = w.after;
  place = ap (λ (l : List Call). c ∷ l) w.place;
  asks = w.asks;
  reads = w.reads;
  under = w.under;
  last = w.last;
}

asked_along : (cs : List Call) (radio : Radio) → no_question (log cs radio) ≡ false → (open_in (end cs radio) ≡ 0 → ⊥) → AskedLast cs radio
unfolding no_question
asked_along [] radio q some = absurd (true≢false q)
asked_along (c ∷ cs) radio q some = go (no_question (log cs next)) refl q (λ h. asked_along cs (calling c radio).next.radio h some)
  where
    next : Radio
    next = (calling c radio).next.radio

    octets : ℕ
    octets = (calling c radio).next.doing.octets

    asks : (b : Bool) → eqb octets 0 ≡ b → (b && true) ≡ false → octets ≡ 0 → ⊥
    asks true e h = absurd (true≢false h)
    asks false e h = eqb-false octets 0 e

    go : (b : Bool) → no_question (log cs next) ≡ b → (eqb octets 0 && b) ≡ false → (no_question (log cs next) ≡ false → AskedLast cs next) → AskedLast (c ∷ cs) radio
    go true e h rest = asked_here c cs radio (asks (eqb octets 0) refl h) e some
    go false e h rest = asked_later c cs radio (rest e)

-- a notice was accepted; wherever a question is open after it, the last call that asked one asked this one, under the radio's invoke number
module _ (radio : Radio) (string question : List ℕ) (accepted : is_accepted (calling (notice string question) radio) ≡ true) (cs : List Call) where
  abbrev heard : List Call
  heard = notice string question ∷ cs

  pub was_asked : (open_of (entries_in (end heard radio)) ≡ 0 → ⊥) → WasAsked heard radio (open_of (entries_in (end heard radio))) (end heard radio).invoke
  was_asked some = go (no_question (log cs next)) refl
    where
      next : Radio
      next = (calling (notice string question) radio).next.radio

      go : (b : Bool) → no_question (log cs next) ≡ b → AskedLast heard radio
      go true q =
          let first = open_asks (notice string question) radio refl accepted (λ z. some (open_along cs next q some ∙ z)) in
          asked_here (notice string question) cs radio first q some
      go false q = asked_later (notice string question) cs radio (asked_along cs next q some)
