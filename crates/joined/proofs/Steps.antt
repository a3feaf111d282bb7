-- One step of the exchange: what it leaves stored and to ask, and that the radio's question stands. Assumes nothing.
use mathlib.Core.Path.{◌≡◌, refl, sym, ◌∙◌}
use mathlib.Core.Bool.{Bool, true, false, not, cond, ◌&&◌, ◌||◌}
use mathlib.Core.List.{[], ◌∷◌, ◌++◌, map, append-nil}
use Prim.Native.Nat.{◌<◌}
use native.Mathlib.Omega.{arith}
use lib.ListN.{length}
use borrow.Author.Tests.{eq-eqb, not-true}
use Rattle.stores.specs.declared.Radio.{Radio}
use Rattle.stores.specs.Stores.{entries_in, has, open_of, radio_sound, with_new, new_entry}
use Rattle.radio.specs.Radio.{question_of}
use Rattle.rounds.specs.Rounds.{Call, store, notice, reply, calling, is_accepted, is_store, to_ask}
use Rattle.rounds.proofs.Entries.{open_none}
use Rattle.rounds.proofs.Sound.{sound_parts}
use Rattle.rounds.proofs.Calls.{sound_stays, call_stores, question_written, question_reads}
use Rattle.rounds.proofs.Asked.{open_asks}
use Rattle.joined.specs.Joined.{Joint, after, new_by}

-- where a number is to be asked, a question is open
pub open_there : (radio : Radio) → radio_sound radio ≡ true → 0 < length (to_ask (entries_in radio)) → open_of (entries_in radio) ≡ 0 → ⊥
open_there radio s l z =
    let none = rw (open_none (entries_in radio) (sound_parts radio s).1.entries (eq-eqb (open_of (entries_in radio)) 0 z)) at l in
    omega arith

-- the question that stands in the buffer is that of the number that is open, under the radio's invoke number
pub record QuestionStands (j : Joint) : Type 0 where
  pub question : j.question ≡ question_of (open_of (entries_in j.radio))
  pub invoke : j.invoke ≡ j.radio.invoke

-- behind an accepted notice or reply it does, if there is anything to ask
pub call_puts :
    (c : Call) (radio : Radio) → is_store c ≡ false → radio_sound radio ≡ true → is_accepted (calling c radio) ≡ true
    → 0 < length (to_ask (entries_in (calling c radio).next.radio)) → QuestionStands (after (calling c radio))
call_puts c radio t s h l =
    let asks = open_asks c radio t h (open_there (calling c radio).next.radio (sound_stays c radio s) l) in
    record { question = question_written c radio asks; invoke = (question_reads c radio asks).under }

-- a store, or a call that is refused: new ones are stored behind the others, and nothing else changes
pub quiet_stores :
    (c : Call) (radio : Radio) → (is_store c || not (is_accepted (calling c radio))) ≡ true
    → entries_in (calling c radio).next.radio ≡ entries_in radio ++ map new_entry (new_by c radio)
quiet_stores (store number) radio h = call_stores (store number) radio ∙ go (is_accepted (calling (store number) radio)) (has number (entries_in radio))
  where
    go : (b known : Bool)
        → cond b (cond known (entries_in radio) (with_new number (entries_in radio))) (entries_in radio) ≡ entries_in radio ++ map new_entry (cond (b && not known) (number ∷ []) [])
    go true true = sym (append-nil (entries_in radio))
    go true false = refl
    go false known = sym (append-nil (entries_in radio))
quiet_stores (notice string question) radio h =
    let c = notice string question in
    call_stores c radio ∙ rw (not-true (is_accepted (calling c radio)) h) (sym (append-nil (entries_in radio)))
quiet_stores (reply invoke string question) radio h =
    let c = reply invoke string question in
    call_stores c radio ∙ rw (not-true (is_accepted (calling c radio)) h) (sym (append-nil (entries_in radio)))
