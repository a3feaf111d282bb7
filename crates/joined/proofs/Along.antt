-- The exchange step by step, to the round's end: each number that was to be asked is answered by the table. Assumes nothing.
use mathlib.Core.Path.{◌≡◌, refl, sym, ap, ◌∙◌}
use mathlib.Core.Bool.{true}
use mathlib.Core.List.{List, [], ◌∷◌, ◌++◌, map, append-nil}
use Prim.Native.Nat.{ℕ, ◌<◌}
use native.Mathlib.Omega.{arith}
use lib.ListN.{length, drop, length-drop}
use borrow.Author.Tests.{eq-eqb, ne_eqb}
use Rattle.crews.specs.Crews.{is_in}
use Rattle.tables.specs.Tables.{list_sound}
use Rattle.states.specs.States.{State}
use Rattle.stores.specs.declared.Entry.{Entry}
use Rattle.stores.specs.declared.Radio.{Radio}
use Rattle.stores.specs.declared.Verdict.{Verdict}
use Rattle.stores.specs.Stores.{entries_in, open_of, radio_sound, settled, new_entry}
use Rattle.radio.specs.Radio.{Outcome, question_of, verdict_of}
use Rattle.rounds.specs.Rounds.{Call, reply, calling, is_accepted, to_ask}
use Rattle.rounds.proofs.Entries.{open_some, behind_in}
use Rattle.rounds.proofs.Sound.{sound_parts}
use Rattle.rounds.proofs.Calls.{call_stores, sound_stays, own_stays, quiet_silent, no_question_lem}
use Rattle.rounds.proofs.Round.{call_leaves, reply_accepted}
use Rattle.rounds.proofs.Asked.{open_stays}
use Rattle.joined.specs.Joined.{octets_in, Joint, Step, calls, asks, node_says, stepping, running, asks_in, new_by, new_in, WellAsked, UndisturbedAt, Undisturbed, verdict_by}
use Rattle.joined.proofs.Replies.{node_verdict}
use Rattle.joined.proofs.Became.{resolved, resolved_settled, resolved_new, resolved_none, new_more, ask_new_entry}
use Rattle.joined.proofs.Steps.{QuestionStands, call_puts, quiet_stores, open_there}

first_in : (n : ℕ) (ns : List ℕ) → is_in n (n ∷ ns) ≡ true
unfolding is_in
first_in n ns = rw (eq-eqb n n refl)

none_left : (ns : List ℕ) → 0 ≡ length ns → ns ≡ []
none_left [] e = refl
none_left (n ∷ ns) e = absurd (omega arith)

module _ (list : List ℕ) (delay : ℕ) (start : State) (own : ℕ) (due : List ℕ) (listed : list_sound list ≡ true) where
  abbrev verdict : ℕ → Verdict
  verdict = verdict_by list start own

  -- a round under way: its question stands as long as there is one, and what is to be asked was due
  pub record Going (j : Joint) : Type 0 where
    pub sound : radio_sound j.radio ≡ true
    pub hers : j.radio.own ≡ own
    pub stands : 0 < length (to_ask (entries_in j.radio)) → QuestionStands j
    pub within : (n : ℕ) → is_in n (to_ask (entries_in j.radio)) ≡ true → is_in n due ≡ true

  -- ---- a store, or a call that is refused

  module _ (c : Call) (j : Joint) (g : Going j) (quietly : UndisturbedAt start due (calls c) j) where
    abbrev quiet : Radio
    quiet = (calling c j.radio).next.radio

    quiet_left : to_ask (entries_in quiet) ≡ to_ask (entries_in j.radio)
    quiet_left = ap to_ask (quiet_stores c j.radio quietly) ∙ ask_new_entry (entries_in j.radio) (new_by c j.radio)

    quiet_going : Going (stepping list delay (calls c) j)
    quiet_going =
        let sound = sound_stays c j.radio g.sound in
        record {
          sound = sound;
          hers = own_stays c j.radio ∙ g.hers;
          stands = λ l.
              let s = g.stands (rw quiet_left at l) in
              let silent = quiet_silent c j.radio quietly in
              record {
                question = s.question ∙ ap question_of (sym (open_stays c j.radio silent (open_there quiet sound l)));
                invoke = s.invoke ∙ sym (no_question_lem c j.radio silent).invoke;
              };
          within = rw quiet_left g.within;
        }

    quiet_resolved : resolved verdict (entries_in quiet) ≡ resolved verdict (entries_in j.radio) ++ map new_entry (new_by c j.radio)
    quiet_resolved = ap (resolved verdict) (quiet_stores c j.radio quietly) ∙ resolved_new verdict (entries_in j.radio) (new_by c j.radio)

  -- ---- a question put to the node

  module _ (t : State) (buffer question : List ℕ) (j : Joint) (g : Going j) (well : WellAsked start due t buffer question)
      (some : 0 < length (to_ask (entries_in j.radio))) where
    abbrev es : List Entry
    es = entries_in j.radio

    abbrev string : List ℕ
    string = octets_in (node_says list delay j t buffer)

    abbrev given : Call
    given = reply j.invoke string question

    abbrev answered : Outcome
    answered = calling given j.radio

    opens : open_of es ≡ 0 → ⊥
    opens = open_there j.radio g.sound some

    accepted : is_accepted answered ≡ true
    accepted = rw (g.stands some).invoke (reply_accepted j.radio string question g.sound opens well.question_room)

    by_table_lem : verdict_of j.radio.own string ≡ verdict (open_of es)
    by_table_lem =
        let p = sound_parts j.radio g.sound in
        let o = open_some es p.1.entries (ne_eqb (open_of es) 0 opens) in
        let asked : is_in (open_of es) (to_ask es) ≡ true = rw o.1 (first_in (open_of es) (drop 1 (to_ask es))) in
        let hers = rw g.hers at p.0.number in
        rw (g.hers, (g.stands some).question)
        (node_verdict list delay own (open_of es) buffer t listed well.sound hers o.0 well.reply_room
        ∙ rw (well.unchanged (open_of es) (g.within (open_of es) asked)))

    asked_left : to_ask (entries_in answered.next.radio) ≡ drop 1 (to_ask es)
    asked_left = call_leaves given j.radio ∙ rw accepted

    asked_stores : entries_in answered.next.radio ≡ settled (verdict (open_of es)) es
    asked_stores = call_stores given j.radio ∙ rw (accepted, by_table_lem)

    asked_going : Going (stepping list delay (asks t buffer question) j)
    asked_going = record {
      sound = sound_stays given j.radio g.sound;
      hers = own_stays given j.radio ∙ g.hers;
      stands = call_puts given j.radio refl g.sound accepted;
      within = λ n h. g.within n (behind_in n (to_ask es) (rw asked_left at h));
    }

  -- ---- all steps

  pub record Ended (j end : Joint) (new : List ℕ) : Type 0 where
    pub sound : radio_sound end.radio ≡ true
    pub none : to_ask (entries_in end.radio) ≡ []
    pub stored : entries_in end.radio ≡ resolved verdict (entries_in j.radio) ++ map new_entry new

  pub along :
      (ss : List Step) (j : Joint) → Going j → Undisturbed list delay start due ss j → asks_in ss ≡ length (to_ask (entries_in j.radio))
      → Ended j (running list delay ss j) (new_in list delay ss j)
  unfolding asks_in new_in
  along [] j g f e =
      let none = none_left (to_ask (entries_in j.radio)) e in
      record { sound = g.sound; none = none; stored = sym (append-nil (resolved verdict (entries_in j.radio)) ∙ resolved_none verdict (entries_in j.radio) none) }
  along (calls c ∷ ss) j g f e =
      let rest = along ss (stepping list delay (calls c) j) (quiet_going c j g f.0) f.1 (e ∙ ap length (sym (quiet_left c j g f.0))) in
      record {
        sound = rest.sound;
        none = rest.none;
        stored =
            rest.stored ∙ rw (quiet_resolved c j g f.0)
            (new_more (resolved verdict (entries_in j.radio)) (new_by c j.radio) (new_in list delay ss (stepping list delay (calls c) j)));
      }
  along (asks t buffer question ∷ ss) j g f e =
      let some : 0 < length (to_ask (entries_in j.radio)) = omega arith in
      let left = asked_left t buffer question j g f.0 some in
      let fewer : asks_in ss ≡ length (to_ask (entries_in (stepping list delay (asks t buffer question) j).radio)) =
      rw (left, length-drop) (omega arith) in
      let rest = along ss (stepping list delay (asks t buffer question) j) (asked_going t buffer question j g f.0 some) f.1 fewer in
      record {
        sound = rest.sound;
        none = rest.none;
        stored = rest.stored ∙ rw (asked_stores t buffer question j g f.0 some, resolved_settled verdict (entries_in j.radio));
      }
