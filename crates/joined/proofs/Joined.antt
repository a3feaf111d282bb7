-- Joined with the node: a round whose questions the node answers leaves stored what the table says. Assumes nothing.
use mathlib.Core.Path.{◌≡◌, refl, sym, ap, ◌∙◌}
use mathlib.Core.Bool.{Bool, true, false}
use mathlib.Core.Option.{none, some}
use mathlib.Core.List.{List, ◌++◌, map}
use Prim.Native.Nat.{ℕ}
use lib.ListN.{length}
use borrow.Author.Tests.{eq-eqb, ne_eqb}
use Rattle.crews.specs.Crews.{is_in}
use Rattle.tables.specs.Tables.{list_sound}
use Rattle.states.specs.States.{State}
use Rattle.stores.specs.declared.Entry.{Entry}
use Rattle.stores.specs.declared.Radio.{Radio}
use Rattle.stores.specs.declared.Verdict.{Verdict}
use Rattle.stores.specs.Stores.{entries_in, none_twice, is_due, begun, new_entry}
use Rattle.radio.specs.Radio.{notice_of}
use Rattle.rounds.specs.Rounds.{Call, notice, calling, is_accepted, to_ask, due_at, entry_for}
use Rattle.rounds.proofs.Sound.{sound_parts}
use Rattle.rounds.proofs.Calls.{call_stores, sound_stays, accepted_sound, own_stays}
use Rattle.rounds.proofs.Round.{call_leaves}
use Rattle.joined.specs.Joined.{Joint, after, Step, running, asks_in, new_in, Undisturbed, verdict_by, became, Joined, NumberByNumber}
use Rattle.joined.proofs.Became.{resolved_begun}
use Rattle.joined.proofs.Steps.{call_puts}
use Rattle.joined.proofs.Along.{Going, Ended, along}
use Rattle.joined.proofs.Numbers.{entry_none, apart, or_else, entry_append, became_of, entry_became, due_known, has_new_entry, entry_new_entry}

-- a notice was accepted; then come these steps, with as many questions put to the node as numbers are due
module _ (list : List ℕ) (delay : ℕ) (start : State) (radio : Radio) (string question : List ℕ) (ss : List Step)
    (listed : list_sound list ≡ true) (accepted : is_accepted (calling (notice string question) radio) ≡ true)
    (quietly : Undisturbed list delay start (due_at radio string) ss (after (calling (notice string question) radio)))
    (all : asks_in ss ≡ length (due_at radio string)) where
  abbrev noticed : Call
  noticed = notice string question

  abbrev began : Joint
  began = after (calling noticed radio)

  abbrev stored : List Entry
  stored = entries_in (running list delay ss began).radio

  abbrev new : List ℕ
  new = new_in list delay ss began

  abbrev verdict : ℕ → Verdict
  verdict = verdict_by list start radio.own

  abbrev due : ℕ → Bool
  due = is_due radio (notice_of string)

  due_left : to_ask (entries_in began.radio) ≡ due_at radio string
  due_left = call_leaves noticed radio ∙ rw accepted

  going : Going list delay start radio.own (due_at radio string) listed began
  going = record {
    sound = sound_stays noticed radio (accepted_sound noticed radio accepted);
    hers = own_stays noticed radio;
    stands = call_puts noticed radio refl (accepted_sound noticed radio accepted) accepted;
    within = λ n h. rw due_left at h;
  }

  ended : Ended list delay start radio.own (due_at radio string) listed began (running list delay ss began) new
  ended = along list delay start radio.own (due_at radio string) listed ss began going quietly (all ∙ ap length (sym due_left))

  pub joined : Joined list start radio string new stored
  joined = record {
    ended = ended.none;
    exactly =
        let begins : entries_in began.radio ≡ begun due (entries_in radio) = call_stores noticed radio ∙ rw accepted in
        ended.stored ∙ rw (begins, resolved_begun verdict due (entries_in radio));
  }

  -- ---- number by number

  once : none_twice (entries_in radio) ≡ true
  once = (sound_parts radio (accepted_sound noticed radio accepted)).1.once

  of_one : (n : ℕ) → entry_for n stored ≡ or_else (became_of due verdict n (entry_for n (entries_in radio))) (entry_for n (map new_entry new))
  of_one n =
      ap (entry_for n) joined.exactly
      ∙ entry_append n (became due verdict (entries_in radio)) (map new_entry new)
      ∙ rw (entry_became due verdict n (entries_in radio) once)

  not_new : (n : ℕ) → is_in n new ≡ false → entry_for n (map new_entry new) ≡ none
  not_new n h = entry_none n (map new_entry new) (has_new_entry n new ∙ h)

  of_new : (n : ℕ) → is_in n new ≡ true → entry_for n stored ≡ some (new_entry n)
  of_new n h =
      let whole = joined.exactly in
      let twice : none_twice (became due verdict (entries_in radio) ++ map new_entry new) ≡ true =
      rw whole at (sound_parts (running list delay ss began).radio ended.sound).1.once in
      let before = apart n (became due verdict (entries_in radio)) (map new_entry new) twice (has_new_entry n new ∙ h) in
      ap (entry_for n) whole
      ∙ entry_append n (became due verdict (entries_in radio)) (map new_entry new)
      ∙ rw (entry_none n (became due verdict (entries_in radio)) before) (entry_new_entry n new h)

  pub number_by_number : NumberByNumber list start radio string new stored
  number_by_number = record {
    hers = λ n d f g. let k = due_known due (entries_in radio) n d in of_one n ∙ rw (k.1, k.2, f, g, eq-eqb radio.own radio.own refl);
    missing = λ n d f g. let k = due_known due (entries_in radio) n d in of_one n ∙ rw (k.1, k.2, f, g);
    dropped = λ n holder d f g other h. let k = due_known due (entries_in radio) n d in of_one n ∙ rw (k.1, k.2, f, g, ne_eqb holder radio.own other) (not_new n h);
    without_flag = λ n d f. let k = due_known due (entries_in radio) n d in of_one n ∙ rw (k.1, k.2, f);
    others = λ n e k d. of_one n ∙ rw (k, d);
    new_ones = of_new;
    no_more = λ n u h. of_one n ∙ rw (entry_none n (entries_in radio) u) (not_new n h);
  }
