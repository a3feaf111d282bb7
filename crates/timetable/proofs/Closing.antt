-- Closing, over table and figures: both stay right; the number keeps its holder and its notice and is closed, and every other number's record is as it was. Assumes nothing.
use mathlib.Core.Path.{◌≡◌, refl, sym, ap, ◌∙◌}
use mathlib.Core.Bool.{true}
use mathlib.Core.Option.{some}
use mathlib.Core.List.{List}
use Prim.Native.Nat.{ℕ, ◌<◌}
use Rattle.numbers.specs.Numbers.{is_number}
use Rattle.records.specs.declared.Record.{Record}
use Rattle.records.specs.Steps.{closing}
use Rattle.rows.specs.Rows.{stored, record_sound}
use Rattle.rows.proofs.Rows.{sound_record, record_is_sound, record_sound_lem, words_stored}
use Rattle.std.specs.Prelude.{Some}
use Rattle.tables.specs.Tables.{rows_in, row_of, record_of}
use Rattle.tables.proofs.Stored.{row_found, record_found_lem, own_record, other_record}
use Rattle.states.specs.States.{State, beside, state_sound, record_in, moved}
use Rattle.states.proofs.States.{state_row, state_stored, stored_back}
use Rattle.timetable.specs.Timetable.{shut, leaving, closing_number}
use Rattle.timetable.proofs.Calls.{closing_done}

pub closing_sound : (r : Record) → record_sound r ≡ true → record_sound (closing r) ≡ true
closing_sound r s = let w = sound_record r s in record_is_sound (closing r) (record { holder = w.holder; notice = w.notice; once = w.once })

-- a closed record closed again is the same
pub closing_closed : (r : Record) → r.closed ≡ true → closing r ≡ r
closing_closed r e = rw (← e) refl

module _ (s : State) (number i : ℕ) (sound : state_sound s ≡ true) (here : row_of s.table number ≡ Some i) where
  within : i < rows_in s.table
  within = (row_found s.table number i here).0

  own_sound : record_sound (record_in s i) ≡ true
  own_sound = record_sound_lem s.table i (state_row s i sound within)

  -- the table afterwards
  abbrev pub shut_table : List ℕ
  shut_table = stored s.table i (closing (record_in s i))

  -- holder and notice are counted as before: the figures stay right
  closing_figures : moved s.figures (record_in s i) (closing (record_in s i)) ≡ s.figures
  unfolding moved
  closing_figures = ap (λ (x : State). x.figures) (stored_back s i sound within)

  pub closed_state : state_sound (beside shut_table s.figures) ≡ true
  closed_state =
      ap (λ (f : List ℕ). state_sound (beside shut_table f)) (sym closing_figures) ∙ state_stored s i sound within (closing (record_in s i)) (closing_sound (record_in s i) own_sound)

  -- "keeps its holder": the record is as it was, but closed
  pub closed_own : (r : Record) → record_of s.table number ≡ some r → record_of shut_table number ≡ some (closing r)
  closed_own r e =
      own_record s.table i (closing (record_in s i)) number here (closing_sound (record_in s i) own_sound)
      ∙ let same : record_in s i ≡ r = some_one (sym (record_found_lem s.table number i here) ∙ e) in ap (λ (x : Record). some (closing x)) same
    where
      some_one : {x y : Record} → some x ≡ some y → x ≡ y
      some_one q = cc

  pub closed_other : (other : ℕ) → (other ≡ number → ⊥) → record_of shut_table other ≡ record_of s.table other
  closed_other = other_record s.table i (closing (record_in s i)) number here

  -- closing a closed number changes nothing and succeeds
  pub closed_already : is_number number ≡ true → (record_in s i).closed ≡ true → closing_number s number ≡ leaving shut s.table
  closed_already form e =
      closing_done s number sound form i here
      ∙ ap (leaving shut) (ap (stored s.table i) (closing_closed (record_in s i) e) ∙ words_stored s.table i (state_row s i sound within))
