-- A routing over a sound table, by its checks; and what each answer that a routing can get has, the routing's answer has. Assumes nothing.
use mathlib.Core.Path.{◌≡◌}
use mathlib.Core.Bool.{Bool, true, false, cond}
use mathlib.Core.Option.{Option, none, some}
use mathlib.Core.List.{List}
use Prim.Native.Nat.{ℕ}
use Rattle.answers.specs.Begins.{begins}
use Rattle.answers.specs.Checks.{decide, any_holds}
use Rattle.answers.proofs.Decide.{decide_each, none_holds, one_holds}
use Rattle.numbers.specs.Numbers.{stored_form, is_nobody}
use Rattle.records.specs.declared.Record.{Record}
use Rattle.tables.specs.Tables.{table_sound, record_of}
use Rattle.rules.specs.Answers.{Answer, refusal, error, outcome, ask_network, routed_to}
use Rattle.rules.specs.Routing.{code_of, with_code_in, subaddress_of, routing_checks, by_record, by_code, routing}

module _ (table home : List ℕ) (coded : Bool) (asked : List ℕ) (sound : table_sound table ≡ true) where
  abbrev checks : List (Bool × Answer)
  checks = routing_checks true home coded asked

  abbrev full : List ℕ
  full = with_code_in home coded asked

  -- no check holds
  pub routing_looks : any_holds checks ≡ false → routing table home coded asked ≡ by_code home full (record_of table (stored_form full))
  unfolding routing
  routing_looks h = rw sound (none_holds checks _ h)

  -- one does
  pub routing_stops : any_holds checks ≡ true → routing table home coded asked ≡ decide checks (error 36)
  unfolding routing
  routing_stops h = rw sound (one_holds checks _ (error 36) h)

module _ (P : Answer → Type 0) (unknown : P (outcome 41 0)) (free : P (outcome 62 0)) (foreign : (code : List ℕ) → P (ask_network code))
    (held : (msisdn : ℕ) (subaddress : List ℕ) → P (routed_to msisdn subaddress)) where
  -- by the record, or by the code alone
  pub code_each : (home digits : List ℕ) (r : Option Record) → P (by_code home digits r)
  code_each home digits r = go (begins home digits) r
    where
      at : (b : Bool) (r : Record) → P (cond b (outcome 62 0) (routed_to r.holder.0 (subaddress_of digits)))
      at true r = free
      at false r = held _ _

      go : (b : Bool) (r : Option Record) → P (cond b (by_record digits r) (ask_network (code_of digits)))
      go false r = foreign _
      go true none = unknown
      go true (some r) = at (is_nobody r.holder) r

  pub routing_each : P (refusal 2) → P (error 36) → (table : List ℕ) (home : List ℕ) (coded : Bool) (asked : List ℕ) → P (routing table home coded asked)
  unfolding routing
  routing_each unsound unread table home coded asked =
      decide_each P (routing_checks (table_sound table) home coded asked) _ (unsound, (unread, (unread, (unread, tt))))
      (code_each home (with_code_in home coded asked) (record_of table (stored_form (with_code_in home coded asked))))
