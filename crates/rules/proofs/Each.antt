-- What each answer that a request can get has, the request's answer has: one law for all that goes by the answers. Assumes nothing.
use mathlib.Core.Path.{◌≡◌, refl}
use mathlib.Core.Bool.{Bool, true, false, cond}
use mathlib.Core.Option.{Option, none, some}
use mathlib.Core.List.{List, map}
use Prim.Native.Nat.{ℕ, ◌<◌}
use native.Mathlib.Omega.{arith}
use lib.Dec.{eqb}
use Rattle.answers.proofs.Decide.{decide_each}
use Rattle.numbers.specs.Numbers.{nobody}
use Rattle.numbers.specs.declared.FunctionalNumber.{FunctionalNumber}
use Rattle.numbers.specs.declared.Msisdn.{Msisdn}
use Rattle.crews.specs.Crews.{crew_of}
use Rattle.strings.specs.declared.Operation.{Operation}
use Rattle.strings.specs.declared.Operation.TheVariants.{Register, Erase, Interrogate}
use Rattle.strings.specs.declared.Erasing.{Erasing}
use Rattle.strings.specs.Text.{Request}
use Rattle.strings.specs.Outcomes.{request_of}
use Rattle.records.specs.declared.Notice.{Notice}
use Rattle.tables.specs.Keys.{Found}
use Rattle.std.specs.Prelude.{Some, None}
use Rattle.tables.specs.Tables.{table_sound, flags_of}
use Rattle.states.specs.States.{State, figures_right, row_for, record_for}
use Rattle.rules.specs.Answers.{Answer, refusal, error, delivered, dropped, again, Outcome, made, is_negative_number, refusing}
use Rattle.rules.specs.Requests.{saying, refusal_checks, right_checks, step_checks, Stepping, tells, staying, carried_out, carried_out_at, step, negative, answered, replying, once, asking_by, requesting_by}
use Rattle.rules.specs.Crews.{crew_codes, crew_number, Walk, walked, set_out, crew_outcome, carried_out_for, requesting}
use Rattle.rules.specs.Notices.{clears, returned}
use Rattle.rules.specs.Terminal.{terminal_request, terminal_checks, terminal_erasure}
use Rattle.rules.proofs.Once.{requesting_once}
use Rattle.rules.proofs.Tallied.{Tallied, crew_tallied}

-- what a result returns is delivered, dropped or again
pub returned_each : (P : Answer → Type 0) → P delivered → P dropped → P again → (kind : ℕ) (n : Notice) → P (returned kind n)
returned_each P d o a kind n = go (eqb kind 0) (clears kind n)
  where
    go : (zero cleared : Bool) → P (cond zero delivered (cond cleared dropped again))
    go true cleared = d
    go false true = o
    go false false = a

-- what every answer of a single step has
module _ (t : State) (reply : List ℕ) (P : Outcome → Type 0) (denied : (n : ℕ) → n < 100 → is_negative_number n ≡ true → P (saying n t reply))
    (registered : (new : State) → P (saying 1 new reply)) (erased : (new : State) → P (saying 2 new reply))
    (told : (msisdn : ℕ) → P (answered reply (tells msisdn) t)) where
  abbrev Replied : Stepping → Type 0
  Replied s = P (replying reply s)

  done_each : (o : Operation) (e : Erasing) (requester : Msisdn) (i : ℕ) → Replied (carried_out o e requester t i)
  done_each Register e requester i = registered _
  done_each Erase e requester i = erased _
  done_each Interrogate e requester i = told _

  done_at_each : (f : Request) (place : Found) (requester : Msisdn) → Replied (carried_out_at f place requester t)
  done_at_each f None requester = denied 41 (omega arith) refl
  done_at_each f (Some i) requester = done_each f.operation f.erasing requester i

  pub step_each : (requester : Msisdn) (f : Request) → Replied (step t requester f)
  unfolding step
  step_each requester f =
      decide_each Replied (map (staying t) (step_checks requester f (record_for t f.number.0))) _ (
        denied 41 (omega arith) refl,
        (
          denied 67 (omega arith) refl,
          (
            denied 64 (omega arith) refl,
            (denied 61 (omega arith) refl, (denied 62 (omega arith) refl, (denied 63 (omega arith) refl, (denied 68 (omega arith) refl, tt)))),
          ),
        ),
      )
      (done_at_each f (row_for t f.number.0) requester)

-- what every refusal and every error has too
module _ (t : State) (reply : List ℕ) (P : Outcome → Type 0) (refused : (n : ℕ) → P (made (refusal n) t reply)) (erred : (n : ℕ) → P (made (error n) t reply))
    (denied : (n : ℕ) → n < 100 → is_negative_number n ≡ true → P (saying n t reply))
    (registered : (new : State) → P (saying 1 new reply)) (erased : (new : State) → P (saying 2 new reply))
    (told : (msisdn : ℕ) → P (answered reply (tells msisdn) t)) where
  stepping : (requester : Msisdn) (f : Request) → P (once t reply requester f)
  stepping = step_each t reply P denied registered erased told

  -- of an erasure at the terminal
  pub terminal_each : (number : FunctionalNumber) (holder : Msisdn) → P (terminal_erasure t reply number holder)
  unfolding terminal_erasure
  terminal_each number holder =
      decide_each P (refusing t reply (terminal_checks (table_sound t.table) (figures_right t) reply number holder)) _ (refused 1, (refused 2, (refused 10, (refused 7, tt))))
      (stepping nobody (terminal_request number holder))

  asking_each : (done : Request → Outcome) → ((f : Request) → P (done f)) → (flags : ℕ) (read : Option Request) → P (asking_by done t flags reply read)
  asking_each done all flags none = erred 36
  asking_each done all flags (some f) =
      decide_each P (map (negative t reply) (right_checks flags f.erasing)) (done f) (denied 42 (omega arith) refl, (denied 22 (omega arith) refl, tt)) (all f)

  by_each : (done : Request → Outcome) → ((f : Request) → P (done f)) → (list : List ℕ) (requester : Msisdn) (scheme : ℕ) (string : List ℕ)
      → P (requesting_by done t list reply requester scheme string)
  by_each done all list requester scheme string =
      decide_each P (refusing t reply (refusal_checks (table_sound t.table) (figures_right t) list reply requester scheme string)) _
      (refused 1, (refused 8, (refused 2, (refused 10, (erred 35, (erred 71, (erred 35, (erred 36, tt)))))))) (asking_each done all (flags_of list requester.0) (request_of string))

  -- of a single request
  pub once_each : (list : List ℕ) (requester : Msisdn) (scheme : ℕ) (string : List ℕ) → P (requesting_once t list reply requester scheme string)
  unfolding requesting_once
  once_each list requester scheme string = by_each (once t reply requester) (stepping requester) list requester scheme string

  -- of any request, a crew's too
  module _ (crew : (o : Operation) (w : Walk) → Tallied w → P (crew_outcome (crew_number o) reply w)) where
    carried_each : (requester : Msisdn) (f : Request) (codes : Option (List ℕ)) → crew_of f.additional ≡ codes → P (carried_out_for t reply requester f codes)
    carried_each requester f none e = stepping requester f
    carried_each requester f (some codes) e = crew f.operation (walked requester f (crew_codes codes) (set_out t)) (crew_tallied requester f codes t e)

    pub request_each : (list : List ℕ) (requester : Msisdn) (scheme : ℕ) (string : List ℕ) → P (requesting t list reply requester scheme string)
    unfolding requesting
    request_each list requester scheme string = by_each _ (λ f. carried_each requester f (crew_of f.additional) refl) list requester scheme string
