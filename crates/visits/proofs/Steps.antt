-- What a step of a record or a check answers leaves no choice: two answers with the paper's same words are one. Assumes nothing.
use mathlib.Core.Path.{◌≡◌, refl, sym, ap}
use Rattle.std.specs.Prelude.{Result, Ok, Err}
use Rattle.answers.proofs.Numbers.{refusal_one, outcome_one}
use Rattle.answers.specs.declared.Refusal.{Refusal}
use Rattle.answers.specs.declared.Outcome.{Outcome}
use Rattle.numbers.specs.declared.Msisdn.{Msisdn}
use Rattle.records.specs.declared.Fate.{Fate}
use Rattle.records.specs.declared.Fate.TheVariants as fate
use Rattle.records.specs.declared.Record.{Record}
use Rattle.records.specs.Step.{said_step}
use Rattle.records.specs.Holder.{said_holder}
use Rattle.records.specs.Sending.{said_sending}
use Rattle.records.specs.Resulted.{said_resulted}
use Rattle.states.specs.States.{said_check}
use Rattle.states.proofs.States.{refusal_some}

pub step_one : (v w : Result Record Outcome) → said_step v ≡ said_step w → v ≡ w
step_one (Ok r) (Ok s) e = cc
step_one (Ok r) (Err o) e = cc
step_one (Err o) (Ok s) e = cc
step_one (Err o) (Err p) e = ap Err (outcome_one o p cc)

pub holder_one : (v w : Result Msisdn Outcome) → said_holder v ≡ said_holder w → v ≡ w
holder_one (Ok r) (Ok s) e = cc
holder_one (Ok r) (Err o) e = cc
holder_one (Err o) (Ok s) e = cc
holder_one (Err o) (Err p) e = ap Err (outcome_one o p cc)

pub sending_one : (v w : Result Record Refusal) → said_sending v ≡ said_sending w → v ≡ w
sending_one (Ok r) (Ok s) e = cc
sending_one (Ok r) (Err o) e = cc
sending_one (Err o) (Ok s) e = cc
sending_one (Err o) (Err p) e = ap Err (refusal_one o p cc)

pub resulted_one : (v w : Result (Fate × Record) Refusal) → said_resulted v ≡ said_resulted w → v ≡ w
resulted_one (Ok (fate.Delivered, r)) (Ok (fate.Delivered, s)) e = let f : r ≡ s = cc in rw f refl
resulted_one (Ok (fate.Delivered, r)) (Ok (fate.Dropped, s)) e = cc
resulted_one (Ok (fate.Delivered, r)) (Ok (fate.Again, s)) e = cc
resulted_one (Ok (fate.Dropped, r)) (Ok (fate.Delivered, s)) e = cc
resulted_one (Ok (fate.Dropped, r)) (Ok (fate.Dropped, s)) e = let f : r ≡ s = cc in rw f refl
resulted_one (Ok (fate.Dropped, r)) (Ok (fate.Again, s)) e = cc
resulted_one (Ok (fate.Again, r)) (Ok (fate.Delivered, s)) e = cc
resulted_one (Ok (fate.Again, r)) (Ok (fate.Dropped, s)) e = cc
resulted_one (Ok (fate.Again, r)) (Ok (fate.Again, s)) e = let f : r ≡ s = cc in rw f refl
resulted_one (Ok (fate.Delivered, r)) (Err o) e = cc
resulted_one (Ok (fate.Dropped, r)) (Err o) e = cc
resulted_one (Ok (fate.Again, r)) (Err o) e = cc
resulted_one (Err o) (Ok (fate.Delivered, s)) e = cc
resulted_one (Err o) (Ok (fate.Dropped, s)) e = cc
resulted_one (Err o) (Ok (fate.Again, s)) e = cc
resulted_one (Err o) (Err p) e = ap Err (refusal_one o p cc)

pub check_one : (v w : Result Unit Refusal) → said_check v ≡ said_check w → v ≡ w
check_one (Ok a) (Ok b) e = refl
check_one (Ok a) (Err p) e = absurd (refusal_some p (sym e))
check_one (Err o) (Ok b) e = absurd (refusal_some o e)
check_one (Err o) (Err p) e = ap Err (refusal_one o p e)
