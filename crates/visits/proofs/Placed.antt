-- What an interrogation finds, and the steps of a sending and of a result, answered and stored. Assumes nothing.
use mathlib.Core.Path.{◌≡◌, refl, sym, ap, ◌∙◌}
use mathlib.Core.Bool.{Bool, true, false, not, cond}
use mathlib.Core.List.{List, [], ◌∷◌}
use Prim.Native.Nat.{ℕ, ◌<◌}
use native.Mathlib.Omega.{arith}
use Rattle.numbers.specs.Numbers.{is_number, number_or_nobody, is_nobody}
use Rattle.numbers.specs.declared.FunctionalNumber.{FunctionalNumber}
use Rattle.numbers.specs.declared.Msisdn.{Msisdn}
use Rattle.strings.specs.Notices.{notice_text, notice_fields}
use Rattle.answers.specs.Checks.{decide}
use Rattle.answers.specs.Writing.{Stands}
use Rattle.packing.specs.Packing.{packed}
use Rattle.records.specs.declared.Notice.{Notice}
use Rattle.records.specs.declared.Notice.TheVariants.{Absent, Waiting, InFlight}
use Rattle.records.specs.declared.Record.{Record}
use Rattle.records.specs.Sending.{Sending}
use Rattle.records.specs.Sending as launches
use Rattle.records.specs.Holder.{Holder}
use Rattle.records.specs.Holder as holder
use Rattle.records.specs.Resulted.{Resulted}
use Rattle.records.specs.Resulted.{Refused}
use Rattle.rows.specs.Rows.{record_sound}
use Rattle.records.specs.Steps.{is_absent, is_waiting, is_due, with_notice, launched, delay_allowed, interrogated, sent}
use Rattle.rows.proofs.Kept.{holder_number, pending_words}
use Rattle.tables.specs.Tables.{rows_in}
use Rattle.states.specs.States.{State, state_sound, record_in, stored_in}
use Rattle.states.proofs.States.{stored_back}
use Rattle.rules.specs.Answers.{Answer, refusal, sent_to, made, packed_over, octet_count}
use Rattle.rules.specs.Visits.{storing, sent_step, result_step}

-- the holder that an interrogation of a sound record finds
pub holder_found : (r : Record) (m : Msisdn) → record_sound r ≡ true → interrogated r ≡ holder.Held m → is_number m.0 ≡ true
unfolding interrogated
holder_found r m sound e = go (is_nobody r.holder) refl e
  where
    go : (b : Bool) → is_nobody r.holder ≡ b → cond b (holder.Stays 62) (holder.Held r.holder) ≡ holder.Held m → is_number m.0 ≡ true
    go true q f = absurd (let z : ◌≡◌ {A = ℕ} 0 1 = cc in omega arith)
    go false q f = let same : r.holder ≡ m = cc in rw (← same) (holder_number r sound q)

-- a result's refusal, with the row's record stored as it was
pub result_refused :
    (t : State) (i : ℕ) (step : Resulted) (n : ℕ) → state_sound t ≡ true → i < rows_in t.table → step ≡ Refused n → made (refusal n) t [] ≡ storing t i (result_step (record_in t i) step)
result_refused t i step n sound within e = rw e (ap (λ s. made (refusal n) s []) (sym (stored_back t i sound within)))

-- the supervisor of a notice that is sent is a number, or nobody
pub sent_supervisor : (delay clock : ℕ) (r next : Record) → record_sound r ≡ true → sent delay clock r ≡ launches.Launched next → number_or_nobody r.supervisor.0 ≡ true
unfolding sent
sent_supervisor delay clock r next sound e = (pending_words r sound (go (delay_allowed delay) r.notice e)).supervised
  where
    go : (a : Bool) (n : Notice)
        → decide ((not a, launches.Refused 6) ∷ (not (is_waiting n), launches.Refused 4) ∷ (not (is_due delay clock n), launches.Refused 5) ∷ []) (launches.Launched (with_notice (launched n) r)) ≡ launches.Launched next
        → is_absent n ≡ false
    go false n f = absurd (let z : ◌≡◌ {A = ℕ} 0 1 = cc in omega arith)
    go true Absent f = absurd (let z : ◌≡◌ {A = ℕ} 0 1 = cc in omega arith)
    go true (Waiting k s) f = refl
    go true (InFlight k) f = refl

-- a sending's step, returned and stored
module _ (t : State) (i : ℕ) (b : List ℕ) (number : FunctionalNumber) (step : Sending) where
  pub sending_refused : (n : ℕ) → state_sound t ≡ true → i < rows_in t.table → step ≡ launches.Refused n → made (refusal n) t b ≡ storing t i (sent_step number b (record_in t i) step)
  sending_refused n sound within e = rw e (ap (λ s. made (refusal n) s b) (sym (stored_back t i sound within)))

  pub sending_placed :
      (next r : Record) (new : State) (after : List ℕ) (octets : ℕ) → step ≡ launches.Launched next → r ≡ record_in t i → new ≡ stored_in t i next
      → Stands (packed (notice_text (notice_fields number r.supervisor))) b octets after
      → made (sent_to r.addressee.0 octets) new after ≡ storing t i (sent_step number b (record_in t i) step)
  sending_placed next r new after octets e same stores w = rw (e, w.buffer, w.count)
      (ap (λ u. made (sent r).0 u (sent r).1) stores ∙ ap (λ x. made (sent x).0 (stored_in t i next) (sent x).1) same)
    where
      -- what a record's notice gets
      sent : Record → Answer × List ℕ
      sent x = let text = notice_text (notice_fields number x.supervisor) in (sent_to x.addressee.0 (octet_count text), packed_over text b)
