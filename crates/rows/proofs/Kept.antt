-- What a sound record says of its holder and its notice; and each step gives a sound record back. Assumes nothing.
use mathlib.Core.Path.{◌≡◌, refl, sym, ap, ◌∙◌}
use mathlib.Core.Logic.{⊎_elim}
use mathlib.Core.Bool.{Bool, true, false, cond, not, ◌&&◌, ◌||◌}
use mathlib.Core.List.{[], ◌∷◌}
use Prim.Native.Nat.{ℕ, ◌+◌, ◌*◌, ◌%◌, ◌^◌, ◌≤◌, ◌<◌}
use native.Mathlib.Omega.{arith}
use lib.Dec.{eqb, ltb, leb}
use borrow.Author.Tests.{eq-eqb, le-leb, leb-true, leb-false, not-false}
use Rattle.answers.proofs.Tests.{no_path, or_cases, or_right}
use Rattle.answers.proofs.Decide.{decide_by, decide_each}
use Rattle.numbers.specs.Numbers.{is_number, number_or_nobody, nobody, is_nobody}
use Rattle.numbers.specs.declared.FunctionalNumber.{FunctionalNumber}
use Rattle.numbers.specs.declared.Msisdn.{Msisdn}
use Rattle.records.specs.declared.Notice.{Notice}
use Rattle.records.specs.declared.Notice.TheVariants.{Absent, Waiting, InFlight}
use Rattle.records.specs.declared.Record.{Record}
use Rattle.records.specs.Step.{Step}
use Rattle.records.specs.Step.{Stays, Becomes}
use Rattle.records.specs.Sending.{Sending}
use Rattle.records.specs.Sending as sending
use Rattle.records.specs.Resulted.{Resulted}
use Rattle.records.specs.Resulted.{Refused, Delivered, Dropped, Again}
use Rattle.records.specs.Steps.{same, is_own, may_erase, held_by, most_sendings, is_absent, is_waiting, is_in_flight, sendings_done, with_notice, cleared, forced_off, registered, erased, forced, delay_allowed, is_due, launched, sent, last_kind, resulted}
use Rattle.rows.specs.Rows.{last_phase, failed_once, notice_up_to, phase_of, second_of, sent_once, record_sound}
use Rattle.rows.proofs.Notices.{Pending, pending, pending_sound}
use Rattle.rows.proofs.Rows.{sound_record, record_is_sound}

-- ---- what a sound record says

module _ (r : Record) (s : record_sound r ≡ true) where
  pub holder_number : is_nobody r.holder ≡ false → is_number r.holder.0 ≡ true
  holder_number n =
      ⊎_elim (λ z. no_path (sym n ∙ z)) (λ h. h) (or_cases (is_nobody r.holder) (is_number r.holder.0) (sound_record r s).holder)

  pub pending_words : is_absent r.notice ≡ false → Pending (phase_of r.notice) r.addressee.0 r.supervisor.0 (second_of r.notice)
  pending_words n = pending _ _ _ _ (sound_record r s).notice (some r.notice n (sound_record r s).once)
    where
      some : (n : Notice) → is_absent n ≡ false → sent_once n ≡ true → 1 ≤ phase_of n
      some Absent e o = no_path (sym e)
      some (Waiting k s) e o = omega arith
      some (InFlight k) e o = let h = leb-true 1 k o in omega arith

  -- a waiting notice can be sent once more
  pub waiting_sendings : (k second : ℕ) → r.notice ≡ Waiting k second → k < most_sendings
  waiting_sendings k second e = let h = (pending_words (ap is_absent e)).most in let p = ap phase_of e in omega arith

  pub flying_sendings : (k : ℕ) → r.notice ≡ InFlight k → (1 ≤ k) × (k ≤ most_sendings)
  flying_sendings k e =
      let h = pending_words (ap is_absent e) in let l = h.some in let m = h.most in let p = ap phase_of e in (omega arith, omega arith)

  -- no notice has more sendings done than the most
  pub few_sendings : sendings_done r.notice ≤ most_sendings
  few_sendings = go r.notice refl
    where
      go : (n : Notice) → r.notice ≡ n → sendings_done n ≤ most_sendings
      go Absent e = omega arith
      go (Waiting k second) e = omega (arith, waiting_sendings k second e)
      go (InFlight k) e = (flying_sendings k e).1

-- ---- each step gives a sound record back

-- the record that a step gives back is sound
abbrev pub SoundStep : Step → Type 0
SoundStep (Stays n) = Unit {0}
SoundStep (Becomes r) = record_sound r ≡ true

abbrev pub SoundSending : Sending → Type 0
SoundSending (sending.Refused n) = Unit {0}
SoundSending (sending.Launched r) = record_sound r ≡ true

abbrev pub SoundResult : Resulted → Type 0
SoundResult (Refused n) = Unit {0}
SoundResult (Delivered r) = record_sound r ≡ true
SoundResult (Dropped r) = record_sound r ≡ true
SoundResult (Again r) = record_sound r ≡ true

module _ (r : Record) (s : record_sound r ≡ true) where
  held_sound : (m : Msisdn) → number_or_nobody m.0 ≡ true → record_sound (held_by m r) ≡ true
  held_sound m h = record_is_sound (held_by m r) (record { holder = h; notice = (sound_record r s).notice; once = (sound_record r s).once })

  pub registered_sound : (number : FunctionalNumber) (requester : Msisdn) → is_number requester.0 ≡ true → SoundStep (registered number requester r)
  unfolding registered
  registered_sound number requester n =
      decide_each SoundStep
      ((is_own number requester, Stays 67) ∷ (r.closed, Stays 64) ∷ (not (is_nobody r.holder) && not (same r.holder requester), Stays 61) ∷ [])
      (Becomes (held_by requester r)) (tt, (tt, (tt, tt))) (held_sound requester (or_right (eqb requester.0 0) (is_number requester.0) n))

  pub erased_sound : (number : FunctionalNumber) (requester : Msisdn) → SoundStep (erased number requester r)
  unfolding erased
  erased_sound number requester =
      decide_each SoundStep ((is_nobody r.holder, Stays 62) ∷ (not (may_erase number requester r.holder), Stays 63) ∷ []) (Becomes (held_by nobody r)) (tt, (tt, tt))
      (held_sound nobody refl)

  off_sound : (supervisor : Msisdn) → is_number r.holder.0 ≡ true → number_or_nobody supervisor.0 ≡ true → same r.holder supervisor ≡ false → record_sound (forced_off supervisor r) ≡ true
  unfolding record_sound notice_up_to
  off_sound supervisor h n e = simp (e, h, n)

  pub forced_sound : (supervisor named : Msisdn) → number_or_nobody supervisor.0 ≡ true → SoundStep (forced supervisor named r)
  unfolding forced
  forced_sound supervisor named n =
      decide_by SoundStep
      ((is_nobody r.holder, Stays 62)
      ∷ (not (same r.holder named), Stays 63)
      ∷ (not (same r.holder supervisor) && not (is_absent r.notice), Stays 68)
      ∷ [])
      (Becomes (cond (same r.holder supervisor) (held_by nobody r) (forced_off supervisor r))) (tt, (tt, (tt, tt)))
      (λ passed. own (same r.holder supervisor) refl (holder_number r s passed.0))
    where
      own : (b : Bool) → same r.holder supervisor ≡ b → is_number r.holder.0 ≡ true → record_sound (cond b (held_by nobody r) (forced_off supervisor r)) ≡ true
      own true e h = held_sound nobody refl
      own false e h = off_sound supervisor h n e

  -- another notice to the same addressee
  renewed : (old new : Notice) → r.notice ≡ old → is_absent old ≡ false → 1 ≤ phase_of new → phase_of new ≤ last_phase → second_of new < 2 ^ 32 → (eqb (second_of new) 0 || failed_once (phase_of new)) ≡ true → sent_once new ≡ true → record_sound (with_notice new r) ≡ true
  renewed old new e a some most below failed once =
      let p = pending_words r s (ap is_absent e ∙ a) in
      record_is_sound (with_notice new r) (record {
        holder = (sound_record r s).holder;
        notice = pending_sound _ _ _ _ (record { some = some; most = most; addressed = p.addressed; supervised = p.supervised; differ = p.differ; below = below; failed = failed });
        once = once;
      })

  launched_sound : (n : Notice) → r.notice ≡ n → is_waiting n ≡ true → record_sound (with_notice (launched n) r) ≡ true
  launched_sound Absent e w = no_path w
  launched_sound (Waiting k second) e w =
      let h = waiting_sendings r s k second e in
      renewed (Waiting k second) (InFlight (k + 1)) e refl (omega arith) (omega arith) (omega arith) refl (le-leb 1 (k + 1) (omega arith))
  launched_sound (InFlight k) e w = no_path w

  pub sent_sound : (delay clock : ℕ) → SoundSending (sent delay clock r)
  unfolding sent
  sent_sound delay clock =
      decide_by SoundSending
      ((not (delay_allowed delay), sending.Refused 6)
      ∷ (not (is_waiting r.notice), sending.Refused 4)
      ∷ (not (is_due delay clock r.notice), sending.Refused 5)
      ∷ [])
      (sending.Launched (with_notice (launched r.notice) r)) (tt, (tt, (tt, tt)))
      (λ passed. launched_sound r.notice refl (not-false _ passed.1.0))

  cleared_sound : record_sound (cleared r) ≡ true
  unfolding record_sound notice_up_to
  cleared_sound = rw (sound_record r s).holder

  -- a notice that comes back from its k-th sending
  again_sound : (n : Notice) → r.notice ≡ n → is_in_flight n ≡ true → (clock : ℕ) → clock < 2 ^ 32 → leb most_sendings (sendings_done n) ≡ false → record_sound (with_notice (Waiting (sendings_done n) clock) r) ≡ true
  again_sound Absent e f clock c l = no_path f
  again_sound (Waiting k second) e f clock c l = no_path f
  again_sound (InFlight k) e f clock c l =
      let h = (flying_sendings r s k e).0 in
      let m = leb-false most_sendings k l in
      let odd : failed_once (2 * k + 1) ≡ true = simp (eq-eqb ((2 * k + 1) % 2) 1 (omega arith), le-leb 3 (2 * k + 1) (omega arith)) in
      renewed (InFlight k) (Waiting k clock) e refl (omega arith) (omega arith) c (or_right (eqb clock 0) (failed_once (2 * k + 1)) odd) refl

  pub resulted_sound : (kind clock : ℕ) → clock < 2 ^ 32 → SoundResult (resulted kind clock r)
  unfolding resulted
  resulted_sound kind clock c =
      go (ltb last_kind kind) (is_in_flight r.notice) (eqb kind 0) (ltb kind last_kind) (leb most_sendings (sendings_done r.notice)) refl refl
    where
      go : (above flies delivered other last : Bool) → is_in_flight r.notice ≡ flies → leb most_sendings (sendings_done r.notice) ≡ last → SoundResult (cond above (Refused 3) (cond (not flies) (Refused 4) (cond delivered (Delivered (cleared r)) (cond other (Dropped (cleared r)) (cond last (Dropped (cleared r)) (Again (with_notice (Waiting (sendings_done r.notice) clock) r)))))))
      go true flies delivered other last e f = tt
      go false false delivered other last e f = tt
      go false true true other last e f = cleared_sound
      go false true false true last e f = cleared_sound
      go false true false false true e f = cleared_sound
      go false true false false false e f = again_sound r.notice refl e clock c f
