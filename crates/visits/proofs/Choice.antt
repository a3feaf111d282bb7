-- For each of the node's calls and for each visit to a row, two outcomes that its contract allows are equal: answer, table, figures and every octet. Assumes nothing.
use mathlib.Core.Path.{◌≡◌, refl, sym, ap, ◌∙◌}
use mathlib.Core.List.{List}
use Prim.Native.Nat.{ℕ}
use Rattle.std.specs.Prelude.{Result, Ok, Err, Option, Some, None}
use Rattle.answers.specs.Numbers.{refusal_number, outcome_number}
use Rattle.answers.proofs.Numbers.{refusal_one, outcome_one, error_one}
use Rattle.answers.specs.declared.Refusal.{Refusal}
use Rattle.answers.specs.declared.Failure.{Failure}
use Rattle.answers.specs.declared.Failure.TheVariants as failure
use Rattle.numbers.specs.declared.FunctionalNumber.{FunctionalNumber}
use Rattle.numbers.specs.declared.Msisdn.{Msisdn}
use Rattle.records.specs.declared.Fate.{Fate}
use Rattle.records.specs.declared.Fate.TheVariants as fate
use Rattle.states.specs.States.{State}
use Rattle.rules.specs.Answers.{Answer, refusal, Outcome, made}
use Rattle.visits.specs.Said.{said_reply, said_failure, said_request, said_sending, said_fate, said_result, said_due, said_finding}
use Rattle.visits.specs.declared.Reply.{Reply}
use Rattle.visits.specs.declared.Reply.TheVariants as reply
use Rattle.visits.specs.declared.Sent.{Sent}

-- where what is said tells the values apart: the answer, table and figures, and the buffer of one outcome
module _ {X : Type 0} (said : X → Answer) (apart : (v w : X) → said v ≡ said w → v ≡ w) where
  pub no_choice : (v w : X) (t u : State) (b d : List ℕ) (o : Outcome) → made (said v) t b ≡ o → made (said w) u d ≡ o → (v ≡ w) × (t ≡ u) × (b ≡ d)
  no_choice v w t u b d o p q =
      let e = p ∙ sym q in (
        apart v w (ap (λ (x : Outcome). x.answer) e),
        ap (λ (x : Outcome). x.state) e,
        ap (λ (x : Outcome). x.buffer) e,
      )

-- numbers with the same word are the same
msisdn_apart : (a b : Msisdn) → a.0 ≡ b.0 → a ≡ b
msisdn_apart a b e = ap of e
  where
    of : ℕ → Msisdn
    of w = record { 0 = w }

number_apart : (a b : FunctionalNumber) → a.0 ≡ b.0 → a ≡ b
number_apart a b e = ap of e
  where
    of : ℕ → FunctionalNumber
    of w = record { 0 = w }

-- ---- a request

pub reply_apart : (v w : Reply) → said_reply v ≡ said_reply w → v ≡ w
reply_apart (reply.Outcome o n) (reply.Outcome p m) e =
    let f : outcome_number o ≡ outcome_number p = cc in
    let g : o ≡ p = outcome_one o p f in
    cc
reply_apart (reply.Outcome o n) (reply.Held a m) e = cc
reply_apart (reply.Held a n) (reply.Outcome p m) e = cc
reply_apart (reply.Held a n) (reply.Held b m) e = let f : n ≡ m = cc in cc (msisdn_apart a b cc, f)

pub refused_apart : (r s : Refusal) → refusal (refusal_number r) ≡ refusal (refusal_number s) → r ≡ s
refused_apart r s e = refusal_one r s cc

failure_apart : (v w : Failure) → said_failure v ≡ said_failure w → v ≡ w
failure_apart (failure.Refused r) (failure.Refused s) e = ap failure.Refused (refused_apart r s e)
failure_apart (failure.Refused r) (failure.Error s) e = cc
failure_apart (failure.Error r) (failure.Refused s) e = cc
failure_apart (failure.Error r) (failure.Error s) e = ap failure.Error (error_one r s cc)

never : (v : Reply) (w : Failure) → said_reply v ≡ said_failure w → ⊥
never (reply.Outcome o n) (failure.Refused s) e = cc
never (reply.Outcome o n) (failure.Error s) e = cc
never (reply.Held o n) (failure.Refused s) e = cc
never (reply.Held o n) (failure.Error s) e = cc

request_apart : (v w : Result Reply Failure) → said_request v ≡ said_request w → v ≡ w
request_apart (Ok r) (Ok s) e = ap Ok (reply_apart r s e)
request_apart (Ok r) (Err s) e = absurd (never r s e)
request_apart (Err r) (Ok s) e = absurd (never s r (sym e))
request_apart (Err r) (Err s) e = ap Err (failure_apart r s e)

pub request_choice :
    (v w : Result Reply Failure) (t u : State) (b d : List ℕ) (o : Outcome) → made (said_request v) t b ≡ o → made (said_request w) u d ≡ o → (v ≡ w) × (t ≡ u) × (b ≡ d)
request_choice = no_choice said_request request_apart

-- where a reply is all that there can be
pub reply_choice : (v w : Reply) (t u : State) (b d : List ℕ) (o : Outcome) → made (said_reply v) t b ≡ o → made (said_reply w) u d ≡ o → (v ≡ w) × (t ≡ u) × (b ≡ d)
reply_choice = no_choice said_reply reply_apart

-- where an outcome is only said
pub say_choice : (v w : Reply) (b d : List ℕ) {a : Answer} {new : List ℕ} → (said_reply v ≡ a) × (b ≡ new) → (said_reply w ≡ a) × (d ≡ new) → (v ≡ w) × (b ≡ d)
say_choice v w b d p q = (reply_apart v w (p.0 ∙ sym q.0), p.1 ∙ sym q.1)

-- ---- a sending

sending_apart : (v w : Result Sent Refusal) → said_sending v ≡ said_sending w → v ≡ w
sending_apart (Ok r) (Ok s) e =
    let f : r.addressee ≡ s.addressee = msisdn_apart r.addressee s.addressee cc in
    let g : r.octets ≡ s.octets = cc in
    ap Ok (ap (λ (a : Msisdn). of a r.octets) f ∙ ap (λ (n : ℕ). of s.addressee n) g)
  where
    of : Msisdn → ℕ → Sent
    of a n = record { addressee = a; octets = n }
sending_apart (Ok r) (Err s) e = cc
sending_apart (Err r) (Ok s) e = cc
sending_apart (Err r) (Err s) e = ap Err (refused_apart r s e)

pub sending_choice :
    (v w : Result Sent Refusal) (t u : State) (b d : List ℕ) (o : Outcome) → made (said_sending v) t b ≡ o → made (said_sending w) u d ≡ o → (v ≡ w) × (t ≡ u) × (b ≡ d)
sending_choice = no_choice said_sending sending_apart

-- ---- a result

fate_apart : (v w : Fate) → said_fate v ≡ said_fate w → v ≡ w
fate_apart fate.Delivered fate.Delivered e = refl
fate_apart fate.Delivered fate.Dropped e = cc
fate_apart fate.Delivered fate.Again e = cc
fate_apart fate.Dropped fate.Delivered e = cc
fate_apart fate.Dropped fate.Dropped e = refl
fate_apart fate.Dropped fate.Again e = cc
fate_apart fate.Again fate.Delivered e = cc
fate_apart fate.Again fate.Dropped e = cc
fate_apart fate.Again fate.Again e = refl

no_fate : (v : Fate) (r : Refusal) → said_fate v ≡ refusal (refusal_number r) → ⊥
no_fate fate.Delivered r e = cc
no_fate fate.Dropped r e = cc
no_fate fate.Again r e = cc

result_apart : (v w : Result Fate Refusal) → said_result v ≡ said_result w → v ≡ w
result_apart (Ok r) (Ok s) e = ap Ok (fate_apart r s e)
result_apart (Ok r) (Err s) e = absurd (no_fate r s e)
result_apart (Err r) (Ok s) e = absurd (no_fate s r (sym e))
result_apart (Err r) (Err s) e = ap Err (refused_apart r s e)

pub result_choice :
    (v w : Result Fate Refusal) (t u : State) (b d : List ℕ) (o : Outcome) → made (said_result v) t b ≡ o → made (said_result w) u d ≡ o → (v ≡ w) × (t ≡ u) × (b ≡ d)
result_choice = no_choice said_result result_apart

-- ---- a finding

due_apart : (v w : Option FunctionalNumber) → said_due v ≡ said_due w → v ≡ w
due_apart (Some r) (Some s) e = ap Some (number_apart r s cc)
due_apart (Some r) None e = cc
due_apart None (Some s) e = cc
due_apart None None e = refl

no_due : (v : Option FunctionalNumber) (r : Refusal) → said_due v ≡ refusal (refusal_number r) → ⊥
no_due (Some n) r e = cc
no_due None r e = cc

finding_apart : (v w : Result (Option FunctionalNumber) Refusal) → said_finding v ≡ said_finding w → v ≡ w
finding_apart (Ok r) (Ok s) e = ap Ok (due_apart r s e)
finding_apart (Ok r) (Err s) e = absurd (no_due r s e)
finding_apart (Err r) (Ok s) e = absurd (no_due s r (sym e))
finding_apart (Err r) (Err s) e = ap Err (refused_apart r s e)

-- where a finding looks at every row
pub due_choice : (v w : Option FunctionalNumber) (a : Answer) → said_due v ≡ a → said_due w ≡ a → v ≡ w
due_choice v w a p q = due_apart v w (p ∙ sym q)

pub finding_choice : (v w : Result (Option FunctionalNumber) Refusal) (a : Answer) → said_finding v ≡ a → said_finding w ≡ a → v ≡ w
finding_choice v w a p q = finding_apart v w (p ∙ sym q)
