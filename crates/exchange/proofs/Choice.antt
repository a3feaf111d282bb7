-- Two outcomes of the framed request that its contract allows are equal: answer, table, figures and every octet. Assumes nothing.
use mathlib.Core.Path.{◌≡◌, sym, ap}
use mathlib.Core.List.{List}
use Prim.Native.Nat.{ℕ}
use Rattle.std.specs.Prelude.{Result, Ok, Err}
use Rattle.answers.specs.Numbers.{refusal_number, outcome_number, error_number}
use Rattle.answers.proofs.Numbers.{outcome_one, error_one}
use Rattle.answers.specs.declared.Refusal.{Refusal}
use Rattle.numbers.specs.declared.Msisdn.{Msisdn}
use Rattle.frames.specs.Read.{problem_number}
use Rattle.frames.proofs.Choice.{problem_one}
use Rattle.states.specs.States.{State}
use Rattle.rules.specs.Answers.{refusal, Outcome, made}
use Rattle.visits.proofs.Choice.{no_choice, refused_apart}
use Rattle.exchange.specs.Said.{said_frame, said_framed}
use Rattle.exchange.specs.declared.Framed.{Framed}
use Rattle.exchange.specs.declared.Framed.TheVariants as framed

-- numbers with the same word are the same
msisdn_apart : (a b : Msisdn) → a.0 ≡ b.0 → a ≡ b
msisdn_apart a b e = ap of e
  where
    of : ℕ → Msisdn
    of w = record { 0 = w }

frame_apart : (v w : Framed) → said_frame v ≡ said_frame w → v ≡ w
frame_apart (framed.Outcome o n) (framed.Outcome p m) e =
    let f : outcome_number o ≡ outcome_number p = cc in
    let g : o ≡ p = outcome_one o p f in
    cc
frame_apart (framed.Held a n) (framed.Held b m) e = let f : n ≡ m = cc in cc (msisdn_apart a b cc, f)
frame_apart (framed.Error x n) (framed.Error y m) e =
    let f : error_number x ≡ error_number y = cc in
    let g : x ≡ y = error_one x y f in
    cc
frame_apart (framed.Reject x n) (framed.Reject y m) e =
    let f : problem_number x ≡ problem_number y = cc in
    let g : x ≡ y = problem_one x y f in
    cc
frame_apart (framed.Outcome o n) (framed.Held b m) e = cc
frame_apart (framed.Outcome o n) (framed.Error y m) e = cc
frame_apart (framed.Outcome o n) (framed.Reject y m) e = cc
frame_apart (framed.Held a n) (framed.Outcome p m) e = cc
frame_apart (framed.Held a n) (framed.Error y m) e = cc
frame_apart (framed.Held a n) (framed.Reject y m) e = cc
frame_apart (framed.Error x n) (framed.Outcome p m) e = cc
frame_apart (framed.Error x n) (framed.Held b m) e = cc
frame_apart (framed.Error x n) (framed.Reject y m) e = cc
frame_apart (framed.Reject x n) (framed.Outcome p m) e = cc
frame_apart (framed.Reject x n) (framed.Held b m) e = cc
frame_apart (framed.Reject x n) (framed.Error y m) e = cc

-- no frame says a refusal
never : (v : Framed) (r : Refusal) → said_frame v ≡ refusal (refusal_number r) → ⊥
never (framed.Outcome o n) r e = cc
never (framed.Held a n) r e = cc
never (framed.Error x n) r e = cc
never (framed.Reject x n) r e = cc

framed_apart : (v w : Result Framed Refusal) → said_framed v ≡ said_framed w → v ≡ w
framed_apart (Ok v) (Ok w) e = ap Ok (frame_apart v w e)
framed_apart (Ok v) (Err r) e = absurd (never v r e)
framed_apart (Err r) (Ok w) e = absurd (never w r (sym e))
framed_apart (Err r) (Err s) e = ap Err (refused_apart r s e)

pub framed_choice :
    (v w : Result Framed Refusal) (t u : State) (b d : List ℕ) (o : Outcome) → made (said_framed v) t b ≡ o → made (said_framed w) u d ≡ o → (v ≡ w) × (t ≡ u) × (b ≡ d)
framed_choice = no_choice said_framed framed_apart
