-- `routing` leaves no choice: two answers that its contract allows are equal. Assumes nothing.
use mathlib.Core.Path.{◌≡◌, refl, sym, ap, ◌∙◌}
use Rattle.std.specs.Prelude.{Option, Some, None, Result, Ok, Err}
use Rattle.answers.specs.declared.Refusal.{Refusal}
use Rattle.answers.specs.declared.RequestError.{RequestError}
use Rattle.answers.specs.declared.Outcome as answers
use Rattle.answers.specs.declared.Failure.{Failure}
use Rattle.answers.specs.declared.Failure.TheVariants.{Refused, Error}
use Rattle.answers.proofs.Numbers as numbers
use Rattle.rules.specs.Answers.{Answer}
use Rattle.routes.specs.declared.Subaddress.{Subaddress}
use Rattle.routes.specs.declared.RoutingAnswer.{RoutingAnswer}
use Rattle.routes.specs.declared.RoutingAnswer.TheVariants.{Outcome, AskNetwork, Routed}
use Rattle.routes.specs.Said.{octets_in, said_routing}

pub octets_one : (s t : Option Subaddress) → octets_in s ≡ octets_in t → s ≡ t
octets_one None None e = refl
octets_one None (Some t) e = cc
octets_one (Some s) None e = cc
octets_one (Some s) (Some t) e =
    let kind : s.kind ≡ t.kind = cc in
    let format : s.format ≡ t.format = cc in
    let branch : s.branch ≡ t.branch = cc in
    λ i. Some (record { kind = kind i; format = format i; branch = branch i })

same : (v w : Result RoutingAnswer Failure) → said_routing v ≡ said_routing w → v ≡ w
same (Err (Refused a)) (Err (Refused b)) e = ap (λ (r : Refusal). Err (Refused r)) (numbers.refusal_one a b cc)
same (Err (Refused a)) (Err (Error b)) e = cc
same (Err (Refused a)) (Ok (Outcome b)) e = cc
same (Err (Refused a)) (Ok (AskNetwork code)) e = cc
same (Err (Refused a)) (Ok (Routed m s)) e = cc
same (Err (Error a)) (Err (Refused b)) e = cc
same (Err (Error a)) (Err (Error b)) e = ap (λ (r : RequestError). Err (Error r)) (numbers.error_one a b cc)
same (Err (Error a)) (Ok (Outcome b)) e = cc
same (Err (Error a)) (Ok (AskNetwork code)) e = cc
same (Err (Error a)) (Ok (Routed m s)) e = cc
same (Ok (Outcome a)) (Err (Refused b)) e = cc
same (Ok (Outcome a)) (Err (Error b)) e = cc
same (Ok (Outcome a)) (Ok (Outcome b)) e = ap (λ (o : answers.Outcome). Ok (Outcome o)) (numbers.outcome_one a b cc)
same (Ok (Outcome a)) (Ok (AskNetwork code)) e = cc
same (Ok (Outcome a)) (Ok (Routed m s)) e = cc
same (Ok (AskNetwork c)) (Err (Refused b)) e = cc
same (Ok (AskNetwork c)) (Err (Error b)) e = cc
same (Ok (AskNetwork c)) (Ok (Outcome b)) e = cc
same (Ok (AskNetwork c)) (Ok (AskNetwork code)) e = cc
same (Ok (AskNetwork c)) (Ok (Routed m s)) e = cc
same (Ok (Routed l r)) (Err (Refused b)) e = cc
same (Ok (Routed l r)) (Err (Error b)) e = cc
same (Ok (Routed l r)) (Ok (Outcome b)) e = cc
same (Ok (Routed l r)) (Ok (AskNetwork code)) e = cc
same (Ok (Routed l r)) (Ok (Routed m s)) e =
    let one : l.0 ≡ m.0 = cc in
    let same_octets = octets_one r s cc in
    λ i. Ok (Routed (record { 0 = one i }) (same_octets i))

pub routing_one : (v w : Result RoutingAnswer Failure) (a : Answer) → said_routing v ≡ a → said_routing w ≡ a → v ≡ w
routing_one v w a p q = same v w (p ∙ sym q)
