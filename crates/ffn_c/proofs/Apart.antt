-- The structs lose nothing: from the four numbers the answer in document 01's words can be read back, and a routing's from its own. Assumes nothing.
use mathlib.Core.Path.{◌≡◌, refl, sym, ap, ◌∙◌}
use mathlib.Core.Bool.{Bool, true, false, not, cond, ◌||◌}
use mathlib.Core.Option.{Option, none, some}
use mathlib.Core.List.{List, [], ◌∷◌}
use Prim.Native.Nat.{ℕ, zero, suc, ◌<◌}
use lib.ListN.{take}
use lib.Dec.{eqb}
use borrow.Author.Tests.{not-true}
use Rattle.answers.proofs.Tests.{no_path, or_neither}
use Rattle.answers.proofs.Decide.{decide_each}
use Rattle.numbers.specs.declared.FunctionalNumber.{FunctionalNumber}
use Rattle.numbers.specs.declared.Msisdn.{Msisdn}
use Rattle.strings.specs.declared.Operation.{Operation}
use Rattle.strings.specs.declared.Operation.TheVariants as operation
use Rattle.frames.specs.Components.{Body, wrong, asks}
use Rattle.frames.specs.Messages.{Register, register_of}
use Rattle.records.specs.Steps.{is_due, delay_allowed}
use Rattle.rows.specs.Rows.{number_at, record_at}
use Rattle.tables.specs.Keys.{Found}
use Rattle.std.specs.Prelude.{Result, Ok, Err, Some, None}
use Rattle.tables.specs.Tables.{table_sound, rows_in}
use Rattle.states.specs.States.{State, figures_right, row_for, record_for, record_in}
use Rattle.rules.specs.Answers.{Answer, refusal, error, outcome, holder_is, return_error, reject, sent_to, delivered, dropped, again, found, none_due, ask_network, routed_to, Outcome, is_negative_number, refusing}
use Rattle.rules.specs.Answers as class
use Rattle.rules.specs.Requests.{saying}
use Rattle.rules.specs.Crews.{crew_number, Walk, crew_outcome, requesting}
use Rattle.rules.specs.Frames.{framed_checks, answered_in, in_frame, own_reply, bodied, registered, framed_request}
use Rattle.rules.specs.Notices as notices
use Rattle.rules.specs.Terminal.{terminal_erasure}
use Rattle.rules.proofs.Each.{request_each, terminal_each}
use Rattle.answers.specs.declared.Failure.{Failure}
use Rattle.answers.specs.declared.Failure.TheVariants.{Refused, Error}
use Rattle.routes.specs.declared.RoutingAnswer.{RoutingAnswer}
use Rattle.routes.specs.declared.RoutingAnswer.TheVariants.{Outcome as Answered, AskNetwork, Routed}
use Rattle.routes.proofs.Choice.{routing_one}
use Rattle.routes.specs.Said.{said_routing}
use Rattle.structs.specs.declared.Answer as numbers
use Rattle.structs_calls.specs.Answers.{of_answer}
use Rattle.structs_calls.specs.declared.Route.{Route}
use Rattle.structs_calls.specs.Routes.{of_route}

-- the answer that four numbers stand for
answer_of : ℕ → ℕ → ℕ → ℕ → Answer
answer_of c number count value =
    cond (eqb c class.refusal_class) (refusal number)
    (cond (eqb c class.error_class) (error number)
    (cond (eqb c class.outcome_class) (cond (eqb number class.interrogation_number) (holder_is value count) (outcome number count))
    (cond (eqb c class.sent_class) (sent_to value count)
    (cond (eqb c class.result_class) (cond (eqb number class.delivered_number) delivered (cond (eqb number class.dropped_number) dropped again))
    (cond (eqb c class.found_class) (found value)
    (cond (eqb c class.return_error_class) (return_error number count)
    (cond (eqb c class.reject_class) (reject number count) none_due)))))))

-- outcome 03 comes with the holder; a routing's answers have a struct of their own
tells : Answer → Bool
tells (refusal n) = true
tells (error n) = true
tells (outcome n octets) = not (eqb n class.interrogation_number)
tells (holder_is msisdn octets) = true
tells (return_error n octets) = true
tells (reject n octets) = true
tells (sent_to addressee octets) = true
tells delivered = true
tells dropped = true
tells again = true
tells (found number) = true
tells none_due = true
tells (ask_network code) = false
tells (routed_to msisdn subaddress) = false

IsTold : Answer → Type 0
IsTold a = tells a ≡ true

Tells : Outcome → Type 0
Tells o = IsTold o.answer

-- the answer, read back
pub read_back : numbers.Answer → Answer
read_back a = answer_of a.class a.number a.count a.value

back : (a : Answer) → IsTold a → read_back (of_answer a) ≡ a
unfolding answer_of tells IsTold read_back
back (refusal n) t = refl
back (error n) t = refl
back (outcome n octets) t = rw (not-true (eqb n 3) t)
back (holder_is msisdn octets) t = refl
back (return_error n octets) t = refl
back (reject n octets) t = refl
back (sent_to addressee octets) t = refl
back delivered t = refl
back dropped t = refl
back again t = refl
back (found number) t = refl
back none_due t = refl
back (ask_network code) t = no_path t
back (routed_to msisdn subaddress) t = no_path t

-- a negative outcome is not 03
denied : (state : State) (reply : List ℕ) (n : ℕ) → n < 100 → is_negative_number n ≡ true → Tells (saying n state reply)
unfolding tells IsTold Tells
denied state reply n l e =
    let other = or_neither (eqb n 1 || eqb n 2 || eqb n class.interrogation_number || eqb n class.crew_registered) (eqb n class.crew_erased) (not-true _ e) in
    let third = or_neither (eqb n 1 || eqb n 2 || eqb n class.interrogation_number) (eqb n class.crew_registered) other.0 in
    rw (or_neither (eqb n 1 || eqb n 2) (eqb n class.interrogation_number) third.0).1

-- ---- a request

request_tells :
    (state : State) (list reply : List ℕ) (requester : Msisdn) (scheme : ℕ) (string : List ℕ) → Tells (requesting state list reply requester scheme string)
unfolding tells IsTold Tells
request_tells state list reply requester scheme string =
    request_each state reply Tells (λ n. refl) (λ n. refl) (denied state reply) (λ new. refl) (λ new. refl) (λ msisdn. refl) (λ o w tallied. crew o w) list requester scheme string
  where
    crew : (o : Operation) (w : Walk) → Tells (crew_outcome (crew_number o) reply w)
    crew operation.Register w = refl
    crew operation.Erase w = refl
    crew operation.Interrogate w = refl

pub request_back :
    (state : State) (list reply : List ℕ) (requester : Msisdn) (scheme : ℕ) (string : List ℕ)
    → let a = (requesting state list reply requester scheme string).answer in read_back (of_answer a) ≡ a
unfolding Tells
request_back state list reply requester scheme string = back _ (request_tells state list reply requester scheme string)

-- ---- a framed request

-- the answer in its frame tells as much as the answer inside
framed_tells : (first number : ℕ) (frame : List ℕ) (o : Outcome) → Tells o → Tells (in_frame first number frame o)
unfolding tells IsTold Tells
framed_tells first number frame o t = go o.answer t
  where
    go : (a : Answer) → IsTold a → Tells (answered_in first number frame o.state o.buffer a)
    go (refusal n) t = refl
    go (error n) t = refl
    go (outcome n octets) t = t
    go (holder_is msisdn octets) t = refl
    go (return_error n octets) t = refl
    go (reject n octets) t = refl
    go (sent_to addressee octets) t = refl
    go delivered t = refl
    go dropped t = refl
    go again t = refl
    go (found number) t = refl
    go none_due t = refl
    go (ask_network code) t = no_path t
    go (routed_to msisdn subaddress) t = no_path t

module _ (state : State) (list frame : List ℕ) (requester : Msisdn) where
  abbrev asked : ℕ → List ℕ → Outcome
  asked scheme string = requesting state list own_reply requester scheme string

  body_tells : (first number : ℕ) (body : Body) → Tells (bodied asked state frame first number body)
  unfolding tells IsTold Tells
  body_tells first number (wrong problem) = refl
  body_tells first number (asks scheme string) = framed_tells first number frame (asked scheme string) (request_tells state list own_reply requester scheme string)

  read_tells : (o : Option Register) → Tells (registered asked state frame o)
  unfolding tells IsTold Tells
  read_tells none = refl
  read_tells (some r) = body_tells r.first r.number r.body

  pub framed_back : (message : List ℕ) → let a = (framed_request state list frame requester message).answer in read_back (of_answer a) ≡ a
  unfolding tells IsTold Tells framed_request
  framed_back message =
      back _
      (decide_each Tells (refusing state frame (framed_checks (table_sound state.table) (figures_right state) list frame message)) (registered asked state frame (register_of message))
      (refl, (refl, (refl, (refl, (refl, tt))))) (read_tells (register_of message)))

-- ---- an erasure at the terminal

pub terminal_back :
    (state : State) (reply : List ℕ) (number : FunctionalNumber) (holder : Msisdn)
    → let a = (terminal_erasure state reply number holder).answer in read_back (of_answer a) ≡ a
unfolding tells IsTold Tells
terminal_back state reply number holder =
    back _ (terminal_each state reply Tells (λ n. refl) (λ n. refl) (denied state reply) (λ new. refl) (λ new. refl) (λ msisdn. refl) number holder)

-- ---- a sending

sent_tells : (number : FunctionalNumber) (place : Found) (state : State) (buffer : List ℕ) → Tells (notices.sent_at number place state buffer)
unfolding tells IsTold Tells
sent_tells number None state buffer = refl
sent_tells number (Some i) state buffer = refl

pub sending_back :
    (state : State) (buffer : List ℕ) (number : FunctionalNumber) (delay clock : ℕ)
    → let a = (notices.sending_notice state buffer number delay clock).answer in read_back (of_answer a) ≡ a
unfolding tells IsTold Tells notices.sending_notice
sending_back state buffer number delay clock =
    back _
    (decide_each Tells (refusing state buffer (notices.sending_checks (table_sound state.table) (figures_right state) buffer number.0 (record_for state number.0) delay clock))
    (notices.sent_at number (row_for state number.0) state buffer)
    (refl, (refl, (refl, (refl, (refl, (refl, (refl, tt)))))))
    (sent_tells number (row_for state number.0) state buffer))

-- ---- a result

resulted_tells : (kind clock : ℕ) (place : Found) (state : State) → Tells (notices.result_at kind clock place state)
unfolding tells IsTold Tells
resulted_tells kind clock None state = refl
resulted_tells kind clock (Some i) state =
    decide_each IsTold ((eqb kind 0, delivered) ∷ (notices.clears kind (record_in state i).notice, dropped) ∷ []) again (refl, (refl, tt)) refl

pub result_back :
    (state : State) (number : FunctionalNumber) (kind clock : ℕ)
    → let a = (notices.taking_result state number kind clock).answer in read_back (of_answer a) ≡ a
unfolding tells IsTold Tells notices.taking_result
result_back state number kind clock =
    back _
    (decide_each Tells (refusing state [] (notices.result_checks (table_sound state.table) (figures_right state) number.0 (record_for state number.0) kind))
    (notices.result_at kind clock (row_for state number.0) state)
    (refl, (refl, (refl, (refl, (refl, tt)))))
    (resulted_tells kind clock (row_for state number.0) state))

-- ---- a finding

first_tells : (table : List ℕ) (delay clock n i : ℕ) → IsTold (notices.first_due table delay clock n i)
unfolding tells IsTold notices.first_due
first_tells table delay clock zero i = refl
first_tells table delay clock (suc n) i =
    decide_each IsTold ((is_due delay clock (record_at table i).notice, found (number_at table i)) ∷ []) (notices.first_due table delay clock n (suc i)) (refl, tt)
    (first_tells table delay clock n (suc i))

pub finding_back : (table : List ℕ) (delay clock : ℕ) → let a = notices.finding table delay clock in read_back (of_answer a) ≡ a
unfolding tells IsTold notices.finding
finding_back table delay clock =
    back _
    (decide_each IsTold ((not (table_sound table), refusal 2) ∷ (not (delay_allowed delay), refusal 6) ∷ []) (notices.first_due table delay clock (rows_in table) 0)
    (refl, (refl, tt)) (first_tells table delay clock (rows_in table) 0))

-- ---- a routing, whose struct is another

-- the answer in the paper's words, read back
pub route_back : Route → Answer
route_back r =
    cond (eqb r.class class.refusal_class) (refusal r.number)
    (cond (eqb r.class class.error_class) (error r.number)
    (cond (eqb r.class class.outcome_class) (outcome r.number 0)
    (cond (eqb r.class class.ask_network_class) (ask_network r.code) (routed_to r.msisdn (take r.subaddress_octets r.subaddress)))))

pub routing_back : (a : Result RoutingAnswer Failure) → route_back (of_route (said_routing a)) ≡ said_routing a
unfolding route_back
routing_back (Err (Refused r)) = refl
routing_back (Err (Error e)) = refl
routing_back (Ok (Answered o)) = refl
routing_back (Ok (AskNetwork code)) = refl
routing_back (Ok (Routed msisdn None)) = refl
routing_back (Ok (Routed msisdn (Some s))) = refl

-- so the struct tells the answers of a routing apart
pub routing_apart : (v w : Result RoutingAnswer Failure) → of_route (said_routing v) ≡ of_route (said_routing w) → v ≡ w
routing_apart v w e = routing_one v w (said_routing w) (sym (routing_back v) ∙ ap route_back e ∙ routing_back w) refl
