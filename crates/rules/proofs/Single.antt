-- A call that is no crew's is a single one. Assumes nothing.
use mathlib.Core.Path.{◌≡◌, refl, ap, ◌∙◌}
use mathlib.Core.Option.{Option, none, some}
use mathlib.Core.List.{List, [], ◌∷◌}
use Prim.Native.Nat.{ℕ}
use Rattle.answers.specs.Checks.{decide}
use Rattle.numbers.specs.declared.Msisdn.{Msisdn}
use Rattle.strings.specs.Text.{Request}
use Rattle.strings.specs.Outcomes.{request_of}
use Rattle.frames.specs.Components.{Body, wrong, asks}
use Rattle.frames.specs.Messages.{Register, register_of}
use Rattle.tables.specs.Tables.{table_sound}
use Rattle.states.specs.States.{State, figures_right}
use Rattle.rules.specs.Answers.{refusing}
use Rattle.rules.specs.Crews.{requesting}
use Rattle.rules.specs.Frames.{framed_checks, in_frame, own_reply, bodied, registered, framed_request}
use Rattle.rules.specs.Run.{end, log}
use Rattle.rules.specs.Calls.{Call, request, framed, sending, result, terminal, routes, Reply, replied, call, codes_read, codes_of}
use Rattle.rules.proofs.Once.{requesting_once, framed_once, single}

request_single : (t : State) (list reply : List ℕ) (requester : Msisdn) (scheme : ℕ) (string : List ℕ) → codes_read (request_of string) ≡ none
    → requesting t list reply requester scheme string ≡ requesting_once t list reply requester scheme string
unfolding requesting requesting_once
request_single t list reply requester scheme string e = go (request_of string) refl e
  where
    go : (read : Option Request) → request_of string ≡ read → codes_read read ≡ none
        → requesting t list reply requester scheme string ≡ requesting_once t list reply requester scheme string
    go none r e = rw r refl
    go (some f) r e = rw (r, e) refl

pub call_single : (list : List ℕ) (delay : ℕ) (c : Call) (t : State) → codes_of c ≡ none → call list delay c t ≡ single list delay c t
unfolding framed_request framed_once
call_single list delay (request requester scheme string reply) t e = ap replied (request_single t list reply requester scheme string e)
call_single list delay (framed requester message frame) t e =
    ap (λ done. replied (decide (refusing t frame (framed_checks (table_sound t.table) (figures_right t) list frame message)) done)) (by_register (register_of message) refl)
  where
    by_body : (r : Register) → register_of message ≡ some r → (body : Body) → r.body ≡ body
        → bodied (requesting t list own_reply requester) t frame r.first r.number body
        ≡ bodied (requesting_once t list own_reply requester) t frame r.first r.number body
    by_body r q (wrong problem) b = refl
    by_body r q (asks scheme string) b =
        ap (in_frame r.first r.number frame) (request_single t list own_reply requester scheme string (rw (q, b) at e))

    by_register : (read : Option Register) → register_of message ≡ read
        → registered (requesting t list own_reply requester) t frame read ≡ registered (requesting_once t list own_reply requester) t frame read
    by_register none q = refl
    by_register (some r) q = by_body r q r.body refl
call_single list delay (sending now number buffer) t e = refl
call_single list delay (result now number kind) t e = refl
call_single list delay (terminal number holder reply) t e = refl
call_single list delay (routes home coded asked) t e = refl

-- a list of such calls
abbrev pub AllSingle : List Call → Type 0
AllSingle [] = Unit {0}
AllSingle (c ∷ cs) = (codes_of c ≡ none) × AllSingle cs

module _ (list : List ℕ) (delay : ℕ) where
  pub singles_end : (cs : List Call) (t : State) → AllSingle cs → end (call list delay) cs t ≡ end (single list delay) cs t
  singles_end [] t a = refl
  singles_end (c ∷ cs) t (e, a) = ap (λ r. end (call list delay) cs r.1) (call_single list delay c t e) ∙ singles_end cs (single list delay c t).1 a

  pub singles_log : (cs : List Call) (t : State) → AllSingle cs → log (call list delay) cs t ≡ log (single list delay) cs t
  singles_log [] t a = refl
  singles_log (c ∷ cs) t (e, a) =
      ap (λ (r : Reply × State). (c, r.0) ∷ log (call list delay) cs r.1) (call_single list delay c t e)
      ∙ ap (λ l. (c, (single list delay c t).0) ∷ l) (singles_log cs (single list delay c t).1 a)
