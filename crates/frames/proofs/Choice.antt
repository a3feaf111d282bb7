-- The readers leave no choice: two answers that a contract allows for the same octets are equal, since what is read tells the answer. Assumes nothing.
use mathlib.Core.Path.{◌≡◌, refl, sym, ap, ◌∙◌}
use mathlib.Core.Bool.{cond}
use mathlib.Core.Option.{Option, none, some}
use mathlib.Core.List.{List}
use Prim.Native.Nat.{ℕ, ◌-◌, ◌≤◌}
use native.Mathlib.Omega.{arith}
use lib.Dec.{eqb}
use lib.ListN.{length, take}
use lib.Seq.{length-take-le}
use Rattle.std.specs.Prelude.{Some, None, Result, Ok, Err}
use Rattle.std.specs.Prelude as core
use Rattle.answers.specs.declared.Refusal.{Refusal}
use Rattle.answers.specs.declared.Refusal.TheVariants.{NoMessage}
use Rattle.answers.specs.Numbers.{refusal_number}
use Rattle.answers.proofs.Numbers.{refusal_one}
use Rattle.frames.specs.Components as components
use Rattle.frames.specs.Components.{invoke_of, Component, component_of}
use Rattle.frames.specs.Messages as messages
use Rattle.frames.specs.Messages.{register_of, release_of}
use Rattle.frames.specs.declared.Asked.{Asked}
use Rattle.frames.specs.declared.Problem.{Problem}
use Rattle.frames.specs.declared.Problem.TheVariants.{UnrecognizedOperation, MistypedParameter}
use Rattle.frames.specs.declared.Invoke.{Invoke}
use Rattle.frames.specs.declared.Register.{Register}
use Rattle.frames.specs.declared.Answer.{Answer}
use Rattle.frames.specs.declared.Answer.TheVariants as answer
use Rattle.frames.specs.declared.Release.{Release}
use Rattle.frames.specs.Read.{problem_number, told_body, told_invoke, or_unread, told_register, told_component, told_answer, told_release}
use Rattle.frames.proofs.Places.{length_last}
use Rattle.frames.proofs.Bodies.{Within}
use Rattle.frames.proofs.Messages.{invoke_within, answer_within}
use Rattle.frames.proofs.Inside.{unread_ok, unread_err, count_within, result_within}

-- ---- what stands behind an invoke number

problem_answer : ℕ → Problem
problem_answer n = cond (eqb n 1) UnrecognizedOperation MistypedParameter

problem_back : (p : Problem) → p ≡ problem_answer (problem_number p)
unfolding problem_answer
problem_back UnrecognizedOperation = refl
problem_back MistypedParameter = refl

-- a number is the code of one problem
pub problem_one : (p q : Problem) → problem_number p ≡ problem_number q → p ≡ q
problem_one p q e = problem_back p ∙ ap problem_answer e ∙ sym (problem_back q)

body_answer : components.Body → Result Asked Problem
body_answer (components.wrong problem) = Err (problem_answer problem)
body_answer (components.asks scheme string) = Ok (record { scheme = scheme; count = length string })

body_only : (b : Result Asked Problem) (s : List ℕ) → Within b s → b ≡ body_answer (told_body b s)
unfolding body_answer
body_only (Err problem) s h = ap Err (problem_back problem)
body_only (Ok a) s h = ap (λ (n : ℕ). Ok (record { scheme = a.scheme; count = n })) (sym (length_last a.count s h))

-- ---- a request

invoke_answer : Option components.Invoke → core.Option Invoke
invoke_answer none = None
invoke_answer (some v) = Some (record { number = v.number; body = body_answer v.body })

invoke_only : (s : List ℕ) (a : core.Option Invoke) → told_invoke a s ≡ invoke_of s → a ≡ invoke_answer (invoke_of s)
unfolding invoke_answer
invoke_only s (Some v) h =
    ap (λ (b : Result Asked Problem). Some (record { number = v.number; body = b })) (body_only v.body s (invoke_within v s h)) ∙ ap invoke_answer h
invoke_only s None h = ap invoke_answer h

pub read_invoke_one : (s : List ℕ) (a b : core.Option Invoke) → told_invoke a s ≡ invoke_of s → told_invoke b s ≡ invoke_of s → a ≡ b
read_invoke_one s a b p q = invoke_only s a p ∙ sym (invoke_only s b q)

-- ---- a Register

register_answer : Refusal → Option messages.Register → Result Register Refusal
register_answer refusal none = Err refusal
register_answer refusal (some v) = Ok (record { first = v.first; number = v.number; body = body_answer v.body })

register_within : (s : List ℕ) (v : Register) → told_register (Ok v) s ≡ or_unread (register_of s) → Within v.body (take (length s - length messages.version) s)
register_within s v h = go v.body refl
  where
    go : (b : Result Asked Problem) → v.body ≡ b → Within b (take (length s - length messages.version) s)
    go (Err problem) e = tt
    go (Ok a) e = omega (arith, count_within s h v refl a e, length-take-le (length s - length messages.version) s (omega arith))

register_only : (s : List ℕ) (v : Register) (refusal : Refusal) → told_register (Ok v) s ≡ or_unread (register_of s) → Ok v ≡ register_answer refusal (register_of s)
unfolding register_answer
register_only s v refusal h =
    ap (λ (b : Result Asked Problem). Ok (record { first = v.first; number = v.number; body = b })) (body_only v.body (take (length s - length messages.version) s) (register_within s v h))
    ∙ ap (register_answer refusal) (unread_ok (register_of s) h)

pub read_register_one :
    (s : List ℕ) (a b : Result Register Refusal) → told_register a s ≡ or_unread (register_of s) → told_register b s ≡ or_unread (register_of s) → a ≡ b
read_register_one s (Ok v) (Ok w) p q = register_only s v NoMessage p ∙ sym (register_only s w NoMessage q)
read_register_one s (Ok v) (Err y) p q = absurd (let e : told_register (Ok v) s ≡ Err (refusal_number y) = p ∙ sym q in cc)
read_register_one s (Err x) (Ok w) p q = absurd (let e : told_register (Ok w) s ≡ Err (refusal_number x) = q ∙ sym p in cc)
read_register_one s (Err x) (Err y) p q = ap Err (refusal_one x y ((unread_err (register_of s) p).1 ∙ sym (unread_err (register_of s) q).1))

-- ---- an answer

component_answer : Component → Answer
component_answer (components.result n x) = answer.Result n (length x)
component_answer (components.error n code) = answer.Error n code
component_answer (components.reject n problem) = answer.Reject n problem

-- the string of a result lies in what is read
abbrev Fits : Answer → List ℕ → Type 0
Fits (answer.Result n count) s = count ≤ length s
Fits (answer.Error n code) s = Unit {0}
Fits (answer.Reject n problem) s = Unit {0}

component_only : (a : Answer) (s : List ℕ) → Fits a s → a ≡ component_answer (told_component a s)
unfolding component_answer
component_only (answer.Result n count) s h = ap (answer.Result n) (sym (length_last count s h))
component_only (answer.Error n code) s h = refl
component_only (answer.Reject n problem) s h = refl

answer_fits : (a : Answer) (s : List ℕ) → told_answer (Some a) s ≡ component_of s → Fits a s
answer_fits (answer.Result n count) s h = answer_within s n count h
answer_fits (answer.Error n code) s h = tt
answer_fits (answer.Reject n problem) s h = tt

answer_answer : Option Component → core.Option Answer
answer_answer none = None
answer_answer (some c) = Some (component_answer c)

answer_only : (s : List ℕ) (a : core.Option Answer) → told_answer a s ≡ component_of s → a ≡ answer_answer (component_of s)
unfolding answer_answer
answer_only s (Some a) h = ap (λ (x : Answer). Some x) (component_only a s (answer_fits a s h)) ∙ ap answer_answer h
answer_only s None h = ap answer_answer h

pub read_answer_one : (s : List ℕ) (a b : core.Option Answer) → told_answer a s ≡ component_of s → told_answer b s ≡ component_of s → a ≡ b
read_answer_one s a b p q = answer_only s a p ∙ sym (answer_only s b q)

-- ---- a Release Complete

release_answer : Refusal → Option messages.Release → Result Release Refusal
release_answer refusal none = Err refusal
release_answer refusal (some r) = Ok (record { first = r.first; answer = component_answer r.answer })

release_fits : (s : List ℕ) (v : Release) → told_release (Ok v) s ≡ or_unread (release_of s) → Fits v.answer s
release_fits s v h = go v.answer refl
  where
    go : (a : Answer) → v.answer ≡ a → Fits a s
    go (answer.Result n count) e = result_within s h v refl n count e
    go (answer.Error n code) e = tt
    go (answer.Reject n problem) e = tt

release_only : (s : List ℕ) (v : Release) (refusal : Refusal) → told_release (Ok v) s ≡ or_unread (release_of s) → Ok v ≡ release_answer refusal (release_of s)
unfolding release_answer
release_only s v refusal h =
    ap (λ (a : Answer). Ok (record { first = v.first; answer = a })) (component_only v.answer s (release_fits s v h)) ∙ ap (release_answer refusal) (unread_ok (release_of s) h)

pub read_release_one :
    (s : List ℕ) (a b : Result Release Refusal) → told_release a s ≡ or_unread (release_of s) → told_release b s ≡ or_unread (release_of s) → a ≡ b
read_release_one s (Ok v) (Ok w) p q = release_only s v NoMessage p ∙ sym (release_only s w NoMessage q)
read_release_one s (Ok v) (Err y) p q = absurd (let e : told_release (Ok v) s ≡ Err (refusal_number y) = p ∙ sym q in cc)
read_release_one s (Err x) (Ok w) p q = absurd (let e : told_release (Ok w) s ≡ Err (refusal_number x) = q ∙ sym p in cc)
read_release_one s (Err x) (Err y) p q = ap Err (refusal_one x y ((unread_err (release_of s) p).1 ∙ sym (unread_err (release_of s) q).1))
