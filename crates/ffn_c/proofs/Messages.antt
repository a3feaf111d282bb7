-- The struct of the message readers loses nothing: with the message, what was read can be read back from its numbers. Assumes nothing.
use mathlib.Core.Path.{◌≡◌, refl, ap}
use mathlib.Core.Bool.{cond}
use mathlib.Core.Option.{Option, none, some}
use mathlib.Core.List.{List}
use Prim.Native.Nat.{ℕ}
use lib.ListN.{take, drop}
use lib.Dec.{eqb}
use Rattle.frames.specs.Components.{Body, wrong, asks, Component, result, error, reject}
use Rattle.frames.specs.Messages.{Register, register_of, Release, release_of}
use Rattle.frames.proofs.Inside.{register_place, release_place}
use Rattle.rules.specs.Answers.{refusal_class, return_error_class, reject_class}
use Rattle.structs_read.specs.declared.FrameRead.{FrameRead}
use Rattle.structs_read.specs.Frames.{of_body, of_register, of_component, of_release}

-- the string, at its place in the message
string_in : List ℕ → FrameRead → List ℕ
string_in message r = take r.length (drop r.start message)

-- ---- a Register

body_back : List ℕ → FrameRead → Body
body_back message r = cond (eqb r.class reject_class) (wrong r.number) (asks r.scheme (string_in message r))

pub register_back : List ℕ → FrameRead → Option Register
register_back message r =
    cond (eqb r.class refusal_class) none (some (record { first = r.first; number = r.invoke; body = body_back message r }))

pub register_back_lem : (message : List ℕ) → register_back message (of_register message (register_of message)) ≡ register_of message
unfolding string_in body_back register_back
register_back_lem message = go (register_of message) refl
  where
    bodied :
        (f n : ℕ) (b : Body) → register_of message ≡ some (record { first = f; number = n; body = b })
        → register_back message (of_body message f n b) ≡ some (record { first = f; number = n; body = b })
    bodied f n (wrong problem) e = refl
    bodied f n (asks k x) e = ap (λ (y : List ℕ). some (record { first = f; number = n; body = asks k y })) (register_place message f n k x e)

    go : (o : Option Register) → register_of message ≡ o → register_back message (of_register message o) ≡ o
    go none e = refl
    go (some r) e = bodied r.first r.number r.body e

-- ---- a Release Complete

component_back : List ℕ → FrameRead → Component
component_back message r =
    cond (eqb r.class return_error_class) (error r.invoke r.number)
    (cond (eqb r.class reject_class) (reject r.invoke r.number) (result r.invoke (string_in message r)))

pub release_back : List ℕ → FrameRead → Option Release
release_back message r = cond (eqb r.class refusal_class) none (some (record { first = r.first; answer = component_back message r }))

pub release_back_lem : (message : List ℕ) → release_back message (of_release message (release_of message)) ≡ release_of message
unfolding string_in component_back release_back
release_back_lem message = go (release_of message) refl
  where
    answered :
        (f : ℕ) (c : Component) → release_of message ≡ some (record { first = f; answer = c })
        → release_back message (of_component message f c) ≡ some (record { first = f; answer = c })
    answered f (result n x) e = ap (λ (y : List ℕ). some (record { first = f; answer = result n y })) (release_place message f n x e)
    answered f (error n code) e = refl
    answered f (reject n problem) e = refl

    go : (o : Option Release) → release_of message ≡ o → release_back message (of_release message o) ≡ o
    go none e = refl
    go (some r) e = answered r.first r.answer e
