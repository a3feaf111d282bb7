-- The string inside a message: the count that a reader tells is its own, and it stands where that count puts it. Assumes nothing.
use mathlib.Core.Path.{◌≡◌, refl, sym, ap, ◌∙◌}
use mathlib.Core.Option.{Option, none, some}
use mathlib.Core.List.{List, [], ◌∷◌, ◌++◌, append_assoc, append-nil}
use Prim.Native.Nat.{ℕ, ◌+◌, ◌-◌, ◌≤◌, ◌<◌}
use native.Mathlib.Omega.{arith}
use lib.ListN.{length, take, drop, length-append, take-append-drop}
use lib.Seq.{length-take-le, take-append_seam, drop_at}
use Rattle.std.specs.Prelude.{Result, Ok, Err}
use Rattle.answers.specs.declared.Refusal.{Refusal}
use Rattle.strings.specs.Text.{coding_scheme}
use Rattle.frames.specs.Parts.{length_octets, part, octet_part}
use Rattle.frames.specs.Components.{invoke_tag, result_tag, integer_tag, sequence_tag, octets_tag, operation, argument, invoke, component}
use Rattle.frames.specs.Components.Body.{asks}
use Rattle.frames.specs.Components.Component.{result}
use Rattle.frames.specs.Messages.{facility, register_type, release_type, version, unread_message, headed, register, register_of, release, release_of}
use Rattle.frames.specs.declared.Asked.{Asked}
use Rattle.frames.specs.declared.Register.{Register}
use Rattle.frames.specs.declared.Answer.TheVariants as answer
use Rattle.frames.specs.declared.Release.{Release}
use Rattle.frames.specs.Read.{last_of, told_body, or_unread, told_register, told_component, told_release}
use Rattle.frames.proofs.Parts.{part_drop}
use Rattle.frames.proofs.Exact.{register_only, release_only}
use Rattle.frames.proofs.Places.{last_behind, length_last}
use Rattle.frames.proofs.Bodies.{last_proper, argument_longer, invoke_longer, result_longer}

-- ---- read, or refused

module _ {X : Type 0} where
  pub unread_ok : (o : Option X) {x : X} → Ok x ≡ or_unread o → some x ≡ o
  unread_ok none {x} e = absurd cc
  unread_ok (some y) {x} e = let k : x ≡ y = cc in ap some k

  pub unread_err : (o : Option X) {n : ℕ} → Err n ≡ or_unread o → (o ≡ none) × (n ≡ unread_message)
  unread_err none {n} e = (refl, cc)
  unread_err (some x) {n} e = absurd cc

-- ---- the count of a Register: its string lies before the SS version

module _ (s : List ℕ) {r : Result Register Refusal} (told : told_register r s ≡ or_unread (register_of s)) (v : Register) (e : r ≡ Ok v) where
  abbrev before : List ℕ
  before = take (length s - length version) s

  pub register_so : some (record { first = v.first; number = v.number; body = told_body v.body before }) ≡ register_of s
  register_so = unread_ok (register_of s) (rw e at told)

  module _ (a : Asked) (b : v.body ≡ Ok a) where
    pub asks_so : some (record { first = v.first; number = v.number; body = asks a.scheme (last_of a.count before) }) ≡ register_of s
    asks_so = rw b at register_so

    longer : length version + length (last_of a.count before) < length s
    unfolding register
    longer =
        let x = last_of a.count before in
        omega
        (arith, ap length (register_only s v.first v.number a.scheme x (sym asks_so)).0, length-append (headed v.first register_type (invoke v.number a.scheme x)) version, invoke_longer v.number a.scheme x)

    pub version_within : length version ≤ length s
    version_within = omega (arith, longer)

    before_version : length before ≡ length s - length version
    before_version = length-take-le (length s - length version) s (omega arith)

    pub count_within : a.count ≤ length s - length version
    count_within = rw before_version at (last_proper a.count before (omega (arith, longer, before_version)))

    pub register_count : length (last_of a.count before) ≡ a.count
    register_count = length_last a.count before (omega (arith, count_within, before_version))

-- ---- the count of a Release Complete: its string ends it

module _ (s : List ℕ) {r : Result Release Refusal} (told : told_release r s ≡ or_unread (release_of s)) (v : Release) (e : r ≡ Ok v) where
  pub release_so : some (record { first = v.first; answer = told_component v.answer s }) ≡ release_of s
  release_so = unread_ok (release_of s) (rw e at told)

  module _ (n count : ℕ) (b : v.answer ≡ answer.Result n count) where
    pub result_so : some (record { first = v.first; answer = result n (last_of count s) }) ≡ release_of s
    result_so = rw b at release_so

    pub result_within : count ≤ length s
    unfolding release
    result_within =
        let x = last_of count s in
        last_proper count s (omega (arith, ap length (release_only s (record { first = v.first; answer = result n x }) (sym result_so)).0, result_longer n x))

    pub result_count : length (last_of count s) ≡ count
    result_count = length_last count s result_within

-- ---- the place: a component ends in its string

part_last : (tag n : ℕ) (c : List ℕ) → n ≤ length c → last_of n (part tag c) ≡ last_of n c
unfolding part
part_last tag n c h = last_behind n (tag ∷ length_octets (length c)) c h

last_all : (x : List ℕ) → last_of (length x) x ≡ x
last_all x =
    let e : length x - length x ≡ 0 = omega arith in
    rw e

argument_last : (k : ℕ) (x : List ℕ) → last_of (length x) (operation ++ argument k x) ≡ x
argument_last k x =
    let n = length x in
    let inner = octet_part octets_tag k ++ part octets_tag x in
    let l = (part_drop octets_tag x).0 in
    let m = (part_drop sequence_tag inner).0 in
    last_behind n operation (argument k x) (omega arith) ∙ part_last sequence_tag n inner (omega arith)
    ∙ last_behind n (octet_part octets_tag k) (part octets_tag x) (omega arith) ∙ part_last octets_tag n x (omega arith) ∙ last_all x

invoke_last : (i k : ℕ) (x : List ℕ) → last_of (length x) (invoke i k x) ≡ x
unfolding invoke
invoke_last i k x =
    let l = argument_longer k x in
    let rest = operation ++ argument k x in
    part_last invoke_tag (length x) (octet_part integer_tag i ++ rest) (omega arith) ∙ last_behind (length x) (octet_part integer_tag i) rest (omega arith) ∙ argument_last k x

result_last : (i : ℕ) (x : List ℕ) → last_of (length x) (component (result i x)) ≡ x
unfolding component
result_last i x =
    let l = argument_longer coding_scheme x in
    let rest = operation ++ argument coding_scheme x in
    let m = (part_drop sequence_tag rest).0 in
    part_last result_tag (length x) (octet_part integer_tag i ++ part sequence_tag rest) (omega arith)
    ∙ last_behind (length x) (octet_part integer_tag i) (part sequence_tag rest) (omega arith) ∙ part_last sequence_tag (length x) rest (omega arith)
    ∙ argument_last coding_scheme x

-- what a message's component ends in stands before what lies behind it
headed_place :
    (f type : ℕ) (c rest x : List ℕ) (at : ℕ) → length x ≤ length c → last_of (length x) c ≡ x → at + (length x + length rest) ≡ length (headed f type c ++ rest)
    → take (length x) (drop at (headed f type c ++ rest)) ≡ x
headed_place f type c rest x at h last place =
    let m = headed f type c in
    let k : at ≡ length m - length x = omega (arith, length-append m rest) in
    let e : drop at m ≡ x = rw k (last_behind (length x) (f ∷ type ∷ facility ∷ length c ∷ []) c h ∙ last) in
    let p : m ≡ take at m ++ x = sym (take-append-drop at m) ∙ ap (λ (y : List ℕ). take at m ++ y) e in
    let q : m ++ rest ≡ take at m ++ (x ++ rest) = ap (λ (y : List ℕ). y ++ rest) p ∙ append_assoc (take at m) x rest in
    rw (q, drop_at (take at m) (x ++ rest) at (length-take-le at m (omega arith))) (take-append_seam x rest)

pub register_place :
    (s : List ℕ) (f n k : ℕ) (x : List ℕ) → register_of s ≡ some (record { first = f; number = n; body = asks k x })
    → take (length x) (drop (length s - length version - length x) s) ≡ x
unfolding register
register_place s f n k x e =
    let c = invoke n k x in
    let l = invoke_longer n k x in
    let p = (register_only s f n k x e).0 in
    let at = length s - length version - length x in
    ap (λ (y : List ℕ). take (length x) (drop at y)) p
    ∙ headed_place f register_type c version x at (omega arith) (invoke_last n k x) (omega (arith, length-append (headed f register_type c) version, ap length p))

pub release_place :
    (s : List ℕ) (f n : ℕ) (x : List ℕ) → release_of s ≡ some (record { first = f; answer = result n x }) → take (length x) (drop (length s - length x) s) ≡ x
unfolding release
release_place s f n x e =
    let c = component (result n x) in
    let l = result_longer n x in
    let p = (release_only s (record { first = f; answer = result n x }) e).0 ∙ sym (append-nil (headed f release_type c)) in
    ap (λ (y : List ℕ). take (length x) (drop (length s - length x) y)) p
    ∙ headed_place f release_type c [] x (length s - length x) (omega arith) (result_last n x) (omega (arith, length-append (headed f release_type c) [], ap length p))
