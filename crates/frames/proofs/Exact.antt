-- Each reader reads exactly the octets that are written for what it reads: components and messages, so each has one reading. Assumes nothing.
use mathlib.Core.Path.{◌≡◌, refl, sym, ap, ◌∙◌}
use mathlib.Core.Logic.{◌↔◌, ⊎_elim}
use mathlib.Core.Bool.{Bool, true, false, cond}
use mathlib.Core.Option.{Option, none, some, some-injective}
use mathlib.Core.List.{List, [], ◌∷◌, ◌++◌, append-nil}
use Prim.Native.Nat.{ℕ}
use native.Mathlib.Omega.{arith}
use lib.ListN.{length, drop, take-append-drop, length-append, drop_of_length-le}
use lib.Seq.{length-take-le, take-append_seam, drop-append_seam}
use lib.Dec.{leb, eqb}
use borrow.Author.Tests.{leb-true, le-leb, eqb-true, eq-eqb}
use Rattle.answers.specs.Begins.{begins, behind}
use Rattle.answers.specs.Checks.{◌>>=◌}
use Rattle.answers.proofs.Begins.{begins_only, behind_only}
use Rattle.answers.proofs.Checks.{not_some, bind_some, only_if_some}
use Rattle.answers.proofs.Tests.{and_left, and_right}
use Rattle.strings.specs.Text.{coding_scheme}
use Rattle.strings.proofs.Exact.{else_some}
use Rattle.frames.specs.Parts.{part, octet_part, contents_of, first_of, octet_at}
use Rattle.frames.specs.Components.{result_tag, error_tag, reject_tag, integer_tag, sequence_tag, octets_tag, problem_tag, invoke_tag, operation, argument, invoke, Component, component, Body, unrecognized_operation, mistyped_parameter, argument_of, or_wrong, argued, body_of, Invoke, invoke_of, most_result_octets, readable_answer, string_of, result_of, Pair, pair_of, error_of, reject_of, component_of}
use Rattle.frames.specs.Components.Component.{result, error, reject}
use Rattle.frames.specs.Components.Body.{wrong, asks}
use Rattle.frames.specs.Messages.{register_type, release_type, facility, version, headed, register, release, first_octet, Message, message_of, Register, is_version, ending, register_of, Release, release_of}
use Rattle.frames.proofs.Parts.{contents_only, contents_back, contents_other, octet_only, octet_back, first_only}

-- ---- what stands behind an invoke number

pub argument_only : (s : List ℕ) {k : ℕ} {x : List ℕ} → argument_of s ≡ some (asks k x) → s ≡ argument k x
argument_only s h =
    bind_some (contents_of sequence_tag s) _ h λ contents a ha.
    bind_some (octet_at octets_tag contents) _ ha λ scheme b hb.
    bind_some (contents_of octets_tag scheme.rest) _ hb λ string d hd.
    let p = contents_only sequence_tag s a in
    let q = octet_only octets_tag contents b in
    let r = contents_only octets_tag scheme.rest d in
    cc

not_wrong : {A : Type 0} {p k : ℕ} {x : List ℕ} → wrong p ≡ asks k x → A
not_wrong e = absurd (let z : ◌≡◌ {A = ℕ} 0 1 = cc in omega arith)

-- an argument is no problem
argument_asks : {A : Type 0} (s : List ℕ) {p : ℕ} → argument_of s ≡ some (wrong p) → A
argument_asks s h =
    bind_some (contents_of sequence_tag s) _ h λ contents a ha.
    bind_some (octet_at octets_tag contents) _ ha λ scheme b hb.
    bind_some (contents_of octets_tag scheme.rest) _ hb λ string d hd.
    not_wrong (sym (some-injective _ _ hd))

pub body_only : (s : List ℕ) {k : ℕ} {x : List ℕ} → body_of s ≡ asks k x → s ≡ operation ++ argument k x
unfolding body_of
body_only s {k} {x} h = go (behind operation s) refl h
  where
    inner : (o : Option Body) → or_wrong mistyped_parameter o ≡ asks k x → o ≡ some (asks k x)
    inner none e = not_wrong e
    inner (some b) e = ap some e

    go : (o : Option (List ℕ)) → behind operation s ≡ o → argued o ≡ asks k x → s ≡ operation ++ argument k x
    go none b e = not_wrong e
    go (some rest) b e = behind_only operation s b ∙ ap (λ (l : List ℕ). operation ++ l) (argument_only rest (inner (argument_of rest) e))

pub body_back_lem : (k : ℕ) (x : List ℕ) → body_of (operation ++ argument k x) ≡ asks k x
unfolding begins body_of
body_back_lem k x = rw (contents_back sequence_tag (octet_part octets_tag k ++ part octets_tag x), octet_back octets_tag k (part octets_tag x), contents_back octets_tag x)

-- ---- a request

pub invoke_only : (s : List ℕ) {n k : ℕ} {x : List ℕ} → invoke_of s ≡ some (record { number = n; body = asks k x }) → s ≡ invoke n k x
unfolding invoke invoke_of
invoke_only s h =
    bind_some (contents_of invoke_tag s) _ h λ contents a ha.
    bind_some (octet_at integer_tag contents) _ ha λ number b hb.
    let p = contents_only invoke_tag s a in
    let q = octet_only integer_tag contents b in
    let i = some-injective _ _ hb in
    let r = body_only number.rest (ap (λ (v : Invoke). v.body) i) in
    let m = ap (λ (v : Invoke). v.number) i in
    cc

pub invoke_back : (n k : ℕ) (x : List ℕ) → invoke_of (invoke n k x) ≡ some (record { number = n; body = asks k x })
unfolding invoke invoke_of
invoke_back n k x =
    rw (contents_back invoke_tag (octet_part integer_tag n ++ (operation ++ argument k x)), octet_back integer_tag n (operation ++ argument k x), body_back_lem k x)

pub invoke_exactly : (s : List ℕ) (n k : ℕ) (x : List ℕ) → (invoke_of s ≡ some (record { number = n; body = asks k x })) ↔ (s ≡ invoke n k x)
invoke_exactly s n k x = (invoke_only s, λ e. ap invoke_of e ∙ invoke_back n k x)

-- ---- an answer

string_only : (b : Body) {x : List ℕ} → string_of b ≡ some x → (b ≡ asks coding_scheme x) × (leb (length x) most_result_octets ≡ true)
string_only (wrong problem) h = not_some h
string_only (asks k y) h =
    let d = only_if_some _ h in
    let e = eqb-true k coding_scheme (and_left (eqb k coding_scheme) (leb (length y) most_result_octets) d.0) in
    rw (← d.1) (rw e, and_right (eqb k coding_scheme) (leb (length y) most_result_octets) d.0)

result_only : (s : List ℕ) {c : Component} → result_of s ≡ some c → (s ≡ component c) × (readable_answer c ≡ true)
unfolding component
result_only s h =
    bind_some (contents_of result_tag s) _ h λ contents a ha.
    bind_some (octet_at integer_tag contents) _ ha λ number b hb.
    bind_some (contents_of sequence_tag number.rest) _ hb λ sequence d hd.
    bind_some (string_of (body_of sequence)) _ hd λ string e he.
    let p = contents_only result_tag s a in
    let q = octet_only integer_tag contents b in
    let r = contents_only sequence_tag number.rest d in
    let k = string_only (body_of sequence) e in
    let o = body_only sequence k.0 in
    rw (← (some-injective _ _ he)) (cc, k.1)

result_back : (n : ℕ) (x : List ℕ) → leb (length x) most_result_octets ≡ true → result_of (component (result n x)) ≡ some (result n x)
unfolding component
result_back n x h =
    let inner = operation ++ argument coding_scheme x in
    rw (
      contents_back result_tag (octet_part integer_tag n ++ part sequence_tag inner),
      octet_back integer_tag n (part sequence_tag inner),
      contents_back sequence_tag inner,
      body_back_lem coding_scheme x,
      h,
    )

-- an invoke number and one octet more
abbrev pub pair : ℕ → ℕ → ℕ → ℕ → List ℕ
pair tag inner n code = part tag (octet_part integer_tag n ++ octet_part inner code)

-- nothing is left behind them
empty_only : (s : List ℕ) → eqb (length s) 0 ≡ true → s ≡ []
empty_only s h = drop_of_length-le s {i = 0} (omega (arith, eqb-true (length s) 0 h))

pub pair_only : (tag inner : ℕ) (s : List ℕ) {p : Pair} → pair_of tag inner s ≡ some p → s ≡ pair tag inner p.number p.code
pair_only tag inner s h =
    bind_some (contents_of tag s) _ h λ contents a ha.
    bind_some (octet_at integer_tag contents) _ ha λ number b hb.
    bind_some (octet_at inner number.rest) _ hb λ code d hd.
    let p = contents_only tag s a in
    let q = octet_only integer_tag contents b in
    let r = octet_only inner number.rest d in
    let k = only_if_some _ hd in
    let o = empty_only code.rest k.0 in
    rw (← k.1) (cc)

pub pair_back : (tag inner n code : ℕ) → pair_of tag inner (pair tag inner n code) ≡ some (record { number = n; code = code })
pair_back tag inner n code =
    rw (contents_back tag (octet_part integer_tag n ++ octet_part inner code), octet_back integer_tag n (octet_part inner code), octet_back inner code [])

pub component_only : (s : List ℕ) {c : Component} → component_of s ≡ some c → (s ≡ component c) × (readable_answer c ≡ true)
unfolding component component_of
component_only s h = ⊎_elim (result_only s) (λ d. ⊎_elim is_error_lem is_reject_lem (else_some _ _ d)) (else_some _ _ h)
  where
    is_error_lem : {c : Component} → error_of s ≡ some c → (s ≡ component c) × (readable_answer c ≡ true)
    is_error_lem e = bind_some (pair_of error_tag integer_tag s) _ e λ p a ha. rw (← (some-injective _ _ ha)) (pair_only error_tag integer_tag s a, refl)

    is_reject_lem : {c : Component} → reject_of s ≡ some c → (s ≡ component c) × (readable_answer c ≡ true)
    is_reject_lem e = bind_some (pair_of reject_tag problem_tag s) _ e λ p a ha. rw (← (some-injective _ _ ha)) (pair_only reject_tag problem_tag s a, refl)

pub component_back_lem : (c : Component) → readable_answer c ≡ true → component_of (component c) ≡ some c
unfolding component component_of
component_back_lem (result n x) h = rw (result_back n x h)
component_back_lem (error n code) h =
    rw (contents_other result_tag error_tag (octet_part integer_tag n ++ octet_part integer_tag code) (λ e. omega arith), pair_back error_tag integer_tag n code)
component_back_lem (reject n problem) h =
    let c = octet_part integer_tag n ++ octet_part problem_tag problem in
    rw (contents_other result_tag reject_tag c (λ e. omega arith), contents_other error_tag reject_tag c (λ e. omega arith), pair_back reject_tag problem_tag n problem)

pub component_exactly : (s : List ℕ) (c : Component) → (component_of s ≡ some c) ↔ ((s ≡ component c) × (readable_answer c ≡ true))
component_exactly s c = (component_only s, λ h. ap component_of h.0 ∙ component_back_lem c h.1)

-- ---- a message

pub message_only :
    (type : ℕ) (s : List ℕ) {m : Message} → message_of type s ≡ some m
    → (s ≡ headed m.first type m.element ++ m.rest) × (first_octet m.first ≡ true)
unfolding message_of
message_only type s h =
    bind_some (first_of s) _ h λ first a ha.
    bind_some (behind (type ∷ facility ∷ []) first.rest) _ ha λ rest b hb.
    bind_some (first_of rest) _ hb λ count d hd.
    let p = first_only s a in
    let q = behind_only (type ∷ facility ∷ []) first.rest b in
    let r = first_only rest d in
    let k = only_if_some _ hd in
    let begun = first_octet first.got in
    let long = leb count.got (length count.rest) in
    let n = leb-true count.got (length count.rest) (and_right begun long k.0) in
    let l = length-take-le count.got count.rest n in
    let t = take-append-drop count.got count.rest in
    rw (← k.1) (cc, and_left begun long k.0)

pub message_back :
    (type f : ℕ) (c rest : List ℕ) → first_octet f ≡ true → message_of type (headed f type c ++ rest) ≡ some (record { first = f; element = c; rest = rest })
unfolding begins message_of
message_back type f c rest h =
    rw (eq-eqb type type refl, h, le-leb (length c) (length (c ++ rest)) (omega (arith, length-append c rest)), take-append_seam c rest, drop-append_seam c rest)

-- ---- a Register

pub version_only : (rest : List ℕ) → is_version rest ≡ true → rest ≡ version
version_only rest h =
    let l = eqb-true (length rest) 3 (and_left (eqb (length rest) 3) (begins version rest) h) in
    let b = begins_only version rest (and_right (eqb (length rest) 3) (begins version rest) h) in
    b ∙ ap (λ (l : List ℕ). version ++ l) (drop_of_length-le rest {i = 3} (omega arith))

ending_only : (rest : List ℕ) (b : Body) {k : ℕ} {x : List ℕ} → ending rest b ≡ asks k x → (rest ≡ version) × (b ≡ asks k x)
ending_only rest (wrong problem) h = not_wrong h
ending_only rest (asks scheme string) {k} {x} h = go (is_version rest) refl h
  where
    go :
        (b : Bool) → is_version rest ≡ b → cond b (asks scheme string) (wrong mistyped_parameter) ≡ asks k x
        → (rest ≡ version) × (asks scheme string ≡ asks k x)
    go true e d = (version_only rest e, d)
    go false e d = not_wrong d

module _ (s : List ℕ) (f n k : ℕ) (x : List ℕ) where
  pub register_only : register_of s ≡ some (record { first = f; number = n; body = asks k x }) → (s ≡ register f n k x) × (first_octet f ≡ true)
  unfolding register register_of
  register_only h =
      bind_some (message_of register_type s) _ h λ message a ha.
      bind_some (invoke_of message.element) _ ha λ request b hb.
      let p = message_only register_type s a in
      let i = some-injective _ _ hb in
      let d = ending_only message.rest request.body (ap (λ (v : Register). v.body) i) in
      let g = ap (λ (v : Register). v.first) i in
      let m = ap (λ (v : Register). v.number) i in
      let q = invoke_only message.element (b ∙ ap some (λ j. record { number = m j; body = d.1 j })) in
      (p.0 ∙ rw (q, g, d.0), rw g at p.1)

  pub register_back_lem : (s ≡ register f n k x) × (first_octet f ≡ true) → register_of s ≡ some (record { first = f; number = n; body = asks k x })
  unfolding begins register register_of
  register_back_lem h = rw (h.0, message_back register_type f (invoke n k x) version h.1, invoke_back n k x)

  pub register_exactly : (register_of s ≡ some (record { first = f; number = n; body = asks k x })) ↔ ((s ≡ register f n k x) × (first_octet f ≡ true))
  register_exactly = (register_only, register_back_lem)

-- ---- a Register that is right up to its invoke number, whatever stands behind that

pub record UpToNumber (s : List ℕ) (r : Register) : Type 0 where
  pub tail : List ℕ
  pub rest : List ℕ
  pub whole : s ≡ headed r.first register_type (part invoke_tag (octet_part integer_tag r.number ++ tail)) ++ rest
  pub begun : first_octet r.first ≡ true
  pub body : r.body ≡ ending rest (body_of tail)

module _ (s : List ℕ) (r : Register) where
  pub number_only : register_of s ≡ some r → UpToNumber s r
  unfolding register_of invoke_of
  number_only h =
      bind_some (message_of register_type s) _ h λ message a ha.
      bind_some (contents_of invoke_tag message.element >>= λ contents. octet_at integer_tag contents >>= λ number. some (record { number = number.got; body = body_of number.rest })) _ ha λ request b hb.
      bind_some (contents_of invoke_tag message.element) _ b λ contents d hd.
      bind_some (octet_at integer_tag contents) _ hd λ number e he.
      let p = message_only register_type s a in
      let q = contents_only invoke_tag message.element d in
      let o = octet_only integer_tag contents e in
      let i = some-injective _ _ hb in
      let j = some-injective _ _ he in
      record {
        tail = number.rest;
        rest = message.rest;
        whole = p.0 ∙ rw (q, o, ap (λ (v : Invoke). v.number) j, ← (ap (λ (v : Register). v.first) i), ← (ap (λ (v : Register). v.number) i)) refl;
        begun = rw (← (ap (λ (v : Register). v.first) i)) p.1;
        body = sym (ap (λ (v : Register). v.body) i) ∙ ap (ending message.rest) (sym (ap (λ (v : Invoke). v.body) j));
      }

  pub number_back : UpToNumber s r → register_of s ≡ some r
  unfolding register_of invoke_of
  number_back u =
      rw (
        u.whole,
        message_back register_type r.first (part invoke_tag (octet_part integer_tag r.number ++ u.tail)) u.rest u.begun,
        contents_back invoke_tag (octet_part integer_tag r.number ++ u.tail),
        octet_back integer_tag r.number u.tail,
        ← u.body,
      )

-- "An unknown or unreadable operation gives Reject with problem 1", whatever is wrong behind it
pub operation_first : (rest tail : List ℕ) → (ending rest (body_of tail) ≡ wrong unrecognized_operation) ↔ (begins operation tail ≡ false)
unfolding body_of
operation_first rest tail = (only, back)
  where
    other : {A : Type 0} → wrong mistyped_parameter ≡ wrong unrecognized_operation → A
    other e = absurd (let z : ◌≡◌ {A = ℕ} 2 1 = cc in omega arith)

    ended : (b : Bool) (k : ℕ) (x : List ℕ) → cond b (asks k x) (wrong mistyped_parameter) ≡ wrong unrecognized_operation → begins operation tail ≡ false
    ended true k x e = not_wrong (sym e)
    ended false k x e = other e

    by_body : (s : List ℕ) (o : Option Body) → argument_of s ≡ o → ending rest (or_wrong mistyped_parameter o) ≡ wrong unrecognized_operation → begins operation tail ≡ false
    by_body s none a e = other e
    by_body s (some (asks k x)) a e = ended (is_version rest) k x e
    by_body s (some (wrong p)) a e = argument_asks s a

    only : ending rest (body_of tail) ≡ wrong unrecognized_operation → begins operation tail ≡ false
    only e = go (begins operation tail) refl
      where
        go : (b : Bool) → begins operation tail ≡ b → begins operation tail ≡ false
        go true t = by_body (drop (length operation) tail) (argument_of (drop (length operation) tail)) refl (rw t at e)
        go false t = t

    back : begins operation tail ≡ false → ending rest (body_of tail) ≡ wrong unrecognized_operation
    back e = rw e refl

-- ---- a Release Complete

module _ (s : List ℕ) (r : Release) where
  pub release_only : release_of s ≡ some r → (s ≡ release r.first r.answer) × (first_octet r.first ≡ true) × (readable_answer r.answer ≡ true)
  unfolding release release_of
  release_only h =
      bind_some (message_of release_type s) _ h λ message a ha.
      bind_some (component_of message.element) _ ha λ answer b hb.
      let p = message_only release_type s a in
      let q = component_only message.element b in
      let k = only_if_some _ hb in
      let e = empty_only message.rest k.0 in
      rw (← k.1) (p.0 ∙ rw (e, q.0, append-nil (component answer)), p.1, q.1)

  pub release_back_lem : (s ≡ release r.first r.answer) × (first_octet r.first ≡ true) × (readable_answer r.answer ≡ true) → release_of s ≡ some r
  unfolding release release_of
  release_back_lem h =
      let c = component r.answer in
      let p : s ≡ headed r.first release_type c ++ [] = h.0 ∙ sym (append-nil (headed r.first release_type c)) in
      rw (p, message_back release_type r.first c [] h.1, component_back_lem r.answer h.2)

  pub release_exactly : (release_of s ≡ some r) ↔ ((s ≡ release r.first r.answer) × (first_octet r.first ≡ true) × (readable_answer r.answer ≡ true))
  release_exactly = (release_only, release_back_lem)
