-- Register, Release Complete and the component of an answer, by the code's tests in their order. Assumes nothing.
use mathlib.Core.Path.{◌≡◌, refl, sym, ap, ◌∙◌}
use mathlib.Core.Bool.{Bool, true, false, true≢false, cond, not, ◌||◌}
use mathlib.Core.Option.{Option, none, some}
use mathlib.Core.List.{List, ◌∷◌, ◌++◌}
use Prim.Native.Nat.{ℕ, ◌+◌, ◌-◌, ◌≤◌, ◌<◌}
use native.Mathlib.Omega.{arith}
use lib.ListN.{length, get_or, take, drop, length-append, length-drop, take-append-drop}
use lib.Seq.{drop-cons, take-append_seam, drop_at, take-add, length-take-le}
use lib.Dec.{eqb}
use borrow.Author.Tests.{eqb-true, eq-eqb, ne_eqb, not-false}
use Rattle.std.specs.Prelude.{Some, None, Result, Ok, Err}
use Rattle.std.specs.Prelude as core
use Rattle.answers.specs.declared.Refusal.TheVariants.{NoMessage}
use Rattle.answers.specs.Checks.{◌>>=◌, only_if}
use Rattle.answers.proofs.Parts.{rest_of}
use Rattle.answers.proofs.Tests.{or_neither}
use Rattle.strings.specs.Reader.{or_else}
use Rattle.frames.specs.Components.{integer_tag, error_tag, reject_tag, problem_tag, Component, component, mistyped_parameter, invoke_of, result_of, pair_of, component_of}
use Rattle.frames.specs.Components.Component.{result, error, reject}
use Rattle.frames.specs.Components.Body.{wrong, asks}
use Rattle.frames.specs.Messages.{facility, register_type, release_type, version, headed, first_octet, Message, message_of, is_version, ending, register_of, Release, release_of}
use Rattle.frames.specs.declared.Asked.{Asked}
use Rattle.frames.specs.declared.Problem.{Problem}
use Rattle.frames.specs.declared.Problem.TheVariants.{MistypedParameter}
use Rattle.frames.specs.declared.Invoke.{Invoke}
use Rattle.frames.specs.declared.Answer.{Answer}
use Rattle.frames.specs.declared.Answer.TheVariants as answer
use Rattle.frames.specs.Read.{end_of, last_of, told_pair, told_body, ended_body, told_invoke, or_unread, told_register, told_component, told_answer, told_release}
use Rattle.frames.proofs.Parts.{none_if_never}
use Rattle.frames.proofs.Exact.{invoke_only, pair_only, component_only, component_back_lem, version_only, message_only, message_back}
use Rattle.frames.proofs.Steps.{three_and_rest}
use Rattle.frames.proofs.Places.{from, length_from, last_behind, last_from}
use Rattle.frames.proofs.Bodies.{Within, last_proper, invoke_longer, result_longer}

-- ---- where the element ends

-- another kind of message, as the code tests it
abbrev pub is_other : ℕ → List ℕ → Bool
is_other kind s = not (first_octet (get_or s 0 0)) || not (eqb (get_or s 1 0) kind) || not (eqb (get_or s 2 0) facility)

module _ (kind : ℕ) (s : List ℕ) where
  message_passes :
      (m : Message) → message_of kind s ≡ some m → (4 ≤ length s) × (is_other kind s ≡ false) × (4 + get_or s 3 0 ≤ length s)
  message_passes m e =
      let k = message_only kind s e in
      let n = length-append m.element m.rest in
      rw k.0 (omega arith, rw (k.1, eq-eqb kind kind refl), omega arith)

  pub end_few : length s < 4 → None ≡ end_of (message_of kind s)
  end_few h = rw (none_if_never (message_of kind s) λ m e. let k = message_passes m e in omega arith)

  pub end_other : is_other kind s ≡ true → None ≡ end_of (message_of kind s)
  end_other h = rw (none_if_never (message_of kind s) λ m e. true≢false (sym h ∙ (message_passes m e).1))

  pub end_beyond : length s < 4 + get_or s 3 0 → None ≡ end_of (message_of kind s)
  end_beyond h = rw (none_if_never (message_of kind s) λ m e. let k = message_passes m e in omega arith)

  pub end_found : 4 ≤ length s → is_other kind s ≡ false → 4 + get_or s 3 0 ≤ length s → Some (4 + get_or s 3 0) ≡ end_of (message_of kind s)
  end_found four same h =
      let n = get_or s 3 0 in
      let c = take n (drop 4 s) in
      let rest = drop n (drop 4 s) in
      let first = not (first_octet (get_or s 0 0)) in
      let type = not (eqb (get_or s 1 0) kind) in
      let k = or_neither (first || type) (not (eqb (get_or s 2 0) facility)) same in
      let j = or_neither first type k.0 in
      let f = not-false (first_octet (get_or s 0 0)) j.0 in
      let t = eqb-true (get_or s 1 0) kind (not-false (eqb (get_or s 1 0) kind) j.1) in
      let g = eqb-true (get_or s 2 0) facility (not-false (eqb (get_or s 2 0) facility) k.1) in
      let l : length c ≡ n = length-take-le n (drop 4 s) (omega (arith, length-drop 4 s)) in
      let w : drop 3 s ≡ n ∷ (c ++ rest) = drop-cons s 3 0 (omega arith) ∙ ap (λ (x : List ℕ). n ∷ x) (sym (take-append-drop n (drop 4 s))) in
      let p : s ≡ headed (get_or s 0 0) kind c ++ rest = three_and_rest s (omega arith) ∙ rw (w, t, g, l) in
      let m = ap (message_of kind) p ∙ message_back kind (get_or s 0 0) c rest f in
      rw m (ap Some (omega arith))

-- the element of a message ends at this place
pub record Element (kind : ℕ) (s : List ℕ) (end : ℕ) : Type 0 where
  pub four : 4 ≤ end
  pub within : end ≤ length s
  pub found : message_of kind s ≡ some (record { first = get_or s 0 0; element = take (end - 4) (drop 4 s); rest = from end s })

module _ (kind : ℕ) (s : List ℕ) {r : core.Option ℕ} (ends : r ≡ end_of (message_of kind s)) where
  pub end_none : r ≡ None → message_of kind s ≡ none
  end_none z = none_if_never (message_of kind s) λ m e.
      let k : ◌≡◌ {A = core.Option ℕ} None (Some (4 + length m.element)) = sym z ∙ ends ∙ ap end_of e in
      cc

  pub end_some : {end : ℕ} → r ≡ Some end → Element kind s end
  end_some {end} z = go (message_of kind s) refl
    where
      go : (o : Option Message) → message_of kind s ≡ o → Element kind s end
      go none e =
          let k : ◌≡◌ {A = core.Option ℕ} (Some end) None = sym z ∙ ends ∙ ap end_of e in
          cc
      go (some m) e =
          let q : Some end ≡ Some (4 + length m.element) = sym z ∙ ends ∙ ap end_of e in
          let k : end ≡ 4 + length m.element = cc in
          let p = (message_only kind s e).0 in
          let n = length-append m.element m.rest in
          let d : end - 4 ≡ length m.element = omega arith in
          let a : take (end - 4) (drop 4 s) ≡ m.element = rw (d, p) (take-append_seam m.element m.rest) in
          let b : from end s ≡ m.rest = rest_of end s ∙ rw p (drop_at (headed m.first kind m.element) m.rest end (omega arith)) in
          let f : get_or s 0 0 ≡ m.first = rw p in
          record {
            four = omega arith;
            within = omega (arith, ap length p);
            found = e ∙ ap some (λ i. record { first = sym f i; element = sym a i; rest = sym b i });
          }

-- ---- a Register

-- the string of a request that is read lies in its component
pub invoke_within : (v : Invoke) (s : List ℕ) → told_invoke (Some v) s ≡ invoke_of s → Within v.body s
invoke_within v s h = go v.body refl
  where
    go : (b : Result Asked Problem) → v.body ≡ b → Within b s
    go (Err problem) e = tt
    go (Ok a) e =
        let x = last_of a.count s in
        let f = rw e at (sym h) in
        last_proper a.count s (omega (arith, invoke_longer v.number a.scheme x, ap length (invoke_only s f)))

-- it ends the element, and the SS version alone stands behind that
ended_told :
    (b : Result Asked Problem) (s : List ℕ) (end : ℕ) → 4 ≤ end → end ≤ length s → Within b (take (end - 4) (drop 4 s))
    → told_body (ended_body (from end s) b) (take (length s - length version) s) ≡ ending (from end s) (told_body b (take (end - 4) (drop 4 s)))
ended_told (Err problem) s end four h w = refl
ended_told (Ok a) s end four h w = go (is_version (from end s)) refl
  where
    go :
        (v : Bool) → is_version (from end s) ≡ v
        → told_body (cond v (Ok a) (Err MistypedParameter)) (take (length s - 3) s) ≡ cond v (asks a.scheme (last_of a.count (take (end - 4) (drop 4 s)))) (wrong mistyped_parameter)
    go true e =
        let l = ap length (version_only (from end s) e) in
        let d : length s - 3 ≡ 4 + (end - 4) = omega (arith, length_from end s) in
        ap (asks a.scheme) (rw (d, take-add 4 (end - 4) s) (last_behind a.count (take 4 s) (take (end - 4) (drop 4 s)) w))
    go false e = refl

module _ (s : List ℕ) where
  pub register_none : message_of register_type s ≡ none → told_register (Err NoMessage) s ≡ or_unread (register_of s)
  unfolding register_of
  register_none e = rw e

  module _ (end : ℕ) (element : Element register_type s end) where
    pub register_unnumbered : invoke_of (take (end - 4) (drop 4 s)) ≡ none → told_register (Err NoMessage) s ≡ or_unread (register_of s)
    unfolding register_of
    register_unnumbered e = rw (element.found, e)

    pub register_numbered :
        (v : Invoke) → told_invoke (Some v) (take (end - 4) (drop 4 s)) ≡ invoke_of (take (end - 4) (drop 4 s))
        → told_register (Ok (record { first = get_or s 0 0; number = v.number; body = ended_body (from end s) v.body })) s ≡ or_unread (register_of s)
    unfolding register_of
    register_numbered v told =
        rw (element.found, ← told, ended_told v.body s end element.four element.within (invoke_within v (take (end - 4) (drop 4 s)) told))

-- ---- the component of an answer

module _ (s : List ℕ) where
  pub answer_error : (n code : ℕ) → told_pair (Some (n, code)) ≡ pair_of error_tag integer_tag s → told_answer (Some (answer.Error n code)) s ≡ component_of s
  unfolding component
  answer_error n code e = sym (ap component_of (pair_only error_tag integer_tag s (sym e)) ∙ component_back_lem (error n code) refl)

  pub answer_reject : (n problem : ℕ) → told_pair (Some (n, problem)) ≡ pair_of reject_tag problem_tag s → told_answer (Some (answer.Reject n problem)) s ≡ component_of s
  unfolding component
  answer_reject n problem e = sym (ap component_of (pair_only reject_tag problem_tag s (sym e)) ∙ component_back_lem (reject n problem) refl)

  pub answer_result : none ≡ pair_of error_tag integer_tag s → none ≡ pair_of reject_tag problem_tag s → result_of s ≡ component_of s
  unfolding component_of
  answer_result e r = rw (← e, ← r) (go (result_of s))
    where
      go : (o : Option Component) → o ≡ or_else o none
      go none = refl
      go (some c) = refl

  -- the string of a result that is read lies in its component
  pub answer_within : (n count : ℕ) → told_answer (Some (answer.Result n count)) s ≡ component_of s → count ≤ length s
  answer_within n count h =
      last_proper count s (omega (arith, result_longer n (last_of count s), ap length (component_only s (sym h)).0))

-- ---- a Release Complete

module _ (s : List ℕ) where
  pub release_none : message_of release_type s ≡ none → told_release (Err NoMessage) s ≡ or_unread (release_of s)
  unfolding release_of
  release_none e = rw e

  module _ (end : ℕ) (element : Element release_type s end) where
    -- its element ends it
    pub release_more : (end ≡ length s → ⊥) → told_release (Err NoMessage) s ≡ or_unread (release_of s)
    unfolding release_of
    release_more h = rw (element.found) (go (component_of (take (end - 4) (drop 4 s))))
      where
        more : eqb (length (from end s)) 0 ≡ false
        more = ne_eqb (length (from end s)) 0 λ z. h (omega (arith, element.within, length_from end s))

        go :
            (o : Option Component)
            → ◌≡◌ {A = Result Release ℕ} (Err 11) (or_unread (o >>= λ answer. only_if (eqb (length (from end s)) 0) (record { first = get_or s 0 0; answer = answer })))
        go none = refl
        go (some a) = rw more

module _ (s : List ℕ) (element : Element release_type s (length s)) where
  pub release_unreadable : none ≡ component_of (from 4 s) → told_release (Err NoMessage) s ≡ or_unread (release_of s)
  unfolding release_of
  release_unreadable e = rw (element.found, ← e)

  -- the string ends the message
  from_four : (a : Answer) → told_answer (Some a) (from 4 s) ≡ component_of (from 4 s) → told_component a (from 4 s) ≡ told_component a s
  from_four (answer.Result n count) told = ap (result n) (last_from count 4 s (answer_within (from 4 s) n count told))
  from_four (answer.Error n code) told = refl
  from_four (answer.Reject n problem) told = refl

  pub release_read :
      (a : Answer) → told_answer (Some a) (from 4 s) ≡ component_of (from 4 s)
      → told_release (Ok (record { first = get_or s 0 0; answer = a })) s ≡ or_unread (release_of s)
  unfolding release_of
  release_read a told =
      rw (element.found, ← told, eq-eqb (length (from (length s) s)) 0 (omega (arith, length_from (length s) s)), from_four a told)
