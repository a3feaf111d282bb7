-- Requests and answers, by the code's tests in their order. Assumes nothing.
use mathlib.Core.Path.{◌≡◌, sym, ap, ◌∙◌}
use mathlib.Core.Logic.{⊎_elim}
use mathlib.Core.Bool.{true, false, not, ◌||◌}
use mathlib.Core.Option.{none, some}
use mathlib.Core.List.{List}
use Prim.Native.Nat.{ℕ, ◌≤◌}
use native.Mathlib.Omega.{arith}
use lib.ListN.{length}
use lib.Dec.{ltb, leb, eqb}
use borrow.Author.Tests.{eq-eqb, ne_eqb, ltb-true, ltb-false, le-leb, lt-leb, not-true, not-false}
use Rattle.std.specs.Prelude.{Some, Result, Ok, Err}
use Rattle.answers.proofs.Tests.{and_no, or_neither, or_cases}
use Rattle.strings.specs.Text.{coding_scheme}
use Rattle.frames.specs.Parts.{contents_of, octet_at}
use Rattle.frames.specs.Components.{invoke_tag, result_tag, integer_tag, sequence_tag, body_of, invoke_of, most_result_octets, string_of, result_of, pair_of}
use Rattle.frames.specs.Components.Body.{asks}
use Rattle.frames.specs.Components.Component.{result}
use Rattle.frames.specs.declared.Asked.{Asked}
use Rattle.frames.specs.declared.Problem.{Problem}
use Rattle.frames.specs.declared.Answer.TheVariants as answer
use Rattle.frames.specs.Read.{last_of, told_body, told_invoke, told_pair, told_answer}
use Rattle.frames.proofs.Places.{from, length_from, length_last, last_deep, Contents, OctetIs}
use Rattle.frames.proofs.Bodies.{body_within, within_from}

-- ---- a request

module _ (s : List ℕ) where
  pub invoke_empty : contents_of invoke_tag s ≡ none → none ≡ invoke_of s
  unfolding invoke_of
  invoke_empty e = rw e

  module _ (a : ℕ) (contents : Contents invoke_tag s a) where
    pub invoke_unnumbered : octet_at integer_tag (from a s) ≡ none → none ≡ invoke_of s
    unfolding invoke_of
    invoke_unnumbered e = rw (contents.found, e)

    pub invoke_numbered :
        (n : ℕ) → OctetIs integer_tag (from a s) n → (b : Result Asked Problem) → told_body b (from 3 (from a s)) ≡ body_of (from 3 (from a s))
        → told_invoke (Some (record { number = n; body = b })) s ≡ invoke_of s
    unfolding invoke_of
    invoke_numbered n number b told =
        let inner = within_from b 3 (from a s) (body_within b (from 3 (from a s)) told) in
        let e = sym (within_from b a s inner.0).1 ∙ sym inner.1 ∙ told in
        rw (contents.found, number.found, e)

-- ---- a result

-- its string, as the code tests it
module _ (k n : ℕ) (s : List ℕ) (within : n ≤ length s) where
  string_unfit : (not (eqb k coding_scheme) || ltb most_result_octets n) ≡ true → string_of (asks k (last_of n s)) ≡ none
  string_unfit h =
      rw (length_last n s within)
      (⊎_elim (λ e. rw (not-true (eqb k coding_scheme) e))
      (λ e. rw (and_no (eqb k coding_scheme) (leb n most_result_octets) (lt-leb n most_result_octets (ltb-true most_result_octets n e))))
      (or_cases (not (eqb k coding_scheme)) (ltb most_result_octets n) h))

  string_fit : (not (eqb k coding_scheme) || ltb most_result_octets n) ≡ false → string_of (asks k (last_of n s)) ≡ some (last_of n s)
  string_fit h =
      let e = or_neither (not (eqb k coding_scheme)) (ltb most_result_octets n) h in
      rw (length_last n s within, not-false (eqb k coding_scheme) e.0, le-leb n most_result_octets (ltb-false most_result_octets n e.1))

module _ (s : List ℕ) where
  module _ (a : ℕ) (contents : Contents result_tag s a) where
    pub result_unnumbered : octet_at integer_tag (from a s) ≡ none → none ≡ result_of s
    result_unnumbered e = rw (contents.found, e)

    module _ (n : ℕ) (number : OctetIs integer_tag (from a s) n) where
      pub result_unsequenced : contents_of sequence_tag (from 3 (from a s)) ≡ none → none ≡ result_of s
      result_unsequenced e = rw (contents.found, number.found, e)

      module _ (b : ℕ) (sequence : Contents sequence_tag (from 3 (from a s)) b) where
        pub result_wrong : (problem : Problem) → told_body (Err problem) (from b (from 3 (from a s))) ≡ body_of (from b (from 3 (from a s))) → none ≡ result_of s
        result_wrong problem told = rw (contents.found, number.found, sequence.found, ← told)

        module _ (asked : Asked) (told : told_body (Ok asked) (from b (from 3 (from a s))) ≡ body_of (from b (from 3 (from a s)))) where
          within : asked.count ≤ length (from b (from 3 (from a s)))
          within = body_within (Ok asked) (from b (from 3 (from a s))) told

          pub result_unfit : (not (eqb asked.scheme coding_scheme) || ltb most_result_octets asked.count) ≡ true → none ≡ result_of s
          result_unfit e = rw (contents.found, number.found, sequence.found, ← told, string_unfit asked.scheme asked.count (from b (from 3 (from a s))) within e)

          pub result_read : (not (eqb asked.scheme coding_scheme) || ltb most_result_octets asked.count) ≡ false → told_answer (Some (answer.Result n asked.count)) s ≡ result_of s
          result_read e =
              rw (contents.found, number.found, sequence.found, ← told, string_fit asked.scheme asked.count (from b (from 3 (from a s))) within e)
              (ap (λ (x : List ℕ). some (result n x)) (sym (last_deep asked.count a 3 b s within)))

-- ---- an error or a reject

module _ (tag inner : ℕ) (s : List ℕ) where
  module _ (a : ℕ) (contents : Contents tag s a) where
    pub pair_unnumbered : octet_at integer_tag (from a s) ≡ none → none ≡ pair_of tag inner s
    pair_unnumbered e = rw (contents.found, e)

    module _ (n : ℕ) (number : OctetIs integer_tag (from a s) n) where
      pub pair_codeless : octet_at inner (from 3 (from a s)) ≡ none → none ≡ pair_of tag inner s
      pair_codeless e = rw (contents.found, number.found, e)

      module _ (code : ℕ) (second : OctetIs inner (from 3 (from a s)) code) where
        pub pair_more : (length (from 3 (from a s)) ≡ 3 → ⊥) → none ≡ pair_of tag inner s
        pair_more h =
            let last = from 3 (from a s) in
            let e : eqb (length (from 3 last)) 0 ≡ false = ne_eqb (length (from 3 last)) 0 λ z. h (omega (arith, length_from 3 last, second.within)) in
            rw (contents.found, number.found, second.found, e)

        pub pair_read : length (from 3 (from a s)) ≡ 3 → told_pair (Some (n, code)) ≡ pair_of tag inner s
        pair_read h =
            let last = from 3 (from a s) in
            let e : eqb (length (from 3 last)) 0 ≡ true = eq-eqb (length (from 3 last)) 0 (omega (arith, length_from 3 last)) in
            rw (contents.found, number.found, second.found, e)
