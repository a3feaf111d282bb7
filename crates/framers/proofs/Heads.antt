-- What stands before the string in a component, with lengths of one octet each; and before a component in its message. Assumes nothing.
use mathlib.Core.Path.{◌≡◌, refl, ap, ◌∙◌}
use mathlib.Core.List.{List, [], ◌∷◌, ◌++◌}
use Prim.Native.Nat.{ℕ, ◌+◌, ◌≤◌, ◌<◌}
use native.Mathlib.Omega.{arith}
use lib.ListN.{length}
use Rattle.frames.specs.Parts.{long_length, part, octet_part}
use Rattle.frames.specs.Components as components
use Rattle.frames.specs.Components.{invoke_tag, result_tag, error_tag, reject_tag, integer_tag, sequence_tag, octets_tag, problem_tag, operation_code, operation, argument, invoke, component, most_result_octets}
use Rattle.frames.specs.Messages.{register_type, release_type, facility, version, register, release}
use Rattle.frames.proofs.Parts.{part_short}
use Rattle.frames.proofs.Lengths.{error_length, reject_length}
use Rattle.framers.specs.declared.Fault.{Fault}
use Rattle.framers.specs.declared.Fault.TheVariants as fault
use Rattle.framers.specs.Written.{told_fault}
use Rattle.strings.specs.Text.{coding_scheme}

-- a part whose length has one octet, with that by another name
part_of_lem : (tag n : ℕ) (c : List ℕ) → length c ≡ n → n < long_length → part tag c ≡ tag ∷ n ∷ c
part_of_lem tag n c e h = part_short tag c (omega (arith, e)) ∙ ap (λ (m : ℕ). tag ∷ m ∷ c) e

module _ (s : List ℕ) (short : length s ≤ most_result_octets) where
  pub argument_is :
      operation ++ argument coding_scheme s
      ≡ (integer_tag ∷ 1 ∷ operation_code ∷ sequence_tag ∷ (length s + 5) ∷ octets_tag ∷ 1 ∷ coding_scheme ∷ octets_tag ∷ length s ∷ []) ++ s
  argument_is =
      ap (λ (l : List ℕ). operation ++ part sequence_tag (octet_part octets_tag coding_scheme ++ l)) (part_short octets_tag s (omega arith))
      ∙ ap (λ (l : List ℕ). operation ++ l)
      (part_of_lem sequence_tag (length s + 5) (octets_tag ∷ 1 ∷ coding_scheme ∷ octets_tag ∷ length s ∷ s) (omega arith) (omega arith))

  pub invoke_is :
      (number : ℕ)
      → invoke number coding_scheme s ≡ (invoke_tag ∷ (length s + 13) ∷ integer_tag ∷ 1 ∷ number ∷ []) ++ (operation ++ argument coding_scheme s)
  unfolding invoke
  invoke_is number =
      part_of_lem invoke_tag (length s + 13) (octet_part integer_tag number ++ (operation ++ argument coding_scheme s)) (omega (arith, ap length argument_is)) (omega arith)

  pub result_is :
      (number : ℕ)
      → component (components.result number s)
      ≡ (result_tag ∷ (length s + 15) ∷ integer_tag ∷ 1 ∷ number ∷ sequence_tag ∷ (length s + 10) ∷ []) ++ (operation ++ argument coding_scheme s)
  unfolding component
  result_is number =
      let rest = operation ++ argument coding_scheme s in
      let l : length rest ≡ length s + 10 = omega (arith, ap length argument_is) in
      ap (λ (l : List ℕ). part result_tag (octet_part integer_tag number ++ l)) (part_of_lem sequence_tag (length s + 10) rest l (omega arith))
      ∙ part_of_lem result_tag (length s + 15) (integer_tag ∷ 1 ∷ number ∷ sequence_tag ∷ (length s + 10) ∷ rest) (omega arith) (omega arith)

pub error_is : (number code : ℕ) → component (components.error number code) ≡ error_tag ∷ 6 ∷ integer_tag ∷ 1 ∷ number ∷ integer_tag ∷ 1 ∷ code ∷ []
unfolding component
error_is number code = part_of_lem error_tag 6 (integer_tag ∷ 1 ∷ number ∷ integer_tag ∷ 1 ∷ code ∷ []) refl (omega arith)

pub reject_is : (number problem : ℕ) → component (components.reject number problem) ≡ reject_tag ∷ 6 ∷ integer_tag ∷ 1 ∷ number ∷ problem_tag ∷ 1 ∷ problem ∷ []
unfolding component
reject_is number problem = part_of_lem reject_tag 6 (integer_tag ∷ 1 ∷ number ∷ problem_tag ∷ 1 ∷ problem ∷ []) refl (omega arith)

-- each of them has eight octets
pub fault_length : (number : ℕ) (f : Fault) → length (component (told_fault number f)) ≡ 8
fault_length number (fault.Error code) = error_length number code
fault_length number (fault.Reject problem) = reject_length number problem

-- ---- messages

abbrev pub header : ℕ → ℕ → ℕ → List ℕ
header first type n = first ∷ type ∷ facility ∷ n ∷ []

pub release_is : (first n : ℕ) (c : components.Component) → length (component c) ≡ n → release first c ≡ header first release_type n ++ component c
unfolding release
release_is first n c e = ap (λ (m : ℕ). header first release_type m ++ component c) e

pub register_is : (first number n : ℕ) (s : List ℕ) → length (invoke number coding_scheme s) ≡ n
    → register first number coding_scheme s ≡ (header first register_type n ++ invoke number coding_scheme s) ++ version
unfolding register
register_is first number n s e = ap (λ (m : ℕ). (header first register_type m ++ invoke number coding_scheme s) ++ version) e
