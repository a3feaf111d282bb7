-- What stands behind an invoke number, by the code's tests in their order, and its string's place. Assumes nothing.
use mathlib.Core.Path.{◌≡◌, refl, sym, ap, ◌∙◌}
use mathlib.Core.Logic.{⊎_elim}
use mathlib.Core.Bool.{true, false}
use mathlib.Core.Option.{none, some}
use mathlib.Core.List.{List, ◌++◌}
use Prim.Native.Nat.{ℕ, ◌-◌, ◌≤◌, ◌<◌}
use native.Mathlib.Omega.{arith}
use lib.ListN.{length, length-drop}
use Rattle.std.specs.Prelude.{Some, None, Result, Ok, Err}
use Rattle.std.specs.Prelude as core
use Rattle.answers.specs.Begins.{begins}
use Rattle.answers.proofs.Parts.{rest_of}
use Rattle.answers.proofs.Tests.{less_or_not}
use Rattle.strings.specs.Text.{coding_scheme}
use Rattle.frames.specs.Parts.{part, octet_part, contents_of, octet_at}
use Rattle.frames.specs.Components.{invoke_tag, result_tag, integer_tag, sequence_tag, octets_tag, operation, argument, invoke, component, argument_of, body_of}
use Rattle.frames.specs.Components.Component.{result}
use Rattle.frames.specs.Components.Body.{asks}
use Rattle.frames.specs.declared.Asked.{Asked}
use Rattle.frames.specs.declared.Problem.{Problem}
use Rattle.frames.specs.declared.Problem.TheVariants.{UnrecognizedOperation, MistypedParameter}
use Rattle.frames.specs.Read.{last_of, told_argument, told_body}
use Rattle.frames.proofs.Parts.{part_drop}
use Rattle.frames.proofs.Exact.{argument_only, body_only}
use Rattle.frames.proofs.Places.{from, length_from, last_from, from_last, Contents, OctetIs}

-- ---- the string's place

-- the string lies in s
abbrev pub Within : Result Asked Problem → List ℕ → Type 0
Within (Err problem) s = Unit {0}
Within (Ok a) s = a.count ≤ length s

-- a count that stands for fewer octets than there are is their count
pub last_proper : (n : ℕ) (s : List ℕ) → length (last_of n s) < length s → n ≤ length s
last_proper n s h = ⊎_elim (λ l. absurd (omega (arith, length-drop (length s - n) s))) (λ l. l) (less_or_not (length s) n)

-- what is asked with is longer than its string
pub argument_longer : (k : ℕ) (x : List ℕ) → length x < length (operation ++ argument k x)
argument_longer k x = omega (arith, (part_drop octets_tag x).0, (part_drop sequence_tag (octet_part octets_tag k ++ part octets_tag x)).0)

pub invoke_longer : (n k : ℕ) (x : List ℕ) → length x < length (invoke n k x)
unfolding invoke
invoke_longer n k x = omega (arith, argument_longer k x, (part_drop invoke_tag (octet_part integer_tag n ++ (operation ++ argument k x))).0)

pub result_longer : (n : ℕ) (x : List ℕ) → length x < length (component (result n x))
unfolding component
result_longer n x =
    let inner = operation ++ argument coding_scheme x in
    omega (arith, argument_longer coding_scheme x, (part_drop sequence_tag inner).0, (part_drop result_tag (octet_part integer_tag n ++ part sequence_tag inner)).0)

pub body_within : (b : Result Asked Problem) (s : List ℕ) → told_body b s ≡ body_of s → Within b s
body_within (Err problem) s h = tt
body_within (Ok a) s h =
    let x = last_of a.count s in
    last_proper a.count s (omega (arith, argument_longer a.scheme x, ap length (body_only s (sym h))))

pub within_from : (b : Result Asked Problem) (k : ℕ) (s : List ℕ) → Within b (from k s) → (Within b s) × (told_body b (from k s) ≡ told_body b s)
within_from (Err problem) k s h = (tt, refl)
within_from (Ok a) k s h = (omega (arith, length_from k s), ap (asks a.scheme) (last_from a.count k s h))

-- ---- the tests in their order: what is asked with

module _ (s : List ℕ) where
  pub argument_unsequenced : contents_of sequence_tag s ≡ none → none ≡ argument_of s
  argument_unsequenced e = rw e

  module _ (a : ℕ) (sequence : Contents sequence_tag s a) where
    pub argument_schemeless : octet_at octets_tag (from a s) ≡ none → none ≡ argument_of s
    argument_schemeless e = rw (sequence.found, e)

    module _ (k : ℕ) (scheme : OctetIs octets_tag (from a s) k) where
      pub argument_stringless : contents_of octets_tag (from 3 (from a s)) ≡ none → none ≡ argument_of s
      argument_stringless e = rw (sequence.found, scheme.found, e)

      pub argument_read :
          (b : ℕ) → Contents octets_tag (from 3 (from a s)) b
          → told_argument (Some (record { scheme = k; count = length (from 3 (from a s)) - b })) s ≡ argument_of s
      argument_read b string =
          let last = from 3 (from a s) in
          let n = length last - b in
          let e : last_of n s ≡ from b last =
          sym (last_from n 3 (from a s) (omega arith) ∙ last_from n a s (omega (arith, length_from 3 (from a s)))) ∙ from_last b last string.within in
          ap (λ (x : List ℕ). some (asks k x)) e ∙ rw (sequence.found, scheme.found, string.found)

-- the string that is asked with lies in what is read
argument_within : (a : Asked) (s : List ℕ) → told_argument (Some a) s ≡ argument_of s → a.count ≤ length s
argument_within a s h =
    let x = last_of a.count s in
    let inner = octet_part octets_tag a.scheme ++ part octets_tag x in
    last_proper a.count s (omega (arith, (part_drop octets_tag x).0, (part_drop sequence_tag inner).0, ap length (argument_only s (sym h))))

-- ---- and the operation before it

module _ (s : List ℕ) where
  pub body_other : begins operation s ≡ false → told_body (Err UnrecognizedOperation) s ≡ body_of s
  unfolding body_of
  body_other e = rw e

  module _ (begun : begins operation s ≡ true) where
    pub body_told :
        (r : core.Option Asked) → told_argument r (from 3 s) ≡ argument_of (from 3 s) → told_body (core.ok_or r MistypedParameter) s ≡ body_of s
    unfolding body_of
    body_told None told = rw (begun, ← (rest_of 3 s), ← told)
    body_told (Some a) told =
        let e = last_from a.count 3 s (argument_within a (from 3 s) told) in
        rw (begun, ← (rest_of 3 s), ← told) (ap (asks a.scheme) (sym e))
