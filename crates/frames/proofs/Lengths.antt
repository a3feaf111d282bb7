-- How long frames are: the longest component, and the frames of requests and answers below the 120 octets of a frame buffer. Assumes nothing.
use mathlib.Core.Path.{◌≡◌, ap, ◌∙◌}
use mathlib.Core.Logic.{◌↔◌, ⊎_elim}
use mathlib.Core.Option.{some}
use mathlib.Core.Bool.{true}
use mathlib.Core.List.{List, ◌++◌}
use Prim.Native.Nat.{ℕ, ◌+◌, ◌≤◌, ◌<◌}
use native.Mathlib.Omega.{arith}
use lib.ListN.{length, length-append}
use borrow.Author.Tests.{leb-true}
use Rattle.answers.proofs.Tests.{less_or_not}
use Rattle.strings.specs.Text.{coding_scheme, most_octets}
use Rattle.frames.specs.Parts.{long_length, part, octet_part}
use Rattle.frames.specs.Components.{invoke_tag, result_tag, error_tag, reject_tag, integer_tag, sequence_tag, octets_tag, problem_tag, operation, argument, invoke, Component, component, most_result_octets, readable_answer}
use Rattle.frames.specs.Components.Component.{result, error, reject}
use Rattle.frames.specs.Messages.{frame_room, version, headed, register_type, register, release, Release, release_of}
use Rattle.frames.proofs.Parts.{short_length, long_length_lem}
use Rattle.frames.proofs.Exact.{release_only}

part_most : (tag : ℕ) (c : List ℕ) → length (part tag c) ≤ 3 + length c
part_most tag c =
    ⊎_elim (λ h. omega (arith, short_length tag c h)) (λ h. omega (arith, long_length_lem tag c h)) (less_or_not (length c) long_length)

-- ---- a request

module _ (n k : ℕ) (x : List ℕ) where
  -- each length of its parts is one octet
  pub invoke_length : length x < 115 → length (invoke n k x) ≡ 15 + length x
  unfolding invoke
  invoke_length h =
      let a = short_length octets_tag x (omega arith) in
      let b = short_length sequence_tag (octet_part octets_tag k ++ part octets_tag x) (omega arith) in
      short_length invoke_tag (octet_part integer_tag n ++ (operation ++ argument k x)) (omega arith) ∙ omega arith

  -- each is two
  pub invoke_long : long_length ≤ length x → length (invoke n k x) ≡ 18 + length x
  unfolding invoke
  invoke_long h =
      let a = long_length_lem octets_tag x h in
      let b = long_length_lem sequence_tag (octet_part octets_tag k ++ part octets_tag x) (omega arith) in
      long_length_lem invoke_tag (octet_part integer_tag n ++ (operation ++ argument k x)) (omega arith) ∙ omega arith

  -- at most two are
  invoke_at_most : length (invoke n k x) ≤ 24 + length x
  unfolding invoke
  invoke_at_most =
      let a = part_most octets_tag x in
      let b = part_most sequence_tag (octet_part octets_tag k ++ part octets_tag x) in
      omega (arith, a, b, part_most invoke_tag (octet_part integer_tag n ++ (operation ++ argument k x)))

  -- strings of 0 to 237 octets, and no longer ones, make an element whose length one octet can say
  pub longest_string : (length x ≤ 237) ↔ (length (invoke n k x) ≤ 255)
  longest_string = (
    λ h. ⊎_elim (λ l. omega (arith, invoke_at_most)) (λ l. omega (arith, invoke_long l)) (less_or_not (length x) long_length),
    λ h. ⊎_elim (λ l. omega arith) (λ l. omega (arith, invoke_long l)) (less_or_not (length x) long_length),
  )

  module _ (f : ℕ) where
    pub register_length : length x < 115 → length (register f n k x) ≡ 22 + length x
    unfolding register
    register_length h = omega (arith, length-append (headed f register_type (invoke n k x)) version, invoke_length h)

    -- of "at most 72 characters, 63 octets"
    pub register_most : length x ≤ most_octets → length (register f n k x) ≤ 85
    register_most h = omega (arith, register_length (omega arith))

    pub register_fits : length x ≤ most_octets → length (register f n k x) < frame_room
    register_fits h = omega (arith, register_most h)

-- ---- an answer

module _ (n : ℕ) where
  pub result_length : (x : List ℕ) → length x ≤ most_result_octets → length (component (result n x)) ≡ 17 + length x
  unfolding component
  result_length x h =
      let a = short_length octets_tag x (omega arith) in
      let b = short_length sequence_tag (octet_part octets_tag coding_scheme ++ part octets_tag x) (omega arith) in
      let c = short_length sequence_tag (operation ++ argument coding_scheme x) (omega arith) in
      short_length result_tag (octet_part integer_tag n ++ part sequence_tag (operation ++ argument coding_scheme x)) (omega arith) ∙ omega arith

  pub error_length : (code : ℕ) → length (component (error n code)) ≡ 8
  unfolding component
  error_length code = short_length error_tag (octet_part integer_tag n ++ octet_part integer_tag code) (omega arith)

  pub reject_length : (problem : ℕ) → length (component (reject n problem)) ≡ 8
  unfolding component
  reject_length problem = short_length reject_tag (octet_part integer_tag n ++ octet_part problem_tag problem) (omega arith)

module _ (f : ℕ) where
  pub release_length : (c : Component) → length (release f c) ≡ 4 + length (component c)
  unfolding release
  release_length c = omega arith

  pub release_most : (c : Component) → readable_answer c ≡ true → length (release f c) ≤ 101
  release_most (result n x) h =
      let l = leb-true (length x) most_result_octets h in
      omega (arith, release_length (result n x), result_length n x l)
  release_most (error n code) h = omega (arith, release_length (error n code), error_length n code)
  release_most (reject n problem) h = omega (arith, release_length (reject n problem), reject_length n problem)

  pub release_fits : (c : Component) → readable_answer c ≡ true → length (release f c) < frame_room
  release_fits c h = omega (arith, release_most c h)

-- a Release Complete that is read
pub read_most : (s : List ℕ) (r : Release) → release_of s ≡ some r → length s ≤ 101
read_most s r h = let only = release_only s r h in omega (arith, ap length only.0, release_most r.first r.answer only.2)
