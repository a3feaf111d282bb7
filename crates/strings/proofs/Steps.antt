-- What a number's field, a notice's supervisor and the fields of an erasure come to, by the tests in their order. Assumes nothing.
use Rattle.std.specs.Prelude as core
use Rattle.std.specs.Prelude.{Some, None, Ok, Err}
use mathlib.Core.Path.{◌≡◌}
use mathlib.Core.Bool.{true, false}
use mathlib.Core.Option.{none}
use mathlib.Core.List.{List, ◌++◌}
use Prim.Native.Nat.{ℕ, ◌+◌}
use native.Mathlib.Omega.{arith}
use lib.ListN.{drop, length-drop}
use lib.Seq.{drop-drop}
use Rattle.answers.specs.Begins.{begins}
use Rattle.answers.specs.Ascii.{ascii}
use Rattle.numbers.specs.Numbers.{leading_number}
use Rattle.strings.specs.declared.Operation.{Operation}
use Rattle.strings.specs.declared.Erasing.TheVariants.{Empty, Forced}
use Rattle.strings.specs.Text.{may_force, star}
use Rattle.strings.specs.Reader.{number_field_at, forced_at, erasing_at}
use Rattle.strings.specs.Notices.{supervisor_field_at}
use Rattle.strings.specs.Found.{Found, FieldIs}
use Rattle.answers.proofs.Begins.{begins_within}

-- ---- a number and its star

pub number_none : (s : List ℕ) → leading_number s ≡ None → number_field_at s ≡ none
unfolding number_field_at
number_none s e = rw e

module _ (s : List ℕ) (w n : ℕ) (read : leading_number s ≡ Some (w, n)) where
  pub number_open : begins star (drop n s) ≡ false → number_field_at s ≡ none
  unfolding number_field_at
  number_open e = rw (read, e)

  pub number_found : begins star (drop n s) ≡ true → Found number_field_at s 0 w (n + 1)
  unfolding number_field_at
  number_found e = record { within = omega (arith, begins_within star (drop n s) e, length-drop n s); found = rw (read, e, drop-drop 1 n s) }

-- ---- a notice's supervisor and the star

module _ (s : List ℕ) where
  pub supervisor_blank : begins star s ≡ true → Found supervisor_field_at s 0 0 1
  unfolding supervisor_field_at
  supervisor_blank e = record { within = begins_within star s e; found = rw e }

  pub supervisor_named : (r : core.Option (ℕ × ℕ)) → begins star s ≡ false → FieldIs number_field_at r s → FieldIs supervisor_field_at r s
  unfolding supervisor_field_at
  supervisor_named (Some read) e k = record { within = k.within; found = rw e k.found }
  supervisor_named None e k = rw e k

-- ---- supervisor field and MSISDN to erase, each with its star

module _ (o : Operation) (s : List ℕ) where
  pub erasing_empty : begins (star ++ star) s ≡ true → Found (erasing_at o) s 0 Empty 2
  unfolding erasing_at
  erasing_empty e = record { within = begins_within (star ++ star) s e; found = rw e }

  module _ (other : begins (star ++ star) s ≡ false) where
    pub erasing_not : may_force o ≡ false → erasing_at o s ≡ none
    unfolding forced_at erasing_at
    erasing_not f = rw (other, f)

    module _ (force : may_force o ≡ true) where
      pub erasing_open : begins (ascii "88" ++ star) s ≡ false → erasing_at o s ≡ none
      unfolding forced_at erasing_at
      erasing_open e = rw (other, force, e)

      pub erasing_none : begins (ascii "88" ++ star) s ≡ true → number_field_at (drop 3 s) ≡ none → erasing_at o s ≡ none
      unfolding forced_at erasing_at
      erasing_none e m = rw (other, force, e, m)

      pub erasing_forced :
          (w n : ℕ) → begins (ascii "88" ++ star) s ≡ true → Found number_field_at s 3 w n → Found (erasing_at o) s 0 (Forced (record { 0 = w })) n
      unfolding forced_at erasing_at
      erasing_forced w n e f = record { within = f.within; found = rw (other, force, e, f.found) }
