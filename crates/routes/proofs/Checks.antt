-- What a routing comes to at each check, the checks before it passed. Assumes nothing.
use mathlib.Core.Path.{◌≡◌}
use mathlib.Core.Bool.{Bool, true, false}
use mathlib.Core.List.{List}
use Prim.Native.Nat.{ℕ}
use lib.ListN.{length}
use Rattle.numbers.specs.Numbers.{are_digits, stored_form}
use Rattle.tables.specs.Tables.{table_sound, record_of}
use Rattle.rules.specs.Answers.{Answer, refusal, error}
use Rattle.rules.specs.Routing.{with_code_in, is_international_code, is_outside, by_code, routing}
use Rattle.rules.proofs.Routes.{routing_looks}

module _ (table home : List ℕ) (coded : Bool) (asked : List ℕ) where
  abbrev answered : Answer
  answered = routing table home coded asked

  abbrev full : List ℕ
  full = with_code_in home coded asked

  pub refused_2 : table_sound table ≡ false → answered ≡ refusal 2
  unfolding routing
  refused_2 unsound = rw unsound

  module _ (sound : table_sound table ≡ true) where
    pub error_code : is_international_code home ≡ false → answered ≡ error 36
    unfolding routing
    error_code unknown = rw (sound, unknown)

    module _ (known : is_international_code home ≡ true) where
      pub error_digit : are_digits asked ≡ false → answered ≡ error 36
      unfolding routing
      error_digit other = rw (sound, known, other)

      module _ (digits : are_digits asked ≡ true) where
        pub error_count : is_outside (length full) ≡ true → answered ≡ error 36
        unfolding routing
        error_count outside = rw (sound, known, digits, outside)

        -- none holds
        pub looks : is_outside (length full) ≡ false → answered ≡ by_code home full (record_of table (stored_form full))
        looks within = routing_looks table home coded asked sound (rw (known, digits, within))
