-- One field of each class, computed from the definitions. Assumes nothing.
use mathlib.Core.Path.{◌≡◌, refl}
use mathlib.Core.List.{List}
use Prim.Native.Nat.{ℕ}
use Rattle.answers.specs.Ascii.{ascii}
use Rattle.answers.specs.Begins.{begins}
use Rattle.answers.specs.Leading.{each}
use Rattle.numbers.specs.Numbers.{is_digit}
use Rattle.crews.specs.declared.Crew.{Crew}
use Rattle.crews.specs.declared.Crew.TheVariants.{Single, Codes, Broken}
use Rattle.crews.specs.Crews.{is_code, is_in, distinct, codes_sound, codes_in, codes_at, sound_codes_at, spaced_codes_at, counted_codes_at, crew_of, count_of}

unfoldable pub read_as : List ℕ → Crew
unfolding begins each is_digit is_code is_in distinct codes_sound codes_in codes_at sound_codes_at spaced_codes_at counted_codes_at crew_of count_of
read_as field = count_of field

pub two_codes : read_as (ascii "BULK2 0203") ≡ Codes 2
unfolding read_as
two_codes = refl

pub the_lead_alone : read_as (ascii "BULK0") ≡ Codes 0
unfolding read_as
the_lead_alone = refl

pub code_00 : read_as (ascii "BULK1 00") ≡ Codes 1
unfolding read_as
code_00 = refl

-- "none is 01, none comes twice"
pub code_01 : read_as (ascii "BULK1 01") ≡ Broken
unfolding read_as
code_01 = refl

pub code_twice : read_as (ascii "BULK2 0202") ≡ Broken
unfolding read_as
code_twice = refl

-- not as many codes as the digit says
pub code_missing : read_as (ascii "BULK2 02") ≡ Broken
unfolding read_as
code_missing = refl

pub space_alone : read_as (ascii "BULK0 ") ≡ Broken
unfolding read_as
space_alone = refl

pub other_words : read_as (ascii "BULKY GOODS") ≡ Broken
unfolding read_as
other_words = refl

-- `BULK` does not stand at the start
pub space_in_front : read_as (ascii " BULK1 02") ≡ Single
unfolding read_as
space_in_front = refl
