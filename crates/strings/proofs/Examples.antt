-- Document 01's examples of strings, a string of each class of document 02, M-100, and M-111's notices, computed from the definitions. Assumes nothing.
use Rattle.std.specs.Prelude as core
use Rattle.std.specs.Prelude.{Some, None, Ok, Err}
use mathlib.Core.Path.{◌≡◌, refl}
use mathlib.Core.Bool.{false}
use mathlib.Core.List.{List, [], ◌++◌}
use Prim.Native.Nat.{ℕ, ◌/◌}
use lib.ListN.{length, get_or, replicate}
use Rattle.answers.specs.Begins.{begins}
use Rattle.answers.specs.Leading.{each, leading}
use Rattle.answers.specs.Ascii.{ascii}
use Rattle.numbers.specs.Numbers.{is_digit, pushed, stored_form, is_number, nobody, digits_up_to, digits_of, leading_number}
use Rattle.numbers.specs.declared.FunctionalNumber.{FunctionalNumber}
use Rattle.numbers.specs.declared.Msisdn.{Msisdn}
use Rattle.crews.specs.Crews.{is_code, is_in, distinct, codes_sound, codes_in, codes_at, sound_codes_at, spaced_codes_at, counted_codes_at, crew_of, count_of}
use Rattle.crews.specs.declared.Crew.TheVariants.{Single, Codes}
use Rattle.packing.specs.Packing.{value_of, digits, octets_for, chars_in, padded, packed, characters, readable, filled, kept, unpacked}
use Rattle.strings.specs.declared.Operation.TheVariants.{Register, Erase}
use Rattle.strings.specs.declared.Erasing.TheVariants.{Empty, Forced}
use Rattle.strings.specs.Text.{Request, request_from, request_sound, is_additional, text_of}
use Rattle.strings.specs.Reader.{operation_at, service_at, number_field_at, forced_at, erasing_at, additional_at, fields_of}
use Rattle.strings.specs.Outcomes.{request_of, Told, reading}
use Rattle.strings.specs.Outcomes.Told.{fields, error}
use Rattle.strings.specs.Notices.{notice_text, notice_fields, supervisor_field_at, notice_string_at, notice_string_of, notice_read}

-- what is told of a text, once it is packed
unfoldable pub told_of : List ℕ → Told
unfolding begins each is_code is_in distinct codes_sound codes_in codes_at sound_codes_at spaced_codes_at counted_codes_at crew_of count_of operation_at service_at number_field_at forced_at erasing_at leading additional_at fields_of request_of reading is_additional is_digit pushed stored_form leading_number value_of digits octets_for chars_in padded packed characters readable filled kept unpacked
told_of text = (reading (packed text)).answer

-- the registration of a number, with an additional field
abbrev pub registering : ℕ → List ℕ → Request
registering w additional = record { operation = Register; number = record { 0 = w }; erasing = Empty; additional = additional }

-- the text of a registration and its octets
unfoldable pub text_for : ℕ → List ℕ
unfolding text_of digits_up_to digits_of
text_for w = text_of (registering w [])

unfoldable pub octets_of : List ℕ → List ℕ
unfolding value_of digits octets_for padded packed
octets_of text = packed text

-- "with `##` only": a registration names no MSISDN
pub not_by_force : told_of (ascii "**214*0492123401*88*4915100001*#") ≡ error 36
unfolding told_of
not_by_force = refl

-- "Registering a 13-digit number takes 23 characters, 21 octets ending in a carriage return"
pub thirteen_digits :
    (length (text_for 11234567890123) ≡ 23)
    × (length (octets_of (text_for 11234567890123)) ≡ 21)
    × (get_or (octets_of (text_for 11234567890123)) 20 0 / 2 ≡ 13)
unfolding text_for octets_of
thirteen_digits = (refl, refl, refl)

-- "14 digits take 24 and 21"
pub fourteen_digits : (length (text_for 112345678901234) ≡ 24) × (length (octets_of (text_for 112345678901234)) ≡ 21)
unfolding text_for octets_of
fourteen_digits = (refl, refl)

-- "A 30-character additional field reads, 31 gives 36"
pub thirty : told_of (ascii "**214*0492123401***" ++ replicate 30 65 ++ ascii "#") ≡ fields (registering 10492123401 (replicate 30 65)) 19 Single
unfolding told_of
thirty = refl

pub thirty_one : told_of (ascii "**214*0492123401***" ++ replicate 31 65 ++ ascii "#") ≡ error 36
unfolding told_of
thirty_one = refl

-- a crew, a field that breaks its rules, and an ordinary field
pub crew_reads : told_of (ascii "**214*0492123401***BULK2 0203#") ≡ fields (registering 10492123401 (ascii "BULK2 0203")) 19 (Codes 2)
unfolding told_of
crew_reads = refl

pub other_words : told_of (ascii "**214*0492123401***BULKY GOODS#") ≡ error 36
unfolding told_of
other_words = refl

pub space_in_front : told_of (ascii "**214*0492123401*** BULK1 02#") ≡ fields (registering 10492123401 (ascii " BULK1 02")) 19 Single
unfolding told_of
space_in_front = refl

-- "or stands in another operation, is 36"
pub not_interrogated : told_of (ascii "*#214*0492123401***BULK2 0203#") ≡ error 36
unfolding told_of
not_interrogated = refl

pub not_forced : told_of (ascii "##214*0492123401*88*4915100001*BULK0#") ≡ error 36
unfolding told_of
not_forced = refl

-- "The functional number ends in 01"
pub not_a_lead : told_of (ascii "**214*0492123402***BULK0#") ≡ error 36
unfolding told_of
not_a_lead = refl

-- ---- notices

-- what a text reads as, as a notice, once it is packed
unfoldable pub notice_told_of : List ℕ → core.Option (FunctionalNumber × Msisdn)
unfolding begins number_field_at leading additional_at supervisor_field_at notice_string_at notice_string_of is_additional is_digit pushed stored_form leading_number value_of digits octets_for chars_in padded packed characters readable filled kept unpacked
notice_told_of text = notice_read (notice_string_of (packed text))

abbrev number : FunctionalNumber
number = record { 0 = 10492123401 }

-- M-111: "`##214*0492123401*88**#`"
pub blank_written : notice_text (notice_fields number nobody) ≡ ascii "##214*0492123401*88**#"
unfolding notice_text notice_fields digits_up_to digits_of
blank_written = refl

pub blank_reads : (notice_told_of (ascii "##214*0492123401*88**#") ≡ Some (number, nobody)) × (told_of (ascii "##214*0492123401*88**#") ≡ error 36)
unfolding notice_told_of told_of
blank_reads = (refl, refl)

-- the request writer refuses it, 9
pub blank_not_written : request_sound (request_from Erase number (Forced nobody) []) ≡ false
unfolding request_sound is_number
blank_not_written = refl

pub supervisor_reads : notice_told_of (ascii "##214*0492123401*88*4915100002*#") ≡ Some (number, record { 0 = 14915100002 })
unfolding notice_told_of
supervisor_reads = refl

-- the blank form too may have an additional field of up to 30 characters, and no crew
pub blank_thirty :
    (notice_told_of (ascii "##214*0492123401*88**" ++ replicate 30 65 ++ ascii "#") ≡ Some (number, nobody))
    × (notice_told_of (ascii "##214*0492123401*88**" ++ replicate 31 65 ++ ascii "#") ≡ None)
unfolding notice_told_of
blank_thirty = (refl, refl)

pub blank_no_crew : notice_told_of (ascii "##214*0492123401*88**BULK0#") ≡ None
unfolding notice_told_of
blank_no_crew = refl
