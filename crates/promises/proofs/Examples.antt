-- Document 01, "Examples": P1 to P15, and document 02's M-100, M-101, M-103, M-105, M-107, M-111 and M-112 (M-102 is P14), of the rules, computed from octets and words, as one list under one statement. Assumes nothing.
use mathlib.Core.Path.{◌≡◌, refl}
use mathlib.Core.Bool.{Bool, true, false}
use mathlib.Core.List.{List, [], ◌∷◌, ◌++◌, map}
use Prim.Native.Nat.{ℕ, ◌+◌, ◌-◌}
use lib.ListN.{replicate}
use Rattle.answers.specs.Begins.{begins}
use Rattle.answers.specs.Leading.{each, leading}
use Rattle.answers.specs.Ascii.{ascii}
use Rattle.answers.specs.Writing.{over}
use Rattle.packing.specs.Packing.{value_of, digits, octets_for, chars_in, padded, packed, characters, readable, filled, kept, unpacked}
use Rattle.numbers.specs.Numbers.{is_digit, pushed, stored_form, is_number, digits_up_to, digits_of, leading_number}
use Rattle.crews.specs.Crews.{is_code, is_in, distinct, codes_sound, codes_in, codes_at, sound_codes_at, spaced_codes_at, counted_codes_at, crew_of, count_of}
use Rattle.strings.specs.Text.{is_additional, text_of}
use Rattle.strings.specs.Notices.{notice_text, notice_fields}
use Rattle.strings.specs.Reader.{operation_at, service_at, number_field_at, forced_at, erasing_at, additional_at, fields_of}
use Rattle.strings.specs.Outcomes.{request_of}
use Rattle.frames.specs.Parts.{part, contents_of, octet_at}
use Rattle.frames.specs.Components.{component, body_of, invoke_of}
use Rattle.frames.specs.Messages as messages
use Rattle.records.specs.Steps.{elapsed, delay_of, delay_allowed}
use Rattle.rows.specs.Rows as rows
use Rattle.tables.specs.Keys.{place_of}
use Rattle.tables.specs.Tables.{table_up_to, row_of, record_of, list_sound, flags_of}
use Rattle.tables.specs.Figures as figures
use Rattle.states.specs.States as states
use Rattle.states.specs.States.{State, beside, counted}
use Rattle.rules.specs.Answers.{Answer, refusal, error, outcome, return_error, reject, sent_to, delivered, dropped, again, found, none_due, ask_network, routed_to}
use Rattle.rules.specs.Requests as requests
use Rattle.rules.specs.Crews as crews
use Rattle.rules.specs.Frames as frame
use Rattle.rules.specs.Notices as notices
use Rattle.rules.specs.Terminal.{terminal_erasure}
use Rattle.rules.specs.Routing.{routing, subaddress_of}
use Rattle.rules.specs.Run.{end, log}
use Rattle.rules.specs.Calls.{Call, request, framed, sending, result, terminal, routes, buffer_of, Reply, call}

-- A = 4915100001 (flags 1), B = 4915100002 (flags 3), C = 4915100003 (flags 0), F = 0492123401, as stored
abbrev pub A : ℕ
A = 14915100001

abbrev pub B : ℕ
B = 14915100002

abbrev pub C : ℕ
C = 14915100003

abbrev pub D : ℕ
D = 14915100004

abbrev pub F : ℕ
F = 10492123401

abbrev pub subscribers : List ℕ
subscribers = A ∷ 1 ∷ B ∷ 3 ∷ C ∷ 0 ∷ []

-- the row of a number, held by a subscriber
abbrev pub row_of_number : ℕ → ℕ → List ℕ
row_of_number number msisdn = number ∷ msisdn ∷ 0 ∷ 0 ∷ 0 ∷ 0 ∷ 0 ∷ []

-- F's row: free, held, and with a notice to A from B at a phase and with a last word
abbrev pub held : ℕ → List ℕ
held msisdn = row_of_number F msisdn

abbrev pub free : List ℕ
free = held 0

abbrev pub noticed : ℕ → ℕ → ℕ → List ℕ
noticed msisdn phase second = F ∷ msisdn ∷ phase ∷ A ∷ B ∷ second ∷ 0 ∷ []

abbrev pub room : List ℕ
room = replicate 80 0

-- a request by a subscriber, its text packed
abbrev pub asks : ℕ → List ℕ → Call
asks msisdn text = request (record { 0 = msisdn }) 0x0F (packed text) room

-- a sending of F's notice, a result, and one of kind 5, at a clock reading
abbrev pub sends : ℕ → Call
sends now = sending now (record { 0 = F }) room

abbrev pub takes : ℕ → ℕ → Call
takes kind now = result now (record { 0 = F }) kind

abbrev pub fails : ℕ → Call
fails now = takes 5 now

-- the request strings of the examples
abbrev pub registers_f : List ℕ
registers_f = ascii "**214*0492123401***#"

abbrev pub registers_without_zero : List ℕ
registers_without_zero = ascii "**214*492123401***#"

abbrev pub erases_f : List ℕ
erases_f = ascii "##214*0492123401***#"

abbrev pub forces_a : List ℕ
forces_a = ascii "##214*0492123401*88*4915100001*#"

abbrev pub forces_b : List ℕ
forces_b = ascii "##214*0492123401*88*4915100002*#"

abbrev pub interrogates_f : List ℕ
interrogates_f = ascii "*#214*0492123401***#"

abbrev pub half_forced : List ℕ
half_forced = ascii "**214*0492123401*88**#"

-- by its label P1 to P15: characters and their octets; octets and what they read as; a table with the figures of a recount, calls over it, each with what it gets, and the table then, again with the figures of a recount; the same with a list of its own; and with figures by their words
pub data Example : Type 0 where
  packs reads : ℕ → List ℕ → List ℕ → Example
  answers : ℕ → List ℕ → List (Call × Reply) → List ℕ → Example
  listed : ℕ → List ℕ → List ℕ → List (Call × Reply) → List ℕ → Example
  keeps : ℕ → State → List (Call × Reply) → State → Example

-- what a call gets: its answer, and the octets at the front of its buffer, all others as they were
abbrev pub gets : Call → Answer → List ℕ → Call × Reply
gets c a octets = (c, record { answer = a; buffer = over octets (buffer_of c) })

abbrev pub says : Call → ℕ → List ℕ → Call × Reply
says c n octets = gets c (outcome n 2) octets

-- M-107: the examples of document 01 go by 60 seconds, which 0 meant there
abbrev pub example_delay : ℕ
example_delay = 60

abbrev pub go : List ℕ → Call → State → Reply × State
go list = call list example_delay

abbrev pub calls : List (Call × Reply) → List Call
calls got = map (λ p. p.0) got

-- every answer, every octet of every buffer, table and figures
abbrev pub Comes : List ℕ → State → List (Call × Reply) → State → Type 0
Comes list state got after = ◌≡◌ {A = List (Call × Reply) × State} (log (go list) (calls got) state, end (go list) (calls got) state) (got, after)

abbrev pub Holds : Example → Type 0
Holds (packs p cs os) = packed cs ≡ os
Holds (reads p os cs) = ◌≡◌ {A = Bool × List ℕ} (readable os, unpacked os) (true, cs)
Holds (answers p table got after) = Comes subscribers (counted table) got (counted after)
Holds (listed p list table got after) = Comes list (counted table) got (counted after)
Holds (keeps p state got after) = Comes subscribers state got after

infixr 5 ◌and◌
pub data All : List Example → Type 0 where
  done : All []
  ◌and◌ : {e : Example} {es : List Example} → Holds e → All es → All (e ∷ es)

-- the octets of `01`, `02` and so on
abbrev pub octets01 : List ℕ
octets01 = 0xB0 ∷ 0x18 ∷ []

abbrev pub octets02 : List ℕ
octets02 = 0x30 ∷ 0x19 ∷ []

abbrev pub octets63 : List ℕ
octets63 = 0xB6 ∷ 0x19 ∷ []

abbrev pub octets68 : List ℕ
octets68 = 0x36 ∷ 0x1C ∷ []

-- the octets of `##214*0492123401*88*4915100002*#`
abbrev pub notice_octets : List ℕ
notice_octets =
    0xA3 ∷ 0x91 ∷ 0x2C ∷ 0x46 ∷ 0x53 ∷ 0xC1 ∷ 0x68 ∷ 0x39 ∷ 0x59 ∷ 0x4C ∷ 0x36 ∷ 0xA3 ∷ 0xC1 ∷ 0x62
    ∷ 0x2A ∷ 0x1C ∷ 0x4E ∷ 0x45 ∷ 0xCB ∷ 0xC5 ∷ 0x6A ∷ 0x31 ∷ 0x18 ∷ 0x0C ∷ 0x06 ∷ 0x93 ∷ 0xA9 ∷ 0x46 ∷ []

abbrev pub examples : List Example
examples =
    packs 1 (ascii "*#") (0xAA ∷ 0x11 ∷ [])
    ∷ packs 2 (ascii "1234567") (0x31 ∷ 0xD9 ∷ 0x8C ∷ 0x56 ∷ 0xB3 ∷ 0xDD ∷ 0x1A ∷ [])
    ∷ packs 3 (ascii "12345678") (0x31 ∷ 0xD9 ∷ 0x8C ∷ 0x56 ∷ 0xB3 ∷ 0xDD ∷ 0x70 ∷ [])
    ∷ reads 4 (0x31 ∷ 0xD9 ∷ 0x8C ∷ 0x56 ∷ 0xB3 ∷ 0xDD ∷ 0x00 ∷ []) (ascii "1234567" ++ (0 ∷ []))
    ∷ answers 5 free (says (asks A registers_f) 1 octets01 ∷ []) (held A)
    ∷ answers 6 (held A) (says (asks B registers_f) 61 (0xB6 ∷ 0x18 ∷ []) ∷ says (asks A registers_f) 1 octets01 ∷ []) (held A)
    ∷ answers 7 (held A) (says (asks B erases_f) 63 octets63 ∷ []) (held A)
    ∷ answers 8 (held A) (says (asks B forces_b) 63 octets63 ∷ says (asks B forces_a) 2 octets02 ∷ []) (noticed 0 1 0)
    ∷ answers 9 (held A) (says (asks A forces_a) 22 (0x32 ∷ 0x19 ∷ []) ∷ []) (held A)
    ∷ answers 10 (held A) (says (asks C interrogates_f) 42 (0x34 ∷ 0x19 ∷ []) ∷ []) (held A)
    ∷ answers 11 free (says (asks A registers_without_zero) 41 (0xB4 ∷ 0x18 ∷ []) ∷ []) free
    ∷ answers 12 free (gets (asks A half_forced) (error 36) [] ∷ []) free
    ∷ answers 13 (noticed 0 3 4294967290) (gets (sends 53) (refusal 5) [] ∷ gets (sends 54) (sent_to A 28) notice_octets ∷ []) (noticed 0 4 0)
    ∷ answers 14 (noticed 0 10 0) (gets (fails 7) again [] ∷ []) (noticed 0 11 7)
    ∷ answers 14 (noticed 0 11 7) (gets (sends 66) (refusal 5) [] ∷ gets (sends 67) (sent_to A 28) notice_octets ∷ []) (noticed 0 12 0)
    ∷ answers 14 (noticed 0 12 0) (gets (fails 7) dropped [] ∷ []) free
    ∷ answers 14 (noticed 0 10 0) (gets (fails 7) again [] ∷ gets (sends 67) (sent_to A 28) notice_octets ∷ gets (fails 70) dropped [] ∷ []) free
    ∷ answers 15 free
    (says (asks A registers_f) 1 octets01
    ∷ says (asks B forces_a) 2 octets02
    ∷ says (asks A registers_f) 1 octets01
    ∷ says (asks B forces_a) 68 octets68
    ∷ [])
    (noticed A 1 0)
    ∷ []

pub p1_to_p15 : All examples
unfolding count_of crew_of value_of digits octets_for chars_in padded packed characters readable filled kept unpacked is_digit pushed stored_form is_number digits_up_to digits_of leading leading_number is_additional text_of notice_text notice_fields begins operation_at service_at number_field_at forced_at erasing_at additional_at fields_of request_of elapsed delay_of delay_allowed rows.notice_up_to rows.row_up_to rows.notice_of rows.record_at rows.stored place_of table_up_to row_of record_of figures.recount states.figures_right states.moved list_sound flags_of requests.step crews.requesting notices.sending_notice notices.taking_result
p1_to_p15 =
    refl and refl and refl and refl and refl and refl and refl and refl and refl and refl and refl and refl and refl and refl and refl and refl and refl and refl and done

-- ---- document 02, M-100

-- the row of the number with the code in F's root, held by a subscriber
abbrev pub member : ℕ → ℕ → List ℕ
member code msisdn = row_of_number (F - 1 + code) msisdn

-- a registration, and an erasure, of F with an additional field
abbrev pub registers_crew : List ℕ → List ℕ
registers_crew field = ascii "**214*0492123401***" ++ field ++ ascii "#"

abbrev pub erases_crew : List ℕ → List ℕ
erases_crew field = ascii "##214*0492123401***" ++ field ++ ascii "#"

abbrev pub ten_rows : ℕ → List ℕ
ten_rows msisdn =
    member 1 msisdn ++ member 2 msisdn ++ member 3 msisdn ++ member 4 msisdn ++ member 5 msisdn
    ++ member 6 msisdn ++ member 7 msisdn ++ member 8 msisdn ++ member 9 msisdn ++ member 10 msisdn

-- `11 10 01020304050607080910 0`
abbrev pub registers_ten : Call × Reply
registers_ten =
    gets (asks A (registers_crew (ascii "BULK9 020304050607080910"))) (outcome 11 25)
    (0xB1 ∷ 0x18 ∷ 0x28 ∷ 0x06 ∷ 0x03 ∷ 0xC1 ∷ 0x62 ∷ 0x30 ∷ 0x19 ∷ 0x6C ∷ 0x06 ∷ 0xA3 ∷ 0xC1 ∷ 0x6A ∷ 0x30 ∷ 0x1B ∷ 0xEC ∷ 0x06 ∷ 0xC3 ∷ 0xC1 ∷ 0x72 ∷ 0x31 ∷ 0x18 ∷ 0x08 ∷ 0x06 ∷ [])

abbrev pub crew_examples : List Example
crew_examples =
    -- `11 2 0102 0`
    answers 100 (member 1 0 ++ member 2 0) (gets (asks A (registers_crew (ascii "BULK1 02"))) (outcome 11 10) (0xB1 ∷ 0x18 ∷ 0x48 ∷ 0x06 ∷ 0x82 ∷ 0xC5 ∷ 0x60 ∷ 0x32 ∷ 0x10 ∷ 0x0C ∷ []) ∷ []) (member 1 A ++ member 2 A)
    -- one held by another, one unknown: `11 1 01 2 0203`
    ∷ answers 100 (member 1 0 ++ member 2 B) (gets (asks A (registers_crew (ascii "BULK2 0203"))) (outcome 11 13) (0xB1 ∷ 0x18 ∷ 0x28 ∷ 0x06 ∷ 0x82 ∷ 0xC5 ∷ 0x40 ∷ 0x32 ∷ 0x10 ∷ 0x4C ∷ 0x06 ∷ 0x9B ∷ 0x01 ∷ []) ∷ []) (member 1 A ++ member 2 B)
    -- none: `11 0 2 0102`
    ∷ answers 100 (member 1 B ++ member 2 B) (gets (asks A (registers_crew (ascii "BULK1 02"))) (outcome 11 10) (0xB1 ∷ 0x18 ∷ 0x08 ∷ 0x06 ∷ 0x92 ∷ 0x81 ∷ 0x60 ∷ 0x31 ∷ 0x98 ∷ 0x0C ∷ []) ∷ []) (member 1 B ++ member 2 B)
    -- ten; M-103: ten more are held
    ∷ keeps 103 (beside (ten_rows 0) (0 ∷ 0 ∷ 0 ∷ [])) (registers_ten ∷ []) (beside (ten_rows A) (10 ∷ 0 ∷ 0 ∷ []))
    -- the lead alone: `11 1 01 0`; then a crew of which she holds half, erased: `12 1 01 1 02`
    ∷ answers 100 (member 1 0 ++ member 2 B)
    (gets (asks A (registers_crew (ascii "BULK0"))) (outcome 11 8) (0xB1 ∷ 0x18 ∷ 0x28 ∷ 0x06 ∷ 0x82 ∷ 0xC5 ∷ 0x40 ∷ 0x30 ∷ [])
    ∷ gets (asks A (erases_crew (ascii "BULK1 02"))) (outcome 12 11) (0x31 ∷ 0x19 ∷ 0x28 ∷ 0x06 ∷ 0x82 ∷ 0xC5 ∷ 0x40 ∷ 0x31 ∷ 0x10 ∷ 0x4C ∷ 0x06 ∷ [])
    ∷ [])
    (member 1 0 ++ member 2 B)
    -- 42 before any step; 36 for a field that breaks its rules, before 42
    ∷ answers 100 free
    (says (asks C (registers_crew (ascii "BULK0"))) 42 (0x34 ∷ 0x19 ∷ []) ∷ gets (asks C (registers_crew (ascii "BULKY GOODS"))) (error 36) [] ∷ []) free
    ∷ []

pub m_100 : All crew_examples
unfolding count_of crew_of counted_codes_at spaced_codes_at sound_codes_at codes_at codes_in codes_sound is_code is_in distinct each crews.with_code crews.walked value_of digits octets_for chars_in padded packed characters readable filled kept unpacked is_digit pushed stored_form is_number digits_up_to digits_of leading leading_number is_additional text_of notice_text notice_fields begins operation_at service_at number_field_at forced_at erasing_at additional_at fields_of request_of elapsed delay_of delay_allowed rows.notice_up_to rows.row_up_to rows.notice_of rows.record_at rows.stored place_of table_up_to row_of record_of figures.recount states.figures_right states.moved list_sound flags_of requests.step crews.requesting notices.sending_notice notices.taking_result
m_100 = refl and refl and refl and refl and refl and refl and done

-- ---- document 02, M-103

-- a call that leaves table and figures as they are
abbrev pub leaves : State → Call × Reply → Example
leaves state got = keeps 103 state (got ∷ []) state

-- F held by A, with figures by their words
abbrev pub held_with : List ℕ → State
held_with words = beside (held A) words

abbrev pub figures_examples : List Example
figures_examples =
    -- held and free again, and once more by her who holds it
    keeps 103 (beside free (0 ∷ 0 ∷ 0 ∷ [])) (says (asks A registers_f) 1 octets01 ∷ []) (held_with (1 ∷ 0 ∷ 0 ∷ []))
    ∷ leaves (held_with (1 ∷ 0 ∷ 0 ∷ [])) (says (asks A registers_f) 1 octets01)
    ∷ keeps 103 (held_with (1 ∷ 0 ∷ 0 ∷ [])) (says (asks A erases_f) 2 octets02 ∷ []) (beside free (0 ∷ 0 ∷ 0 ∷ []))
    -- a forced erasure, by a supervisor and by the holder herself
    ∷ keeps 103 (held_with (1 ∷ 0 ∷ 0 ∷ [])) (says (asks B forces_a) 2 octets02 ∷ []) (beside (noticed 0 1 0) (0 ∷ 1 ∷ 0 ∷ []))
    ∷ keeps 103 (beside (held B) (1 ∷ 0 ∷ 0 ∷ [])) (says (asks B forces_b) 2 octets02 ∷ []) (beside free (0 ∷ 0 ∷ 0 ∷ []))
    -- a sending, and each kind of result
    ∷ keeps 103 (beside (noticed 0 1 0) (0 ∷ 1 ∷ 0 ∷ [])) (gets (sends 7) (sent_to A 28) notice_octets ∷ []) (beside (noticed 0 2 0) (0 ∷ 0 ∷ 1 ∷ []))
    ∷ keeps 103 (beside (noticed 0 2 0) (0 ∷ 0 ∷ 1 ∷ [])) (gets (takes 0 7) delivered [] ∷ []) (beside free (0 ∷ 0 ∷ 0 ∷ []))
    ∷ keeps 103 (beside (noticed 0 2 0) (0 ∷ 0 ∷ 1 ∷ [])) (gets (takes 1 7) dropped [] ∷ []) (beside free (0 ∷ 0 ∷ 0 ∷ []))
    ∷ keeps 103 (beside (noticed 0 2 0) (0 ∷ 0 ∷ 1 ∷ [])) (gets (takes 2 7) dropped [] ∷ []) (beside free (0 ∷ 0 ∷ 0 ∷ []))
    ∷ keeps 103 (beside (noticed 0 2 0) (0 ∷ 0 ∷ 1 ∷ [])) (gets (takes 3 7) dropped [] ∷ []) (beside free (0 ∷ 0 ∷ 0 ∷ []))
    ∷ keeps 103 (beside (noticed 0 2 0) (0 ∷ 0 ∷ 1 ∷ [])) (gets (takes 4 7) dropped [] ∷ []) (beside free (0 ∷ 0 ∷ 0 ∷ []))
    ∷ keeps 103 (beside (noticed 0 2 0) (0 ∷ 0 ∷ 1 ∷ [])) (gets (takes 5 7) again [] ∷ []) (beside (noticed 0 3 7) (0 ∷ 1 ∷ 0 ∷ []))
    ∷ keeps 103 (beside (noticed A 12 0) (1 ∷ 0 ∷ 1 ∷ [])) (gets (takes 5 7) dropped [] ∷ []) (held_with (1 ∷ 0 ∷ 0 ∷ []))
    -- wrong by one, two words, four
    ∷ leaves (held_with (2 ∷ 0 ∷ 0 ∷ [])) (gets (asks A registers_f) (refusal 10) [])
    ∷ leaves (held_with (0 ∷ 0 ∷ 0 ∷ [])) (gets (asks A registers_f) (refusal 10) [])
    ∷ leaves (held_with (1 ∷ 1 ∷ 0 ∷ [])) (gets (asks A registers_f) (refusal 10) [])
    ∷ leaves (held_with (1 ∷ 0 ∷ 1 ∷ [])) (gets (asks A registers_f) (refusal 10) [])
    ∷ leaves (held_with (1 ∷ 0 ∷ [])) (gets (asks A registers_f) (refusal 10) [])
    ∷ leaves (held_with (1 ∷ 0 ∷ 0 ∷ 0 ∷ [])) (gets (asks A registers_f) (refusal 10) [])
    -- 2 before 10; 10 before 35 and before 7
    ∷ leaves (beside (noticed 0 13 0) (0 ∷ 0 ∷ [])) (gets (asks A registers_f) (refusal 2) [])
    ∷ leaves (held_with (0 ∷ 0 ∷ 0 ∷ [])) (gets (asks 0 registers_f) (refusal 10) [])
    ∷ leaves (beside [] (1 ∷ 0 ∷ 0 ∷ [])) (gets (sends 7) (refusal 10) [])
    ∷ leaves (beside [] (1 ∷ 0 ∷ 0 ∷ [])) (gets (fails 7) (refusal 10) [])
    ∷ leaves (beside [] (0 ∷ 0 ∷ 0 ∷ [])) (gets (fails 7) (refusal 7) [])
    ∷ []

pub m_103 : All figures_examples
unfolding count_of crew_of value_of digits octets_for chars_in padded packed characters readable filled kept unpacked is_digit pushed stored_form is_number digits_up_to digits_of leading leading_number is_additional text_of notice_text notice_fields begins operation_at service_at number_field_at forced_at erasing_at additional_at fields_of request_of elapsed delay_of delay_allowed rows.notice_up_to rows.row_up_to rows.notice_of rows.record_at rows.stored place_of table_up_to row_of record_of figures.recount states.figures_right states.moved list_sound flags_of requests.step crews.requesting notices.sending_notice notices.taking_result
m_103 =
    refl and refl and refl and refl and refl and refl and refl and refl and refl and refl and refl and refl and refl and refl and refl and refl and refl and refl and refl and refl and refl and refl and refl and refl and done

-- every phase, three of the numbers held
pub counts_phases : figures.recount
    ((110001 ∷ A ∷ 0 ∷ 0 ∷ 0 ∷ 0 ∷ 0 ∷ []) ++ (110002 ∷ 0 ∷ 1 ∷ A ∷ B ∷ 0 ∷ 0 ∷ []) ++ (110003 ∷ B ∷ 2 ∷ A ∷ B ∷ 0 ∷ 0 ∷ []) ++ (110004 ∷ 0 ∷ 3 ∷ A ∷ B ∷ 9 ∷ 0 ∷ [])
    ++ (110005 ∷ 0 ∷ 4 ∷ A ∷ B ∷ 0 ∷ 0 ∷ []) ++ (110006 ∷ 0 ∷ 5 ∷ A ∷ B ∷ 9 ∷ 0 ∷ []) ++ (110007 ∷ 0 ∷ 6 ∷ A ∷ B ∷ 0 ∷ 0 ∷ []) ++ (110008 ∷ 0 ∷ 7 ∷ A ∷ B ∷ 9 ∷ 0 ∷ [])
    ++ (110009 ∷ 0 ∷ 8 ∷ A ∷ B ∷ 0 ∷ 0 ∷ []) ++ (110010 ∷ 0 ∷ 9 ∷ A ∷ B ∷ 9 ∷ 0 ∷ []) ++ (110011 ∷ 0 ∷ 10 ∷ A ∷ B ∷ 0 ∷ 0 ∷ []) ++ (110012 ∷ 0 ∷ 11 ∷ A ∷ B ∷ 9 ∷ 0 ∷ [])
    ++ (110013 ∷ C ∷ 12 ∷ A ∷ B ∷ 0 ∷ 0 ∷ []))
    ≡ 3 ∷ 6 ∷ 6 ∷ []
unfolding figures.recount
counts_phases = refl

pub counts_none : figures.recount [] ≡ 0 ∷ 0 ∷ 0 ∷ []
unfolding figures.recount
counts_none = refl

-- ---- document 02, M-105

-- A asks to erase the number that has her digits
abbrev pub erases_own_a : List ℕ
erases_own_a = ascii "##214*4915100001***#"

abbrev pub crew_of_two : ℕ → ℕ → List ℕ
crew_of_two lead branch = row_of_number A lead ++ row_of_number B branch

abbrev pub erases_own_crew : List ℕ
erases_own_crew = ascii "##214*4915100001***BULK1 02#"

abbrev pub own_examples : List Example
own_examples =
    -- held by another, by nobody, with a notice pending
    answers 105 (row_of_number A B) (says (asks A erases_own_a) 2 octets02 ∷ []) (row_of_number A 0)
    ∷ answers 105 (row_of_number A 0) (says (asks A erases_own_a) 62 (0x36 ∷ 0x19 ∷ []) ∷ []) (row_of_number A 0)
    ∷ answers 105 (A ∷ B ∷ 3 ∷ C ∷ B ∷ 9 ∷ 0 ∷ []) (says (asks A erases_own_a) 2 octets02 ∷ []) (A ∷ 0 ∷ 3 ∷ C ∷ B ∷ 9 ∷ 0 ∷ [])
    -- by another subscriber, by one who is not listed, by one with flags 0
    ∷ answers 105 (row_of_number A A) (says (asks B erases_own_a) 63 octets63 ∷ []) (row_of_number A A)
    ∷ answers 105 (row_of_number D A) (says (asks D (ascii "##214*4915100004***#")) 42 (0x34 ∷ 0x19 ∷ []) ∷ []) (row_of_number D A)
    ∷ answers 105 (row_of_number C A) (says (asks C (ascii "##214*4915100003***#")) 42 (0x34 ∷ 0x19 ∷ []) ∷ []) (row_of_number C A)
    -- of a number with a zero more in front, a zero more behind, a zero less in front
    ∷ answers 105 (row_of_number 104915100001 B) (says (asks A (ascii "##214*04915100001***#")) 63 octets63 ∷ []) (row_of_number 104915100001 B)
    ∷ answers 105 (row_of_number 149151000010 B) (says (asks A (ascii "##214*49151000010***#")) 63 octets63 ∷ []) (row_of_number 149151000010 B)
    ∷ listed 105 (F ∷ 1 ∷ subscribers) (row_of_number 1492123401 A) (says (asks F (ascii "##214*492123401***#")) 63 octets63 ∷ []) (row_of_number 1492123401 A)
    ∷ listed 105 (F ∷ 1 ∷ subscribers) (held A) (says (asks F erases_f) 2 octets02 ∷ []) free
    -- in a crew, the lead and the branch: `12 1 01 1 02`, `12 1 02 1 01`
    ∷ answers 105 (crew_of_two C C) (gets (asks A erases_own_crew) (outcome 12 11) (0x31 ∷ 0x19 ∷ 0x28 ∷ 0x06 ∷ 0x82 ∷ 0xC5 ∷ 0x40 ∷ 0x31 ∷ 0x10 ∷ 0x4C ∷ 0x06 ∷ []) ∷ []) (crew_of_two 0 C)
    ∷ answers 105 (crew_of_two C C) (gets (asks B erases_own_crew) (outcome 12 11) (0x31 ∷ 0x19 ∷ 0x28 ∷ 0x06 ∷ 0x82 ∷ 0xC9 ∷ 0x40 ∷ 0x31 ∷ 0x10 ∷ 0x2C ∷ 0x06 ∷ []) ∷ []) (crew_of_two C 0)
    -- forced: without flag 2, naming another, naming the holder, and with a notice pending
    ∷ answers 105 (row_of_number A B) (says (asks A (ascii "##214*4915100001*88*4915100002*#")) 22 (0x32 ∷ 0x19 ∷ []) ∷ []) (row_of_number A B)
    ∷ answers 105 (row_of_number B C) (says (asks B (ascii "##214*4915100002*88*4915100001*#")) 63 octets63 ∷ []) (row_of_number B C)
    ∷ answers 105 (row_of_number B C) (says (asks B (ascii "##214*4915100002*88*4915100003*#")) 2 octets02 ∷ []) (B ∷ 0 ∷ 1 ∷ C ∷ B ∷ 0 ∷ 0 ∷ [])
    ∷ answers 105 (B ∷ C ∷ 1 ∷ A ∷ C ∷ 0 ∷ 0 ∷ []) (says (asks B (ascii "##214*4915100002*88*4915100003*#")) 68 octets68 ∷ []) (B ∷ C ∷ 1 ∷ A ∷ C ∷ 0 ∷ 0 ∷ [])
    -- and she still cannot register it
    ∷ answers 105 (row_of_number A 0) (says (asks A (ascii "**214*4915100001***#")) 67 (0xB6 ∷ 0x1B ∷ []) ∷ []) (row_of_number A 0)
    ∷ []

pub m_105 : All own_examples
unfolding count_of crew_of counted_codes_at spaced_codes_at sound_codes_at codes_at codes_in codes_sound is_code is_in distinct each crews.with_code crews.walked value_of digits octets_for chars_in padded packed characters readable filled kept unpacked is_digit pushed stored_form is_number digits_up_to digits_of leading leading_number is_additional text_of notice_text notice_fields begins operation_at service_at number_field_at forced_at erasing_at additional_at fields_of request_of elapsed delay_of delay_allowed rows.notice_up_to rows.row_up_to rows.notice_of rows.record_at rows.stored place_of table_up_to row_of record_of figures.recount states.figures_right states.moved list_sound flags_of requests.step crews.requesting notices.sending_notice notices.taking_result
m_105 =
    refl and refl and refl and refl and refl and refl and refl and refl and refl and refl and refl and refl and refl and refl and refl and refl and refl and done

-- ---- document 02, M-107

-- by the delay 0, 299 and 300 seconds after the last failure: what a sending answers, and what is found
pub m_107 :
    ((call subscribers 0 (sends 399) (counted (noticed 0 3 100))).0.answer ≡ refusal 5)
    × ((call subscribers 0 (sends 400) (counted (noticed 0 3 100))).0.answer ≡ sent_to A 28)
    × (notices.finding (noticed 0 3 100) 0 399 ≡ none_due)
    × (notices.finding (noticed 0 3 100) 0 400 ≡ found F)
unfolding count_of crew_of value_of digits octets_for chars_in padded packed characters readable filled kept unpacked is_digit pushed stored_form is_number digits_up_to digits_of leading leading_number is_additional text_of notice_text notice_fields begins operation_at service_at number_field_at forced_at erasing_at additional_at fields_of request_of elapsed delay_of delay_allowed rows.notice_up_to rows.row_up_to rows.notice_of rows.record_at rows.stored place_of table_up_to row_of record_of figures.recount states.figures_right states.moved list_sound flags_of requests.step crews.requesting notices.sending_notice notices.taking_result notices.finding notices.first_due
m_107 = (refl, refl, refl, refl)

-- ---- document 02, M-101

-- a Register with transaction 1 and invoke number 5 asking to register F: its message type, its operation, and what ends it
abbrev pub asking : ℕ → ℕ → List ℕ → List ℕ
asking type operation ending =
    (0x1B ∷ type ∷ 0x1C ∷ 0x21 ∷ 0xA1 ∷ 0x1F ∷ 0x02 ∷ 0x01 ∷ 0x05 ∷ 0x02 ∷ 0x01 ∷ operation ∷ 0x30 ∷ 0x17 ∷ 0x04 ∷ 0x01 ∷ 0x0F ∷ 0x04 ∷ 0x12 ∷ [])
    ++ packed registers_f ++ ending

-- by a subscriber, with a frame buffer of so many octets
abbrev pub frames : ℕ → ℕ → List ℕ → Call
frames octets msisdn message = framed (record { 0 = msisdn }) message (replicate octets 0)

abbrev pub framed_examples : List Example
framed_examples =
    -- `01` in a Return Result, of 23 octets
    answers 101 free
    (gets (frames 120 A (asking 0x7B 0x3B messages.version)) (outcome 1 23)
    (0x9B ∷ 0x2A ∷ 0x1C ∷ 0x13 ∷ 0xA2 ∷ 0x11 ∷ 0x02 ∷ 0x01 ∷ 0x05 ∷ 0x30 ∷ 0x0C ∷ 0x02 ∷ 0x01 ∷ 0x3B ∷ 0x30 ∷ 0x07 ∷ 0x04 ∷ 0x01 ∷ 0x0F ∷ 0x04 ∷ 0x02 ∷ octets01) ∷ [])
    (held A)
    -- an error in a Return Error: a requester that is no number
    ∷ answers 101 free
    (gets (frames 120 0 (asking 0x7B 0x3B messages.version)) (return_error 35 12) (0x9B ∷ 0x2A ∷ 0x1C ∷ 0x08 ∷ 0xA3 ∷ 0x06 ∷ 0x02 ∷ 0x01 ∷ 0x05 ∷ 0x02 ∷ 0x01 ∷ 0x23 ∷ []) ∷ []) free
    -- an unknown operation, and a message without its end: Reject 1, Reject 2
    ∷ answers 101 free
    (gets (frames 120 A (asking 0x7B 0x3C messages.version)) (reject 1 12) (0x9B ∷ 0x2A ∷ 0x1C ∷ 0x08 ∷ 0xA4 ∷ 0x06 ∷ 0x02 ∷ 0x01 ∷ 0x05 ∷ 0x81 ∷ 0x01 ∷ 0x01 ∷ [])
    ∷ gets (frames 120 A (asking 0x7B 0x3B [])) (reject 2 12) (0x9B ∷ 0x2A ∷ 0x1C ∷ 0x08 ∷ 0xA4 ∷ 0x06 ∷ 0x02 ∷ 0x01 ∷ 0x05 ∷ 0x81 ∷ 0x01 ∷ 0x02 ∷ [])
    ∷ [])
    free
    -- M-103: 10 before a Reject
    ∷ keeps 103 (beside (held A) (0 ∷ 0 ∷ 0 ∷ [])) (gets (frames 120 A (asking 0x7B 0x3C messages.version)) (refusal 10) [] ∷ []) (beside (held A) (0 ∷ 0 ∷ 0 ∷ []))
    -- no Register, and a frame buffer under 120 octets
    ∷ answers 101 free
    (gets (frames 120 A (asking 0x3B 0x3B messages.version)) (refusal 11) [] ∷ gets (frames 119 A (asking 0x3B 0x3B messages.version)) (refusal 1) [] ∷ []) free
    ∷ []

pub m_101 : All framed_examples
unfolding count_of crew_of value_of digits octets_for chars_in padded packed characters readable filled kept unpacked is_digit pushed stored_form is_number digits_up_to digits_of leading leading_number is_additional text_of notice_text notice_fields begins operation_at service_at number_field_at forced_at erasing_at additional_at fields_of request_of elapsed delay_of delay_allowed rows.notice_up_to rows.row_up_to rows.notice_of rows.record_at rows.stored place_of table_up_to row_of record_of figures.recount states.figures_right states.moved list_sound flags_of requests.step crews.requesting notices.sending_notice notices.taking_result part contents_of octet_at component body_of invoke_of messages.message_of messages.register_of messages.release messages.inverted frame.framed_request
m_101 = refl and refl and refl and refl and refl and done

-- ---- document 02, M-111

-- at the terminal, a number and its holder
abbrev pub erases_at : ℕ → ℕ → Call
erases_at number holder = terminal (record { 0 = number }) (record { 0 = holder }) room

-- F's row with a notice to A from the terminal
abbrev pub noticed_blank : ℕ → ℕ → ℕ → List ℕ
noticed_blank msisdn phase second = F ∷ msisdn ∷ phase ∷ A ∷ 0 ∷ second ∷ 0 ∷ []

-- the octets of `##214*0492123401*88**#`
abbrev pub blank_octets : List ℕ
blank_octets =
    0xA3 ∷ 0x91 ∷ 0x2C ∷ 0x46 ∷ 0x53 ∷ 0xC1 ∷ 0x68 ∷ 0x39 ∷ 0x59 ∷ 0x4C ∷ 0x36 ∷ 0xA3 ∷ 0xC1 ∷ 0x62
    ∷ 0x2A ∷ 0x1C ∷ 0x4E ∷ 0xA5 ∷ 0x1A ∷ 0x01 ∷ []

abbrev pub terminal_examples : List Example
terminal_examples =
    answers 111 (held A) (says (erases_at F A) 2 octets02 ∷ []) (noticed_blank 0 1 0)
    -- the notice is repeated as any other, and names nobody
    ∷ answers 111 (held A)
    (says (erases_at F A) 2 octets02
    ∷ gets (sends 100) (sent_to A 20) blank_octets
    ∷ gets (fails 101) again []
    ∷ gets (sends 160) (refusal 5) []
    ∷ gets (sends 161) (sent_to A 20) blank_octets
    ∷ gets (takes 0 162) delivered []
    ∷ [])
    free
    -- 41, 62, 63, and 68 for a notice from anybody
    ∷ answers 111 (held A) (says (erases_at 1492123401 A) 41 (0xB4 ∷ 0x18 ∷ []) ∷ says (erases_at F B) 63 octets63 ∷ []) (held A)
    ∷ answers 111 free (says (erases_at F A) 62 (0x36 ∷ 0x19 ∷ []) ∷ []) free
    ∷ answers 111 (noticed A 1 0) (says (erases_at F A) 68 octets68 ∷ says (erases_at F B) 63 octets63 ∷ []) (noticed A 1 0)
    ∷ answers 111 (noticed_blank A 12 0) (says (erases_at F A) 68 octets68 ∷ says (asks B forces_a) 68 octets68 ∷ []) (noticed_blank A 12 0)
    -- 7 for each of the two, before 41, and 1 before 7
    ∷ answers 111 (held A)
    (gets (erases_at F 0) (refusal 7) []
    ∷ gets (erases_at 4921 A) (refusal 7) []
    ∷ gets (erases_at 1492123401 4921) (refusal 7) []
    ∷ gets (terminal (record { 0 = 0 }) (record { 0 = 0 }) (replicate 79 0)) (refusal 1) []
    ∷ [])
    (held A)
    -- a closed number stays closed
    ∷ answers 111 (F ∷ A ∷ 0 ∷ 0 ∷ 0 ∷ 0 ∷ 1 ∷ []) (says (erases_at F A) 2 octets02 ∷ []) (F ∷ 0 ∷ 1 ∷ A ∷ 0 ∷ 0 ∷ 1 ∷ [])
    -- a request that leaves the MSISDN blank names nobody
    ∷ answers 111 (held A) (gets (asks B (ascii "##214*0492123401*88**#")) (error 36) [] ∷ []) (held A)
    -- a notice has an addressee, who is not its supervisor; 10 directly after 2
    ∷ answers 111 (F ∷ A ∷ 1 ∷ 0 ∷ 0 ∷ 0 ∷ 0 ∷ []) (gets (erases_at F A) (refusal 2) [] ∷ []) (F ∷ A ∷ 1 ∷ 0 ∷ 0 ∷ 0 ∷ 0 ∷ [])
    ∷ answers 111 (F ∷ B ∷ 1 ∷ A ∷ A ∷ 0 ∷ 0 ∷ []) (gets (erases_at F B) (refusal 2) [] ∷ []) (F ∷ B ∷ 1 ∷ A ∷ A ∷ 0 ∷ 0 ∷ [])
    ∷ keeps 111 (beside (held A) (0 ∷ 0 ∷ 0 ∷ [])) (gets (erases_at F 0) (refusal 10) [] ∷ []) (beside (held A) (0 ∷ 0 ∷ 0 ∷ []))
    ∷ []

pub m_111 : All terminal_examples
unfolding count_of crew_of value_of digits octets_for chars_in padded packed characters readable filled kept unpacked is_digit pushed stored_form is_number digits_up_to digits_of leading leading_number is_additional text_of notice_text notice_fields begins operation_at service_at number_field_at forced_at erasing_at additional_at fields_of request_of elapsed delay_of delay_allowed rows.notice_up_to rows.row_up_to rows.notice_of rows.record_at rows.stored place_of table_up_to row_of record_of figures.recount states.figures_right states.moved list_sound flags_of requests.step crews.requesting notices.sending_notice notices.taking_result notices.finding notices.first_due terminal_erasure
m_111 = refl and refl and refl and refl and refl and refl and refl and refl and refl and refl and refl and refl and done

-- ---- document 02, M-112

-- asked by a message centre of the node whose code is 049
abbrev pub routes_to : Bool → List ℕ → Call
routes_to coded digits = routes (ascii "049") coded digits

-- the subaddress of branch 01
abbrev pub branch01 : List ℕ
branch01 = 0x80 ∷ 0x48 ∷ 0x10 ∷ []

abbrev pub routing_examples : List Example
routing_examples =
    -- with its code, and without
    answers 112 (held A)
    (gets (routes_to true (ascii "0492123401")) (routed_to A branch01) []
    ∷ gets (routes_to false (ascii "2123401")) (routed_to A branch01) []
    -- a foreign code, 41, and digits that begin with the node's code and are marked as having none
    ∷ gets (routes_to true (ascii "0332123401")) (ask_network (ascii "033")) []
    ∷ gets (routes_to true (ascii "0492123402")) (outcome 41 0) []
    ∷ gets (routes_to false (ascii "0492123401")) (outcome 41 0) []
    ∷ [])
    (held A)
    ∷ answers 112 free (gets (routes_to true (ascii "0492123401")) (outcome 62 0) [] ∷ []) free
    -- a foreign number that stands in the table is not looked at
    ∷ answers 112 (row_of_number 10332123401 A) (gets (routes_to true (ascii "0332123401")) (ask_network (ascii "033")) [] ∷ []) (row_of_number 10332123401 A)
    -- 5 and 15 digits; marked as having no code, 2 and 12
    ∷ answers 112 free
    (gets (routes_to true (ascii "0492")) (error 36) []
    ∷ gets (routes_to true (ascii "04921")) (outcome 41 0) []
    ∷ gets (routes_to true (ascii "049212345678901")) (outcome 41 0) []
    ∷ gets (routes_to true (ascii "0492123456789012")) (error 36) []
    ∷ gets (routes_to false (ascii "2")) (error 36) []
    ∷ gets (routes_to false (ascii "21")) (outcome 41 0) []
    ∷ gets (routes_to false (ascii "212345678901")) (outcome 41 0) []
    ∷ gets (routes_to false (ascii "2123456789012")) (error 36) []
    -- a character that is no digit, and a node's code that is not three digits
    ∷ gets (routes_to true (ascii "04921234A1")) (error 36) []
    ∷ gets (routes (ascii "04") true (ascii "0492123401")) (error 36) []
    ∷ gets (routes (ascii "0492") true (ascii "0492123401")) (error 36) []
    ∷ gets (routes (ascii "04A") true (ascii "0492123401")) (error 36) []
    ∷ [])
    free
    -- types 1 to 5
    ∷ answers 112 (row_of_number 10491123401 A) (gets (routes_to true (ascii "0491123401")) (routed_to A []) [] ∷ []) (row_of_number 10491123401 A)
    ∷ answers 112 (row_of_number 10493123457 A) (gets (routes_to true (ascii "0493123457")) (routed_to A (0x80 ∷ 0x48 ∷ 0x75 ∷ [])) [] ∷ []) (row_of_number 10493123457 A)
    ∷ answers 112 (row_of_number 10494123490 A) (gets (routes_to true (ascii "0494123490")) (routed_to A (0x80 ∷ 0x48 ∷ 0x09 ∷ [])) [] ∷ []) (row_of_number 10494123490 A)
    ∷ answers 112 (row_of_number 10495123401 A) (gets (routes_to true (ascii "0495123401")) (routed_to A []) [] ∷ []) (row_of_number 10495123401 A)
    -- of five digits the type is the first of the branch
    ∷ answers 112 (row_of_number 104921 A) (gets (routes_to false (ascii "21")) (routed_to A (0x80 ∷ 0x48 ∷ 0x12 ∷ [])) [] ∷ []) (row_of_number 104921 A)
    -- 15, held
    ∷ answers 112 (row_of_number 1049212345678901 A) (gets (routes_to true (ascii "049212345678901")) (routed_to A branch01) [] ∷ []) (row_of_number 1049212345678901 A)
    -- wrong figures do not matter; an unsound table does, before all else
    ∷ keeps 112 (beside (held A) []) (gets (routes_to true (ascii "0492123401")) (routed_to A branch01) [] ∷ []) (beside (held A) [])
    ∷ answers 112 (F ∷ A ∷ []) (gets (routes [] true []) (refusal 2) [] ∷ []) (F ∷ A ∷ [])
    ∷ []

pub m_112 : All routing_examples
unfolding count_of crew_of value_of digits octets_for chars_in padded packed characters readable filled kept unpacked is_digit pushed stored_form is_number digits_up_to digits_of leading leading_number is_additional text_of notice_text notice_fields begins operation_at service_at number_field_at forced_at erasing_at additional_at fields_of request_of elapsed delay_of delay_allowed rows.notice_up_to rows.row_up_to rows.notice_of rows.record_at rows.stored place_of table_up_to row_of record_of figures.recount states.figures_right states.moved list_sound flags_of requests.step crews.requesting notices.sending_notice notices.taking_result notices.finding notices.first_due terminal_erasure each routing subaddress_of
m_112 = refl and refl and refl and refl and refl and refl and refl and refl and refl and refl and refl and refl and done
