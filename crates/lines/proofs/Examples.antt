-- Document 01, "The program", and M-107's second listing: the whole inputs and the whole outputs, computed. Assumes nothing.
use mathlib.Core.Path.{◌≡◌, refl}
use Prim.Native.String.{String}
use Rattle.answers.specs.Begins.{begins}
use Rattle.answers.specs.Leading.{each, leading}
use Rattle.answers.specs.Ascii.{ascii}
use Rattle.packing.specs.Packing.{value_of, digits, octets_for, chars_in, taken, padded, packed, characters, readable, filled, kept, unpacked}
use Rattle.numbers.specs.Numbers.{is_digit, pushed, stored_form, is_number, digits_up_to, digits_of, leading_number}
use Rattle.crews.specs.Crews.{crew_of, count_of}
use Rattle.strings.specs.Text.{is_additional, text_of}
use Rattle.strings.specs.Notices.{notice_text, notice_fields}
use Rattle.strings.specs.Reader.{operation_at, service_at, number_field_at, forced_at, erasing_at, additional_at, fields_of}
use Rattle.strings.specs.Outcomes.{request_of}
use Rattle.records.specs.Steps.{elapsed, delay_of, delay_allowed}
use Rattle.rows.specs.Rows as rows
use Rattle.tables.specs.Keys.{place_of}
use Rattle.tables.specs.Tables.{table_up_to, row_of, record_of, list_sound, flags_of}
use Rattle.tables.specs.Figures.{recount}
use Rattle.states.specs.States.{figures_right, moved}
use Rattle.rules.specs.Requests as requests
use Rattle.rules.specs.Crews as crews
use Rattle.rules.specs.Notices as notices
use Rattle.forms.specs.Lines as lines
use Rattle.lines.specs.Program as program
use Rattle.lines.specs.Program.{output_of}

abbrev whole_input : String
whole_input =
    "N 0492123401\nS 4915100001 1\nS 4915100002 3\nR 4915100001 **214*0492123401***#\nR 4915100002 ##214*0492123401*88*4915100001*#\nT 100 0492123401\nD 101 0492123401 5\nT 130 0492123401\nT 161 0492123401\nD 162 0492123401 0\n"

abbrev whole_output : String
whole_output =
    "R 01\nR 02\nT 4915100001 ##214*0492123401*88*4915100002*#\nD again\nT refused 5\nT 4915100001 ##214*0492123401*88*4915100002*#\nD delivered\n"

-- "`W 0`, then document 01's input with a T at 401 before the last line, now D 402"
abbrev later_input : String
later_input =
    "W 0\nN 0492123401\nS 4915100001 1\nS 4915100002 3\nR 4915100001 **214*0492123401***#\nR 4915100002 ##214*0492123401*88*4915100001*#\nT 100 0492123401\nD 101 0492123401 5\nT 130 0492123401\nT 161 0492123401\nT 401 0492123401\nD 402 0492123401 0\n"

-- "T at 161 is refused 5 and T at 401 is sent"
abbrev later_output : String
later_output =
    "R 01\nR 02\nT 4915100001 ##214*0492123401*88*4915100002*#\nD again\nT refused 5\nT refused 5\nT 4915100001 ##214*0492123401*88*4915100002*#\nD delivered\n"

pub listings : (output_of (ascii whole_input) ≡ ascii whole_output) × (output_of (ascii later_input) ≡ ascii later_output)
unfolding count_of crew_of value_of digits octets_for chars_in taken each padded packed characters readable filled kept unpacked is_digit pushed stored_form is_number digits_up_to digits_of leading leading_number is_additional text_of notice_text notice_fields begins operation_at service_at number_field_at forced_at erasing_at additional_at fields_of request_of elapsed delay_of delay_allowed rows.notice_up_to rows.row_up_to rows.notice_of rows.record_at rows.stored place_of table_up_to row_of record_of list_sound flags_of recount figures_right moved requests.step crews.requesting notices.sending_notice notices.taking_result lines.lines_of lines.first_field lines.behind_field lines.is_digits lines.number_of lines.asked_of lines.value_below lines.number_form lines.subscriber_form lines.request_form lines.sending_form lines.result_fields lines.result_form lines.delay_form lines.lettered lines.form_of program.may_follow program.numbered program.subscribed program.delayed program.asked program.requested program.dispatched program.reported program.line_effect program.lines_effect program.program_effect program.output_of
listings = (refl, refl)
