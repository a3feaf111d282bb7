-- Document 01, "Notices", and document 02, M-111: the text of a notice, and how it is read back; a forced erasure's is one case (proofs/Notices). Assumes nothing.
use Rattle.std.specs.Prelude as core
use Rattle.std.specs.Prelude.{ℕ, Bool, not, cond, ◌&&◌, List, [], ◌∷◌, length, leb, Some, None}
use Rattle.std.proofs.Math.Option.{Option, none, some}
use Rattle.answers.specs.Ascii.{ascii}
use Rattle.answers.specs.Begins.{behind}
use Rattle.answers.specs.Checks.{◌>>=◌, only_if}
use Rattle.answers.specs.Joined.{joined}
use Rattle.numbers.specs.Numbers.{is_number, is_nobody, number_or_nobody, digits_of}
use Rattle.numbers.specs.declared.FunctionalNumber.{FunctionalNumber}
use Rattle.numbers.specs.declared.Msisdn.{Msisdn}
use Rattle.crews.specs.Crews.{is_bulk}
use Rattle.strings.specs.Text.{are_additional, most_additional, star, hash}
use Rattle.strings.specs.Reader.{unpacked_by, Field, field_at, or_else, number_field_at, additional_at}

-- the fields of a notice: the number, the supervisor, and the additional field by its characters
pub record NoticeString : Type 0 where
  pub number : FunctionalNumber
  pub supervisor : Msisdn
  pub additional : List ℕ

-- the fields of a notice that keep its rules; no crew may stand in it
unfoldable pub notice_string_sound : NoticeString → Bool
notice_string_sound n =
    is_number n.number.0
    && number_or_nobody n.supervisor.0
    && leb (length n.additional) most_additional
    && are_additional n.additional
    && not (is_bulk n.additional)

-- the supervisor's MSISDN; M-111: "leaves the supervisor field's MSISDN blank", where nobody listed forced the holder off
abbrev pub supervisor_digits : Msisdn → List ℕ
supervisor_digits supervisor = cond (is_nobody supervisor) [] (digits_of supervisor.0)

-- "`##214*` number `*88*` supervisor `*#`", M-111: `##214*0492123401*88**#`; in front of the `#` the additional field
unfoldable pub notice_text : NoticeString → List ℕ
notice_text n = joined
    (ascii "##214*"
    ∷ digits_of n.number.0
    ∷ ascii "*88*"
    ∷ supervisor_digits n.supervisor
    ∷ star
    ∷ n.additional
    ∷ hash
    ∷ [])

-- what a sending writes: nothing in the additional field
unfoldable pub notice_fields : FunctionalNumber → Msisdn → NoticeString
notice_fields number supervisor = record { number = number; supervisor = supervisor; additional = [] }

-- ---- read back

-- the supervisor's MSISDN and its star, or the star alone
unfoldable pub supervisor_field_at : List ℕ → Option (Field ℕ)
supervisor_field_at s = or_else (field_at 0 star s) (number_field_at s)

-- all fields, in their order
unfoldable pub notice_string_at : List ℕ → Option NoticeString
notice_string_at s = do
  rest ← behind (ascii "##214*") s
  number ← number_field_at rest
  forced ← behind (ascii "88*") number.rest
  supervisor ← supervisor_field_at forced
  additional ← additional_at supervisor.rest
  only_if (not (is_bulk additional))
      (record { number = record { 0 = number.got }; supervisor = record { 0 = supervisor.got }; additional = additional })

-- what packed octets read as: nothing where their bits are unreadable or they are no notice's
unfoldable pub notice_string_of : List ℕ → Option NoticeString
notice_string_of os = unpacked_by notice_string_at os

-- what the reader answers: the number and the supervisor
abbrev pub notice_read : Option NoticeString → core.Option (FunctionalNumber × Msisdn)
notice_read none = None
notice_read (some n) = Some (n.number, n.supervisor)
