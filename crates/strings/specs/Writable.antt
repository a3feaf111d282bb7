-- A helper: fields that a text is written from, a request's or a notice's. Assumes nothing.
use Rattle.std.specs.Prelude.{◌≡◌, Bool, true, length, leb}
use Rattle.numbers.specs.Numbers.{is_number, number_or_nobody}
use Rattle.strings.specs.declared.Erasing.{Erasing}
use Rattle.strings.specs.declared.Erasing.TheVariants.{Empty, Forced}
use Rattle.strings.specs.Text.{Request, are_additional, most_additional}

-- the holder that a request names, or the supervisor in its place in a notice
abbrev pub msisdn_writable : Erasing → Bool
msisdn_writable Empty = true
msisdn_writable (Forced m) = number_or_nobody m.0

pub record Writable (f : Request) : Type 0 where
  pub number : is_number f.number.0 ≡ true
  pub msisdn : msisdn_writable f.erasing ≡ true
  pub few : leb (length f.additional) most_additional ≡ true
  pub additional : are_additional f.additional ≡ true
