-- Its tests are the definition's, in the same order. Assumes nothing.
use Rattle.std.proofs.Common.{sym, ◌∙◌, arith}
use Rattle.crews.proofs.Reading.{length_codes_in}
use Rattle.crews.proofs.Steps.{codes_other, codes_odd, codes_many, codes_not, codes_read_lem}
use Rattle.crews.proofs.read_codes.Goals as goal

pub returns-then-not-are_digits : goal.returns-then-not-are_digits
returns-then-not-are_digits c = codes_other _ (sym c.are_digits.ensures ∙ c.if-not-are_digits.true)

pub returns-then-part-ne0 : goal.returns-then-part-ne0
returns-then-part-ne0 c = codes_odd _ c.if-part-ne0.true

pub returns-then-n-gt-MOST_CODES : goal.returns-then-n-gt-MOST_CODES
returns-then-n-gt-MOST_CODES c = codes_many _ (sym c.are_digits.ensures ∙ c.if-not-are_digits.false) c.if-part-ne0.false (omega arith)

pub are_allowed-requires : goal.are_allowed-requires
are_allowed-requires c = sym c.are_digits.ensures ∙ c.if-not-are_digits.false

pub returns-then-not-are_allowed : goal.returns-then-not-are_allowed
returns-then-not-are_allowed c =
    codes_not _ (sym c.are_digits.ensures ∙ c.if-not-are_digits.false) c.if-part-ne0.false (sym c.are_allowed.ensures ∙ c.if-not-are_allowed.true)

pub returns : goal.returns
returns c =
    let s = c.args.part.now in (
      _,
      codes_read_lem s (sym c.are_digits.ensures ∙ c.if-not-are_digits.false) c.if-part-ne0.false (omega arith) (sym c.are_allowed.ensures ∙ c.if-not-are_allowed.false),
      sym (length_codes_in s),
    )
