-- Assumes nothing.
use Rattle.std.proofs.Common.{sym, ◌∙◌, rules, tests}
use Rattle.std.specs.Char.{is_ascii_digit}
use Rattle.std.proofs.lemmas.Iterator.{YieldsList-from_slice}
use Rattle.std.proofs.lemmas.Iterator.Search.{all_from_yields_List}
use Rattle.numbers.proofs.Prefix.{digits_listed}
use Rattle.numbers.proofs.are_digits.Goals as goal

pub returns : goal.returns
returns c =
    let part = c.args.part.now in
    all_from_yields_List is_ascii_digit _ _ c.all.result c.all.ensures.ran (YieldsList-from_slice part (cc)) (λ x b q k. search (rules, tests)) ∙ sym (digits_listed part)
