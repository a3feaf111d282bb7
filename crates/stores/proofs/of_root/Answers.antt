use Rattle.std.proofs.Common.{◌∙◌, rules, tests}
use Rattle.std.proofs.lemmas.Iterator.{YieldsList-from_slice}
use Rattle.std.proofs.lemmas.Iterator.Search.{all_from_yields_List}
use Rattle.stores.specs.Stores.{is_of}
use Rattle.stores.proofs.Entries.{every_all}
use Rattle.stores.proofs.of_root.Goals as goal

pub returns : goal.returns
returns c =
    let es = c.args.entries.now in
    all_from_yields_List (is_of c.args.root) _ _ _ c.all.ensures.ran (YieldsList-from_slice es cc) (λ x b q k. search (rules, tests))
    ∙ every_all (is_of c.args.root) es
