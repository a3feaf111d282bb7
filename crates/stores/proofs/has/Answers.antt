use Rattle.std.proofs.Common.{◌∙◌, eqb, rules, tests}
use Rattle.std.proofs.lemmas.Iterator.{YieldsList-from_slice}
use Rattle.std.proofs.lemmas.Iterator.Search.{any_from_yields_List}
use Rattle.stores.specs.declared.Entry.{Entry}
use Rattle.stores.proofs.Entries.{has_any}
use Rattle.stores.proofs.has.Goals as goal

pub returns : goal.returns
returns c =
    let es = c.args.entries.now in
    let test = λ (e : Entry). eqb e.number c.args.number in
    any_from_yields_List test _ _ _ c.any.ensures.ran (YieldsList-from_slice es cc) (λ x b q k. search (rules, tests))
    ∙ has_any c.args.number es
