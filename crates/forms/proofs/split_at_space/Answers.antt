use Rattle.std.proofs.Common.{ℕ, tests, rules}
use Rattle.std.proofs.lemmas.Iterator.{YieldsList-from_slice}
use Rattle.std.proofs.lemmas.Iterator.Search.{position_from_yields_List}
use lib.Dec.{eqb}
use Rattle.answers.proofs.Parts.{rest_of}
use Rattle.forms.specs.Lines.{space}
use Rattle.forms.proofs.Places.{split}
use Rattle.forms.proofs.split_at_space.Goals as goal

pub returns-in_err-end : goal.returns-in_err-end
returns-in_err-end c =
    let found = position_from_yields_List (λ (b : ℕ). eqb b space) _ _ _ c.position.ensures.ran (YieldsList-from_slice c.args.rest.now cc) (λ x b q k. search (rules, tests)) in
    let s = split c.args.rest.now _ found in
    rw c.from_residual.ensures (rw c.in_err-end.was at s)

pub returns : goal.returns
returns c =
    let found = position_from_yields_List (λ (b : ℕ). eqb b space) _ _ _ c.position.ensures.ran (YieldsList-from_slice c.args.rest.now cc) (λ x b q k. search (rules, tests)) in
    let s = split c.args.rest.now _ found in
    let t = rw c.in_ok-end.was at s in
    rw rest_of (record { first = t.field; second = t.behind })
