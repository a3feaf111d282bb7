use Rattle.std.proofs.Common.{◌≡◌, ℕ, ◌≤◌, cond, ltb, length, ◌∙◌, ap, arith, rules, tests}
use Rattle.std.specs.Prelude.{Some, None}
use Rattle.std.proofs.lemmas.Iterator.{YieldsList-from_slice}
use Rattle.std.proofs.lemmas.Iterator.Search.{position_from_yields_List}
use Rattle.stores.specs.Stores.{is_to_ask}
use Rattle.stores.specs.Places.{first_to_ask, said_place}
use Rattle.stores.proofs.Entries.{first_position, first_within}
use Rattle.stores.proofs.first_to_ask.Goals as goal

said_is : (n k : ℕ) → k ≤ n → said_place n (cond (ltb k n) (Some k) None) ≡ k
said_is n k h = grind (arith, tests)

pub returns-clause-place : goal.returns-clause-place
returns-clause-place c =
    let es = c.args.entries.now in
    let found = position_from_yields_List is_to_ask _ _ _ c.position.ensures.ran (YieldsList-from_slice es cc) (λ x b q k. search (rules, tests)) in
    ap (said_place (length es)) (rw (← first_position es) at found) ∙ said_is (length es) (first_to_ask es) (first_within es)
