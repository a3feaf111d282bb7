use Rattle.std.proofs.Common.{◌≡◌, arith, rules, length}
use Rattle.stores.specs.Stores.{most_stored}
use Rattle.stores.proofs.Begun.{closing}
use Rattle.stores.proofs.Laid.{unmapped}
use Rattle.stores.proofs.closed.Goals as goal

pub returns : goal.returns
returns c =
    let full : length c.args.entries ≡ most_stored = search (rules, unmapped) in
    rw (c.copy_within.ensures.after, full) (closing c.args.entries c.args.at full (omega arith))
