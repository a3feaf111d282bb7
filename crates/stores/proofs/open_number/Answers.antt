use Rattle.std.proofs.Common.{ℕ, ap, sym, ◌∙◌, arith, get_or}
use borrow.Author.Tests.{lt-ltb, le-ltb}
use Rattle.stores.specs.Stores.{blank}
use Rattle.stores.proofs.Entries.{has_own}
use Rattle.stores.proofs.Open.{open_at, none_open}
use Rattle.stores.proofs.open_number.Goals as goal

pub returns-in_err-at-clause-number : goal.returns-in_err-at-clause-number
returns-in_err-at-clause-number c =
    rw c.from_residual.ensures (sym (none_open c.args.entries.now (omega (arith, c.in_err-at.ensures.place))))

pub returns-clause-number : goal.returns-clause-number
returns-clause-number c =
    let es = c.args.entries.now in
    let is = c.in_ok-at.ensures.place in
    ap (λ (k : ℕ). (get_or es k blank).number) is ∙ sym (open_at es (omega (arith, is, c.in_ok-at.ensures.within)))

pub returns-clause-stored : goal.returns-clause-stored
returns-clause-stored c = has_own c.args.entries.now c.in_ok-at.at c.in_ok-at.ensures.within

pub returns-in_err-at-clause-open : goal.returns-in_err-at-clause-open
returns-in_err-at-clause-open c =
    rw c.from_residual.ensures (sym (le-ltb _ _ (omega (arith, c.in_err-at.ensures.place))))

pub returns-clause-open : goal.returns-clause-open
returns-clause-open c = sym (lt-ltb _ _ (omega (arith, c.in_ok-at.ensures.place, c.in_ok-at.ensures.within)))
