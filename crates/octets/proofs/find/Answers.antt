use Rattle.std.proofs.Common.{arith, ◌≡◌, ◌-◌, ◌≤◌, take, drop, ℕ}
use lib.ListN.{length-take}
use Rattle.octets.specs.Octets.{index_of, slice}
use Rattle.octets.proofs.Places.{index_counted, index_within}
use Rattle.octets.proofs.find.Goals as goal

counted : (c : goal.After-stand_before) → (c.stand_before.result ≡ index_of c.args.octet (slice c.args.start c.args.end c.args.text.now)) × (c.stand_before.result ≤ c.args.end - c.args.start)
unfolding slice
counted c =
    let s = take (c.args.end - c.args.start) (drop c.args.start c.args.text.now) in
    let e = index_counted c.args.octet s in
    (omega (arith, c.stand_before.ensures), omega (arith, c.stand_before.ensures, index_within c.args.octet s, length-take {A = ℕ}))

pub overflow_add-result : goal.overflow_add-result
overflow_add-result c = omega (arith, counted c)

pub returns : goal.returns
returns c = record { place = omega (arith, counted c); bound = omega (arith, counted c) }
