use Rattle.packing.proofs.Outcomes.{pack_good, pack_count}
use Rattle.visits.proofs.put.Goals as goal

pub unwrap-requires : goal.unwrap-requires
unwrap-requires c = rw (pack_good _ _ _ _ c.pack.ensures c.requires.1 c.requires.0).0

pub returns : goal.returns
returns c =
    let n = pack_count _ _ _ _ c.pack.ensures _ c.unwrap.ensures in
    (n.count, rw (← n.count) n.buffer)
