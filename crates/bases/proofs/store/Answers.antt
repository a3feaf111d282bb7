use Rattle.bases.proofs.Digits.{take_digits}
use Rattle.bases.proofs.Groups.{word_digits}
use Rattle.bases.proofs.store.Goals as goal

pub returns : goal.returns
returns g c = rw (c.copy_from_slice.ensures.after, c.to_le_bytes.ensures, word_digits c.args.held, take_digits 256 8 c.args.held g.row.N c.requires.0)
