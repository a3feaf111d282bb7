use Rattle.std.proofs.Common.{rules}
use mathlib.Core.Path.{refl}
use Rattle.std.proofs.lemmas.List.{length-take-le}
use Rattle.texts.proofs.words.Words.is_full.Goals as goal

pub returns : goal.returns
returns g c = rw (length-take-le c.args.self.now.used c.args.self.now.memory (search rules)) refl
