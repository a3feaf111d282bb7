use Rattle.std.proofs.Common.{sym, ◌∙◌, ap}
use Rattle.records.specs.Holder.{said_holder}
use Rattle.visits.proofs.Placed.{holder_found}
use Rattle.visits.proofs.answer_holder.Goals as goal

pub tell-requires : goal.tell-requires
tell-requires c =
    (holder_found c.args.held _ c.requires.0 (sym c.interrogate.ensures ∙ ap said_holder c.in-Ok.is), c.requires.1)
