use Rattle.std.proofs.Common.{◌∙◌}
use Rattle.rows.proofs.Rows.{six_stores, flag_word}
use Rattle.rows.proofs.store.Goals as goal

pub returns : goal.returns
returns c =
    six_stores c.args.table.now c.args.row c.args.next _ _ _ c.phase_of.ensures c.second_of.ensures (c.from.ensures ∙ flag_word c.args.next.closed)
