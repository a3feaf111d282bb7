use Rattle.std.proofs.Common.{sym}
use Rattle.lines.proofs.Running.{count_within}
use lib.Seq.{length-take-le}
use Rattle.ffn.proofs.main.Goals as goal

pub slice_bounds-out-end : goal.slice_bounds-out-end
slice_bounds-out-end c = count_within _ _ _ _ _ _ _ _ c.run-printed.ensures

pub slice_bounds-write_output-end-2 : goal.slice_bounds-write_output-end-2
slice_bounds-write_output-end-2 c = sym (length-take-le _ _ (count_within _ _ _ _ _ _ _ _ c.run-printed.ensures))
