use Rattle.std.proofs.Common.{ap, ◌∙◌}
use Rattle.ffn_c.specs.Calls.{of_writer}
use Rattle.ffn_c.proofs.Writer.{nobody_refused}
use Rattle.ffn_c.proofs.ffn_write_request.Goals as goal
use Rattle.ffn_c.proofs.ffn_write_request.Goals.{in-Some, in-None}

pub returns : goal.returns
returns c =
    elim c.match-operation_of.branch [
      | in-Some w ↦
          let e = rw w.operation-is at c.write_request.ensures in
          rw (c.of_written.ensures, ← c.operation_of.ensures, w.in-Some.is, ← c.erasing_of-erasing.ensures) (ap of_writer e)
      | in-None w ↦
          let e = rw w.operation-is at c.write_request.ensures in
          rw (c.of_written.ensures, ← c.operation_of.ensures, w.in-None.is) (ap of_writer (e ∙ nobody_refused _ _ _))
    ]
