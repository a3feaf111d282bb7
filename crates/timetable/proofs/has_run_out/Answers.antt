-- Assumes nothing.
use Rattle.std.proofs.Common.{◌≡◌, refl, ◌∙◌}
use Rattle.records.specs.declared.Notice.{Notice}
use Rattle.records.specs.declared.Notice.TheVariants.{Absent, Waiting, InFlight}
use Rattle.records.specs.Steps.{is_absent}
use Rattle.records.specs.contracts.NoticePartialEq.TheImpl.{ghosts}
use Rattle.timetable.proofs.Using.{run_out}
use Rattle.timetable.proofs.has_run_out.Goals as goal

-- the derived comparison with no notice
absent : (n : Notice) → ghosts.eq n Absent ≡ is_absent n
absent Absent = refl
absent (Waiting k s) = refl
absent (InFlight k) = refl

pub returns : goal.returns
returns c =
    let e : c.eq.result ≡ is_absent c.args.it.notice = c.eq.ensures ∙ absent c.args.it.notice in
    rw e (run_out c.args.it)
