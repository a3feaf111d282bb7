-- `lines::report` meets its contract. Assumes nothing.
use Rattle.lines.proofs.Printing.{result_replies}
use Rattle.lines.proofs.Calls.{answered_by}
use borrow.Author.Rules.{rules}
use Rattle.lines.proofs.report.Statement.{statement}
use Rattle.lines.proofs.report.Tie as tie

result-answer-requires : tie.Need-result-answer-requires
result-answer-requires c κs = search rules

put_result_answer-requires : tie.Need-put_result_answer-requires
put_result_answer-requires c κs = search rules

shape_of-table : tie.Need-shape_of-table
shape_of-table c = search rules

shape_of-figures : tie.Need-shape_of-figures
shape_of-figures c = search rules

shape_of-out : tie.Need-shape_of-out
shape_of-out c = search rules

returns : tie.Need-returns
returns c = answered_by _ _ _ _ c.result-answer.ensures (result_replies _ _ _ _).0 c.put_result_answer.ensures

pub report_spec : {M : Type 1} → statement M
report_spec =
    tie.close
    (tie.spec
    result-answer-requires
    put_result_answer-requires
    shape_of-table
    shape_of-figures
    shape_of-out
    returns)
