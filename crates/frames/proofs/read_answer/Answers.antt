-- `frames::read_answer` meets its contract: the three tags differ, so one reader at most reads. Assumes nothing.
use mathlib.Core.Path.{◌∙◌}
use Rattle.frames.proofs.Messages.{answer_error, answer_reject, answer_result}
use Rattle.frames.proofs.read_answer.Goals as goal

pub returns-in-Some : goal.returns-in-Some
returns-in-Some c = answer_error _ _ _ c.in-Some.ensures

pub returns-in-Some-read_pair : goal.returns-in-Some-read_pair
returns-in-Some-read_pair c = answer_reject _ _ _ c.in-Some-read_pair.ensures

pub returns : goal.returns
returns c = c.read_result.ensures ∙ answer_result _ c.in_default.ensures c.in_default-read_pair.ensures
