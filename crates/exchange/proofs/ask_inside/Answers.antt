-- `exchange::ask_inside` meets its contract: the request inside, and its answer in the frame. Assumes nothing.
use Rattle.std.proofs.Common.{arith}
use Rattle.exchange.proofs.InFrame.{reply_fits}
use Rattle.exchange.proofs.ask_inside.Goals as goal

pub put_answer-requires : goal.put_answer-requires
put_answer-requires c = (reply_fits _ _ _ c.args.requester _ _ _ _ _ c.ask_string-answer.ensures.answer (omega arith), c.requires.2)
