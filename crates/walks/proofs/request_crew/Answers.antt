use Rattle.walks.proofs.Replies.{takes_tally, crew_small}
use Rattle.walks.proofs.request_crew.Goals as goal

pub answer-requires : goal.answer-requires
answer-requires c =
    let few = c.walk-tally.ensures.answer.0 in
    let stands = c.walk-tally.ensures.answer.1 in (
      record { few = few; successes = stands.successes.room; failures = stands.failures.room },
      takes_tally _ c.walk-tally.result _ _ (rw c.crew_success.ensures (crew_small c.args.operation)) few stands,
      c.requires.buffer_room_in_bounds,
    )
