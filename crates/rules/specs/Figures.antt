-- Document 02, M-103: what is proved of the figures along calls. Assumes nothing.
use Rattle.std.specs.Prelude.{◌≡◌, Bool, true, false, ◌||◌, List, ℕ}
use Rattle.frames.specs.Messages.{unread_message}
use Rattle.tables.specs.Figures.{recount}
use Rattle.states.specs.States.{State}
use Rattle.rules.specs.Answers.{Answer, is_refused_with}
use Rattle.rules.specs.Run.{end, log}
use Rattle.rules.specs.Calls.{Call, request, framed, sending, result, terminal, routes, call}
use Rattle.rules.specs.Entries.{never}

-- refused before table and figures are known to be right
abbrev pub is_early : Answer → Bool
is_early a = is_refused_with 1 a || is_refused_with unread_message a || is_refused_with 8 a || is_refused_with 2 a || is_refused_with 10 a

-- M-112: a routing is lent no figures, and so does not look at them
abbrev pub is_routing : Call → Bool
is_routing (request requester scheme string reply) = false
is_routing (framed requester message frame) = false
is_routing (sending now number buffer) = false
is_routing (result now number kind) = false
is_routing (terminal number holder reply) = false
is_routing (routes home coded asked) = true

-- the figures equal a recount of the table beside them
abbrev pub Right : State → Type 0
Right state = state.figures ≡ recount state.table

module _ (list : List ℕ) (delay : ℕ) where
  -- "Every request, sending and result keeps them equal to a recount"
  pub record KeepsCount : Type 0 where
    -- after every call but a routing that was not refused 1, 11, 8, 2 or 10, whatever the state
    pub one_call : (c : Call) (state : State) → is_routing c ≡ false → is_early (call list delay c state).0.answer ≡ false → Right (call list delay c state).1
    -- from right figures, after every list of calls; where the table is unsound, nothing changes
    pub every_call : (cs : List Call) (state : State) → Right state → Right (end (call list delay) cs state)
    -- and 10 is never answered along it
    pub never_ten :
        (cs : List Call) (state : State) → Right state
        → never (λ entry. is_refused_with 10 entry.1.answer) (log (call list delay) cs state) ≡ true
