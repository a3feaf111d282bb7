-- The terminal at the node (M-111), in the paper's order: 41, 62, 63, 68 and 02 one by one; 42 and 22 are never given. Assumes nothing.
use mathlib.Core.Path.{◌≡◌, refl, ap, ◌∙◌}
use mathlib.Core.Bool.{true, false}
use mathlib.Core.Option.{none, some}
use mathlib.Core.List.{List, map}
use Prim.Native.Nat.{ℕ, ◌≤◌}
use lib.ListN.{length}
use borrow.Author.Tests.{le-ltb, ne_eqb}
use Rattle.answers.proofs.Tests.{and_right}
use Rattle.answers.proofs.Decide.{decide_each}
use Rattle.numbers.specs.Numbers.{is_number, nobody, is_nobody}
use Rattle.numbers.specs.declared.FunctionalNumber.{FunctionalNumber}
use Rattle.numbers.specs.declared.Msisdn.{Msisdn}
use Rattle.numbers.proofs.Lengths.{number_some}
use Rattle.strings.specs.Text.{Request}
use Rattle.records.specs.declared.Record.{Record}
use Rattle.records.specs.Steps as steps
use Rattle.records.specs.Steps.{same, forced_off, is_absent}
use Rattle.tables.specs.Keys.{Found}
use Rattle.std.specs.Prelude.{Some, None}
use Rattle.tables.specs.Tables.{table_sound}
use Rattle.states.specs.States.{State, state_sound, figures_right, row_for, record_for}
use Rattle.rules.specs.Answers.{Answer, Outcome, buffer_room, is_outcome, refusing}
use Rattle.rules.specs.Requests.{Stepping, replying, staying, step_checks, carried_out_at, step}
use Rattle.rules.specs.Terminal.{terminal_request, both_numbers, terminal_checks, terminal_erasure}
use Rattle.rules.specs.Calls.{Call, terminal, call}
use Rattle.rules.specs.Visits.{Visited, visit_saying, decided, visit, reply_saying}
use Rattle.promises.proofs.Along.{same_one}
use Rattle.rules.proofs.Sound.{single_own, single_absent}
use Rattle.promises.proofs.Controller.{visit_leaves}

-- "42 and 22 are never given here", whatever was lent
module _ (state : State) (reply : List ℕ) (number : FunctionalNumber) (holder : Msisdn) where
  abbrev Neither : Answer → Type 0
  Neither a = (is_outcome 42 a ≡ false) × (is_outcome 22 a ≡ false)

  pub no_rights_asked : Neither (terminal_erasure state reply number holder).answer
  unfolding terminal_erasure step
  no_rights_asked =
      decide_each (λ (o : Outcome). Neither o.answer) (refusing state reply (terminal_checks (table_sound state.table) (figures_right state) reply number holder)) _
      ((refl, refl), ((refl, refl), ((refl, refl), ((refl, refl), tt))))
      (decide_each (λ (s : Stepping). Neither (replying reply s).answer) (map (staying state) (step_checks nobody erasure (record_for state number.0))) _
      ((refl, refl), ((refl, refl), ((refl, refl), ((refl, refl), ((refl, refl), ((refl, refl), ((refl, refl), tt))))))) (done (row_for state number.0)))
    where
      erasure : Request
      erasure = terminal_request number holder

      done : (place : Found) → Neither (replying reply (carried_out_at erasure place nobody state)).answer
      done None = (refl, refl)
      done (Some i) = (refl, refl)

-- over a sound state, with room for the reply, and with a number and a holder that are numbers
module _ (list : List ℕ) (delay : ℕ) (number : FunctionalNumber) (holder : Msisdn) (reply : List ℕ) (state : State) (sound : state_sound state ≡ true)
    (room : buffer_room ≤ length reply) (numbers : both_numbers number holder ≡ true) where
  abbrev asked : Call
  asked = terminal number holder reply

  -- 41: "functional number not in the table"
  pub terminal_41 : record_for state number.0 ≡ none → call list delay asked state ≡ (reply_saying 41 reply, state)
  terminal_41 none-there = single_absent list delay asked state sound number.0 refl none-there ∙ rw (le-ltb (length reply) buffer_room room, numbers) refl

  module _ (r : Record) (known : record_for state number.0 ≡ some r) where
    stays : (n : ℕ) → visit list delay asked r ≡ visit_saying n reply r → call list delay asked state ≡ (reply_saying n reply, state)
    stays n v = visit_leaves list delay asked state number.0 r (visit_saying n reply r) sound refl known v refl

    held : same r.holder holder ≡ true → is_nobody r.holder ≡ false
    held named =
        rw (same_one r.holder holder named)
        (ne_eqb holder.0 0 (number_some holder.0 (and_right (is_number number.0) (is_number holder.0) numbers)))

    -- 62: "no holder"
    pub terminal_62 : is_nobody r.holder ≡ true → call list delay asked state ≡ (reply_saying 62 reply, state)
    unfolding decided steps.forced
    terminal_62 free = stays 62 (rw (le-ltb (length reply) buffer_room room, numbers, free) refl)

    -- 63: "holder is not the MSISDN named"
    pub terminal_63 : is_nobody r.holder ≡ false → same r.holder holder ≡ false → call list delay asked state ≡ (reply_saying 63 reply, state)
    unfolding decided steps.forced
    terminal_63 taken other = stays 63 (rw (le-ltb (length reply) buffer_room room, numbers, taken, other) refl)

    -- 68 wherever a notice is pending: "the holder always differs from nobody"
    pub terminal_68 : same r.holder holder ≡ true → is_absent r.notice ≡ false → call list delay asked state ≡ (reply_saying 68 reply, state)
    unfolding decided steps.forced
    terminal_68 named pending = stays 68 (rw (le-ltb (length reply) buffer_room room, numbers, held named, named, pending) refl)

    -- otherwise 02: "nobody holds the number, and a notice waits, with the holder as addressee and supervisor 0"
    pub terminal_02 : same r.holder holder ≡ true → is_absent r.notice ≡ true
        → ((call list delay asked state).0 ≡ reply_saying 2 reply) × (record_for (call list delay asked state).1 number.0 ≡ some (forced_off nobody r))
    unfolding decided steps.forced
    terminal_02 named absent =
        let v : visit list delay asked r ≡ visit_saying 2 reply (forced_off nobody r) = rw (le-ltb (length reply) buffer_room room, numbers, held named, named, absent) refl in
        let d = single_own list delay asked state sound number.0 r refl known in
        (d.0 ∙ ap (λ (x : Visited). x.reply) v, d.1 ∙ ap (λ (x : Visited). some x.next) v)
