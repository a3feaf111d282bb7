-- Document 02, M-105: a number's own subscriber, listed with flag 1, erases it plainly whoever holds it; where nobody does, she is answered 62. Assumes nothing.
use mathlib.Core.Path.{◌≡◌, refl, ap, ◌∙◌}
use mathlib.Core.Bool.{true, false}
use mathlib.Core.Option.{none, some}
use mathlib.Core.List.{List}
use Prim.Native.Nat.{ℕ}
use Rattle.answers.proofs.Tests.{or_right}
use Rattle.numbers.specs.Numbers.{nobody, is_nobody}
use Rattle.numbers.specs.declared.Msisdn.{Msisdn}
use Rattle.strings.specs.declared.Operation.TheVariants.{Erase}
use Rattle.strings.specs.declared.Erasing.TheVariants.{Empty}
use Rattle.strings.specs.Text.{Request}
use Rattle.records.specs.declared.Record.{Record}
use Rattle.records.specs.Steps as steps
use Rattle.records.specs.Steps.{same, is_own, held_by}
use Rattle.tables.specs.Tables.{flags_of}
use Rattle.states.specs.States.{State, state_sound, record_for}
use Rattle.rules.specs.Requests.{has_follow_me}
use Rattle.rules.specs.Calls.{Call, request, call, codes_of}
use Rattle.rules.specs.Visits.{Visited, visit_saying, reply_saying, decided, visit}
use Rattle.promises.specs.Users.{WellFormed}
use Rattle.rules.proofs.Single.{call_single}
use Rattle.rules.proofs.Sound.{single_own}
use Rattle.promises.proofs.Controller.{form_names, visit_leaves}

-- over a sound state in which r is the number's record, s with flag 1 and the number's digits asks to erase it plainly, not as a crew
module _ (list : List ℕ) (delay : ℕ) (state : State) (s : Msisdn) (scheme : ℕ) (string reply : List ℕ) (f : Request) (r : Record)
    (sound : state_sound state ≡ true) (known : record_for state f.number.0 ≡ some r) (form : WellFormed list s scheme string reply f)
    (erases : f.operation ≡ Erase) (plain : f.erasing ≡ Empty) (alone : codes_of (request s scheme string reply) ≡ none)
    (own : is_own f.number s ≡ true) (flag : has_follow_me (flags_of list s.0) ≡ true) where
  abbrev asked : Call
  asked = request s scheme string reply

  visit_erases : is_nobody r.holder ≡ false → visit list delay asked r ≡ visit_saying 2 reply (held_by nobody r)
  unfolding decided steps.erased
  visit_erases held = rw (form.reads, flag, erases, plain, held, or_right (same r.holder s) (is_own f.number s) own) refl

  visit_free : is_nobody r.holder ≡ true → visit list delay asked r ≡ visit_saying 62 reply r
  unfolding decided steps.erased
  visit_free free = rw (form.reads, flag, erases, plain, free) refl

  -- 02 whoever holds it; nobody holds it then, and its notice is as it was
  pub own_erases : is_nobody r.holder ≡ false
      → ((call list delay asked state).0 ≡ reply_saying 2 reply) × (record_for (call list delay asked state).1 f.number.0 ≡ some (held_by nobody r))
  own_erases held =
      let d = single_own list delay asked state sound f.number.0 r (form_names list s scheme string reply f form) known in
      let one = call_single list delay asked state alone in (
        ap (λ x. x.0) one ∙ d.0 ∙ ap (λ (x : Visited). x.reply) (visit_erases held),
        ap (λ x. record_for x.1 f.number.0) one ∙ d.1 ∙ ap (λ (x : Visited). some x.next) (visit_erases held),
      )

  -- 62 where nobody does, and table and figures are as they were
  pub own_free : is_nobody r.holder ≡ true → call list delay asked state ≡ (reply_saying 62 reply, state)
  own_free free =
      call_single list delay asked state alone
      ∙ visit_leaves list delay asked state f.number.0 r _ sound (form_names list s scheme string reply f form) known (visit_free free) refl
