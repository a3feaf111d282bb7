-- M-110: a table of six-word rows with numbers in it, lent whole, is refused 2 by every call of the rules that gets past what is tested before the table. Assumes nothing.
use mathlib.Core.Path.{◌≡◌, refl}
use mathlib.Core.Bool.{Bool, true}
use mathlib.Core.Option.{some}
use mathlib.Core.List.{List, []}
use Prim.Native.Nat.{ℕ, ◌*◌, ◌≤◌, ◌<◌}
use lib.ListN.{length}
use borrow.Author.Tests.{le-ltb}
use Rattle.numbers.specs.declared.FunctionalNumber.{FunctionalNumber}
use Rattle.numbers.specs.declared.Msisdn.{Msisdn}
use Rattle.frames.specs.Messages.{Register, frame_room, register_of}
use Rattle.rows.specs.Old.{old_row_words, OldTable}
use Rattle.tables.specs.Tables.{list_sound}
use Rattle.tables.proofs.Old.{old_unsound}
use Rattle.states.specs.States.{State, beside}
use Rattle.rules.specs.Answers.{refusal, made, buffer_room}
use Rattle.rules.specs.Crews.{requesting}
use Rattle.rules.specs.Frames.{framed_request}
use Rattle.rules.specs.Notices.{sending_notice, taking_result, finding}
use Rattle.rules.specs.Terminal.{terminal_erasure}
use Rattle.rules.specs.Routing.{routing}

module _ (n : ℕ) (words figures : List ℕ) (numbers : 0 < n) (old : OldTable n words) (whole : length words ≡ old_row_words * n) where
  abbrev old_state : State
  old_state = beside words figures

  pub old_request : (list reply : List ℕ) (requester : Msisdn) (scheme : ℕ) (string : List ℕ) → buffer_room ≤ length reply → list_sound list ≡ true
      → requesting old_state list reply requester scheme string ≡ made (refusal 2) old_state reply
  unfolding requesting
  old_request list reply requester scheme string room sound = rw (le-ltb (length reply) buffer_room room, sound, old_unsound n words numbers old whole) refl

  pub old_framed : (list frame : List ℕ) (requester : Msisdn) (message : List ℕ) (m : Register) → frame_room ≤ length frame → register_of message ≡ some m → list_sound list ≡ true
      → framed_request old_state list frame requester message ≡ made (refusal 2) old_state frame
  unfolding framed_request
  old_framed list frame requester message m room reads sound = rw (le-ltb (length frame) frame_room room, reads, sound, old_unsound n words numbers old whole) refl

  pub old_sending : (buffer : List ℕ) (number : FunctionalNumber) (delay clock : ℕ) → buffer_room ≤ length buffer
      → sending_notice old_state buffer number delay clock ≡ made (refusal 2) old_state buffer
  unfolding sending_notice
  old_sending buffer number delay clock room = rw (le-ltb (length buffer) buffer_room room, old_unsound n words numbers old whole) refl

  pub old_result : (number : FunctionalNumber) (kind clock : ℕ) → taking_result old_state number kind clock ≡ made (refusal 2) old_state []
  unfolding taking_result
  old_result number kind clock = rw (old_unsound n words numbers old whole) refl

  pub old_terminal : (reply : List ℕ) (number : FunctionalNumber) (holder : Msisdn) → buffer_room ≤ length reply
      → terminal_erasure old_state reply number holder ≡ made (refusal 2) old_state reply
  unfolding terminal_erasure
  old_terminal reply number holder room = rw (le-ltb (length reply) buffer_room room, old_unsound n words numbers old whole) refl

  pub old_routing : (home : List ℕ) (coded : Bool) (asked : List ℕ) → routing words home coded asked ≡ refusal 2
  unfolding routing
  old_routing home coded asked = rw (old_unsound n words numbers old whole) refl

  pub old_finding : (delay clock : ℕ) → finding words delay clock ≡ refusal 2
  unfolding finding
  old_finding delay clock = rw (old_unsound n words numbers old whole) refl
