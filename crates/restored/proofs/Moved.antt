-- A node moved by an image: after any calls, table, list and figures are written and read elsewhere, and are there what they were. Assumes nothing.
use mathlib.Core.Path.{◌≡◌, refl, sym, ap, ◌∙◌}
use mathlib.Core.Bool.{true}
use mathlib.Core.List.{List}
use Prim.Native.Nat.{ℕ, ◌≤◌}
use lib.ListN.{length, take}
use lib.Seq.{take_at}
use Rattle.answers.specs.Writing.{Said, WriteOutcome}
use Rattle.tables.specs.Tables.{rows_in, subscribers_in, list_sound}
use Rattle.tables.specs.Figures.{figure_count}
use Rattle.states.specs.States.{State, state_sound}
use Rattle.states.proofs.States.{state_table, same_state, counted_sound}
use Rattle.image.specs.Images.{image_of, counts, SaidRead, RestoreOutcome, writing_image, reading_image}
use Rattle.image.proofs.Writing.{writes}
use Rattle.image.proofs.RoundTrip.{reading_written, restored_state, table_back, list_back}
use Rattle.rules.specs.Run.{end}
use Rattle.rules.specs.Calls.{Call, call}
use Rattle.rules.proofs.Calls.{calls_keep}
use Rattle.restored.specs.Restored.{state_left, list_left}

module _
    (list : List ℕ) (delay : ℕ) (calls : List Call) (state : State) (sound_list : list_sound list ≡ true) (sound_state : state_sound state ≡ true)
    (out t l f : List ℕ)
  where
    -- what the calls left, the image of it, the writing of that, and the reading elsewhere
    abbrev after : State
    after = end (call list delay) calls state

    abbrev image : List ℕ
    image = image_of after.table list

    abbrev w : WriteOutcome
    w = writing_image after list out

    abbrev o : RestoreOutcome SaidRead
    o = reading_image (take (length image) w.buffer) t l f

    sound : state_sound after ≡ true
    sound = (calls_keep list delay calls state sound_state).sound

    module _ (room : length image ≤ length out) (a : length after.table ≤ length t) (b : length list ≤ length l) (c : figure_count ≤ length f) where
      -- where there is room it is written
      pub moved_written : w.answer ≡ Said.count (length image)
      moved_written = ap (λ (x : WriteOutcome). x.answer) (writes after list out sound_list sound room)

      -- and accepted
      pub moved_read : o.answer ≡ counts (rows_in after.table) (subscribers_in list)
      moved_read = ap (λ (x : RestoreOutcome SaidRead). x.answer) (reading_written after list out (length image) moved_written t l f a b c)

      -- and leaves the same table, figures and list
      pub moved_same : (state_left o (rows_in after.table) ≡ after) × (list_left o (subscribers_in list) ≡ list)
      moved_same =
          let left = restored_state (take (length image) w.buffer) t l f (rows_in after.table) (subscribers_in list) moved_read in
          let here : take (length image) w.buffer ≡ image = rw (writes after list out sound_list sound room) (take_at image _ (length image) refl) in
          let table = table_back after.table list (state_table after sound) sound_list in (
            left.0 ∙ rw here (same_state _ after (counted_sound _ (rw table (state_table after sound))) sound table),
            left.1 ∙ rw here (list_back after.table list (state_table after sound) sound_list),
          )
