-- What an accepted image leaves: new lists of calls start from it, with all promises. Assumes nothing.
use mathlib.Core.Path.{◌≡◌, sym, ap}
use mathlib.Core.Bool.{true}
use mathlib.Core.List.{List}
use Prim.Native.Nat.{ℕ}
use Rattle.tables.specs.Tables.{list_sound}
use Rattle.states.specs.States.{State, state_sound}
use Rattle.image.specs.Images.{counts, reading_image}
use Rattle.image.proofs.RoundTrip.{restored_state, restored_sound}
use Rattle.promises.specs.Accounts.{pending_in}
use Rattle.rules.proofs.Demand as demands
use Rattle.promises.proofs.Totals as totals
use Rattle.restored.specs.Restored.{Starts, FromImage}

-- from a sound list and a sound table with right figures
pub starts : (list : List ℕ) (state : State) → list_sound list ≡ true → state_sound state ≡ true → Starts list state
starts list state sound_list sound_state = record {
  sound_list = sound_list;
  sound_state = sound_state;
  demand3 = λ delay. demands.demand3 list delay state sound_state;
  accounted = λ delay calls. totals.accounted list delay calls state sound_state;
}

pub from_image : (image t l f : List ℕ) (n m : ℕ) → (reading_image image t l f).answer ≡ counts n m → FromImage image (reading_image image t l f) n m
from_image image t l f n m says =
    let left = restored_state image t l f n m says in
    let sound = restored_sound image t l f n m says in
    record {
      state = left.0;
      list = left.1;
      starts = starts _ _ sound.1 sound.0;
      balanced = λ delay calls. rw (ap pending_in (sym left.0)) (totals.balanced _ delay calls _);
    }
