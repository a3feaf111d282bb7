-- What writing an image comes to in each case. Assumes nothing.
use mathlib.Core.Path.{◌≡◌, sym}
use mathlib.Core.Bool.{true, false}
use mathlib.Core.List.{List}
use Prim.Native.Nat.{ℕ, ◌+◌, ◌*◌, ◌^◌, ◌≤◌, ◌<◌}
use native.Mathlib.Omega.{arith}
use lib.ListN.{length}
use borrow.Author.Tests.{lt-ltb, le-ltb}
use Rattle.std.specs.Prelude.{Ok, Err}
use Rattle.answers.specs.Numbers.{refusal_number}
use Rattle.answers.specs.Writing.{refused, wrote, Stands, made_write}
use Rattle.answers.specs.declared.Refusal.{Refusal}
use Rattle.answers.specs.declared.Refusal.TheVariants.{UnsoundList, NoRoomForImage}
use Rattle.tables.specs.Tables.{table_sound, list_sound}
use Rattle.tables.proofs.Sound.{table_few, list_few}
use Rattle.states.specs.States.{State, state_sound, refusal_of}
use Rattle.states.proofs.States.{state_table, state_right, state_refuses, refusal_some}
use Rattle.image.specs.Images.{word_octets, trailer_octets, image_of, writing_image}

-- the image of sound contents has far fewer octets than a word can count
pub size_fits : (table list : List ℕ) → table_sound table ≡ true → list_sound list ≡ true → word_octets * (length table + length list) + trailer_octets < 2 ^ 64
size_fits table list t l = omega (arith, table_few table t, list_few list l)

-- ---- the checks

module _ (s : State) (list out : List ℕ) where
  pub refuses_list : list_sound list ≡ false → made_write (Err UnsoundList) out ≡ writing_image s list out
  unfolding writing_image
  refuses_list l = rw l

  pub refuses_state : list_sound list ≡ true → (r : Refusal) → refusal_number r ≡ refusal_of s → made_write (Err r) out ≡ writing_image s list out
  unfolding writing_image
  refuses_state l r said = rw l (state_refuses s (refusal_number r) said (λ k. refused k out) _ (refusal_some r))

  module _ (l : list_sound list ≡ true) (sound : state_sound s ≡ true) where
    pub refuses_room : length out < length (image_of s.table list) → made_write (Err NoRoomForImage) out ≡ writing_image s list out
    unfolding writing_image
    refuses_room h = rw (l, state_table s sound, state_right s sound, lt-ltb (length out) (length (image_of s.table list)) h)

    pub writes : length (image_of s.table list) ≤ length out → writing_image s list out ≡ wrote (image_of s.table list) out
    unfolding writing_image
    writes h = rw (l, state_table s sound, state_right s sound, le-ltb (length out) (length (image_of s.table list)) h)

    -- as the code has it
    pub writes_image :
        (n : ℕ) (new : List ℕ) → length (image_of s.table list) ≤ length out → Stands (image_of s.table list) out n new
        → made_write (Ok n) new ≡ writing_image s list out
    writes_image n new h p = rw (p.buffer, p.count) (sym (writes h))
