-- What the writer of a Register comes to at each of its checks, and what the request's writer tells it. Assumes nothing.
use mathlib.Core.Path.{◌≡◌, refl, sym, ap, ◌∙◌}
use mathlib.Core.Bool.{Bool, true, false, not, ◌||◌}
use mathlib.Core.List.{List}
use Prim.Native.Nat.{ℕ, ◌≤◌, ◌<◌}
use native.Mathlib.Omega.{arith}
use lib.ListN.{length}
use lib.Dec.{ltb}
use borrow.Author.Tests.{lt-ltb, le-ltb, not-false}
use Rattle.answers.specs.Writing.{made_write, Stands}
use Rattle.std.specs.Prelude.{Result, Ok, Err}
use Rattle.answers.specs.declared.Refusal.{Refusal}
use Rattle.answers.specs.declared.Refusal.TheVariants.{NoRoom, Unfit}
use Rattle.answers.proofs.Tests.{or_left, or_right, or_neither}
use Rattle.answers.proofs.Writing.{writing_short, writing_unfit, writing_good, wrote_count, at_count, made_one}
use Rattle.packing.specs.Packing.{packed}
use Rattle.packing.proofs.Laws.{length_packed}
use Rattle.strings.specs.Text.{Request, request_sound, text_of, coding_scheme, most_octets}
use Rattle.strings.specs.Outcomes.{writer_room, writing_request}
use Rattle.strings.proofs.Text.{octets_short}
use Rattle.strings.proofs.Answered.{unsound, string_written}
use Rattle.frames.specs.Messages.{frame_room, register}
use Rattle.frames.proofs.Lengths.{register_most}
use Rattle.framers.specs.Written.{most_transaction, first_for, writing_register}

module _ (transaction number : ℕ) (f : Request) (frame : List ℕ) where
  abbrev octets : List ℕ
  octets = register (first_for transaction) number coding_scheme (packed (text_of f))

  pub register_short : length frame < frame_room → made_write (Err NoRoom) frame ≡ writing_register transaction number f frame
  unfolding writing_register
  register_short h = sym (writing_short _ _ octets frame (lt-ltb _ _ h))

  module _ (room : frame_room ≤ length frame) where
    pub register_identifier : most_transaction < transaction → made_write (Err Unfit) frame ≡ writing_register transaction number f frame
    unfolding writing_register
    register_identifier h = sym (writing_unfit _ _ octets frame (le-ltb _ _ room) (or_left _ _ (lt-ltb _ _ h)))

    pub register_unsound : request_sound f ≡ false → made_write (Err Unfit) frame ≡ writing_register transaction number f frame
    unfolding writing_register
    register_unsound h = sym (writing_unfit _ _ octets frame (le-ltb _ _ room) (or_right (ltb most_transaction transaction) (not (request_sound f)) (ap not h)))

    -- the request's writer has room, and refuses nothing but the fields
    pub register_refused :
        (r : Refusal) (out new : List ℕ) → writer_room ≤ length out → made_write (Err r) new ≡ writing_request f out
        → made_write (Err r) frame ≡ writing_register transaction number f frame
    register_refused r out new large done = go (request_sound f) refl
      where
        go : (b : Bool) → request_sound f ≡ b → made_write (Err r) frame ≡ writing_register transaction number f frame
        go true s = absurd (let e : Err r ≡ Ok (length (packed (text_of f))) = string_written f out (Err r) new done large s in cc)
        go false s =
            let e : Err r ≡ Err Unfit = (made_one (Err r) (Err Unfit) new out done (unsound f out large s)).0 in
            ap (λ (v : Result ℕ Refusal). made_write v frame) e ∙ register_unsound s

    pub register_written : transaction ≤ most_transaction → request_sound f ≡ true → (n : ℕ) (new : List ℕ) → Stands octets frame n new
        → made_write (Ok n) new ≡ writing_register transaction number f frame
    unfolding writing_register
    register_written h sound n new stands =
        wrote_count octets frame new n (sym stands.count) stands.buffer
        ∙ sym (writing_good (ltb (length frame) frame_room) (ltb most_transaction transaction || not (request_sound f)) octets frame (le-ltb _ _ room) (rw (le-ltb most_transaction transaction h, sound)))

  -- "at most 72 characters, 63 octets" make a Register of at most 85
  pub register_most_written : (n : ℕ) (new : List ℕ) → made_write (Ok n) new ≡ writing_register transaction number f frame → n ≤ 85
  unfolding writing_register
  register_most_written n new done =
      let a = at_count (ltb (length frame) frame_room) (ltb most_transaction transaction || not (request_sound f)) octets frame (Ok n) new done n refl in
      let sound = not-false (request_sound f) (or_neither (ltb most_transaction transaction) (not (request_sound f)) a.1).1 in
      let short : length (packed (text_of f)) ≤ most_octets = omega (arith, length_packed (text_of f), octets_short f sound) in
      omega (arith, a.2, register_most number coding_scheme (packed (text_of f)) (first_for transaction) short)
