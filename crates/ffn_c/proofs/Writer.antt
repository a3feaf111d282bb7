-- A request for nobody's number is refused as an operation that is none. Assumes nothing.
use mathlib.Core.Path.{◌≡◌, refl}
use mathlib.Core.Bool.{true}
use mathlib.Core.List.{List, []}
use Prim.Native.Nat.{ℕ}
use lib.ListN.{length}
use lib.Dec.{ltb}
use Rattle.answers.specs.Writing.{writing}
use Rattle.answers.proofs.Tests.{or_right}
use Rattle.numbers.specs.Numbers.{is_number}
use Rattle.strings.specs.declared.Erasing.{Erasing}
use Rattle.strings.specs.declared.Operation.TheVariants.{Register}
use Rattle.strings.specs.Text.{request_from, request_sound}
use Rattle.strings.specs.Outcomes.{writer_room, writing_request}
use Rattle.frames.specs.Messages.{frame_room}
use Rattle.framers.specs.Written.{most_transaction, writing_register}

pub nobody_refused :
    (erasing : Erasing) (additional out : List ℕ)
    → writing_request (record { operation = Register; number = record { 0 = 0 }; erasing = erasing; additional = additional }) out
    ≡ writing (ltb (length out) writer_room) true [] out
unfolding writing_request request_sound is_number writing
nobody_refused erasing additional out = refl

pub nobody_unframed :
    (transaction invoke : ℕ) (erasing : Erasing) (additional frame : List ℕ)
    → writing_register transaction invoke (request_from Register (record { 0 = 0 }) erasing additional) frame
    ≡ writing (ltb (length frame) frame_room) true [] frame
unfolding writing_register request_sound is_number writing
nobody_unframed transaction invoke erasing additional frame = rw (or_right (ltb most_transaction transaction) true refl)
