-- M-110: "an old one with numbers in it is refused 34", whatever room is lent; and an old table is not written. Assumes nothing.
use mathlib.Core.Path.{◌≡◌, refl, sym}
use mathlib.Core.Bool.{true}
use mathlib.Core.List.{List}
use Prim.Native.Nat.{ℕ, ◌*◌, ◌<◌}
use native.Mathlib.Omega.{arith}
use lib.ListN.{length}
use borrow.Author.Tests.{le-ltb}
use Rattle.answers.specs.Writing.{refused}
use Rattle.rows.specs.Old.{old_row_words, OldTable}
use Rattle.tables.specs.Tables.{most_numbers, most_subscribers, list_sound}
use Rattle.tables.proofs.Old.{old_unsound}
use Rattle.states.specs.States.{beside}
use Rattle.image.specs.Images.{table_rows, list_rows, leaving, reading_image, writing_image}
use Rattle.image.specs.Images.SaidRead.{refusal}
use Rattle.image.specs.Old.{OldImage}
use Rattle.image.proofs.Reading.{not_filled, reading_refused}

pub old_reading : (image table list figures : List ℕ) → OldImage image → 0 < table_rows image → reading_image image table list figures ≡ leaving (refusal 34) table list figures
old_reading image table list figures old some =
    sym (reading_refused image table list figures 34
    (not_filled image old.long old.start (rw (le-ltb most_numbers (table_rows image) old.numbers, le-ltb most_subscribers (list_rows image) old.subscribers) refl)
    (λ e. let f = old.fills in omega arith)))

pub old_writing : (n : ℕ) (words figures list out : List ℕ) → 0 < n → OldTable n words → length words ≡ old_row_words * n → list_sound list ≡ true
    → writing_image (beside words figures) list out ≡ refused 2 out
unfolding writing_image
old_writing n words figures list out some old long sound = rw (sound, old_unsound n words some old long) refl
