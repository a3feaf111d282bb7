-- `ffn_read_image` meets its contract: the numbers of what the image's reader ensures. Assumes nothing.
use mathlib.Core.Path.{ap}
use borrow.Author.Rules.{rules}
use Rattle.ffn_c.specs.Calls.{of_reading}
use Rattle.ffn_c.proofs.ffn_read_image.Statement.{statement}
use Rattle.ffn_c.proofs.ffn_read_image.Tie as tie

read_image-requires : tie.Need-read_image-requires
read_image-requires c κs = search rules

of_image_read-requires : tie.Need-of_image_read-requires
of_image_read-requires c κs = search rules

shape_of-table : tie.Need-shape_of-table
shape_of-table c = search rules

shape_of-list : tie.Need-shape_of-list
shape_of-list c = search rules

shape_of-figures : tie.Need-shape_of-figures
shape_of-figures c = search rules

returns : tie.Need-returns
returns c = rw c.of_image_read.ensures (ap of_reading c.read_image.ensures)

pub ffn_read_image_spec : {M : Type 1} → statement M
ffn_read_image_spec = tie.close (tie.spec read_image-requires of_image_read-requires shape_of-table shape_of-list shape_of-figures returns)
