-- Images from before M-110, whose numbers had six words each. Assumes nothing.
use Rattle.std.specs.Prelude.{◌≡◌, List, ℕ, ◌+◌, ◌*◌, ◌≤◌, length}
use Rattle.rows.specs.Old.{old_row_words}
use Rattle.tables.specs.Tables.{most_numbers, most_subscribers}
use Rattle.image.specs.Images.{word_octets, trailer_octets, trailer_start, table_rows, list_rows, distance, list_words}

-- the octets that a node wrote then, by their trailer: rows within their limits that fill the distance, six words a number
pub record OldImage (image : List ℕ) : Type 0 where
  pub long : trailer_octets ≤ length image
  pub start : distance image ≡ trailer_start image
  pub numbers : table_rows image ≤ most_numbers
  pub subscribers : list_rows image ≤ most_subscribers
  pub fills : word_octets * (old_row_words * table_rows image + list_words image) ≡ distance image
