-- An image by its parts, and how long it is. Assumes nothing.
use mathlib.Core.Path.{◌≡◌, refl, ap, ◌∙◌}
use mathlib.Core.List.{List, ◌++◌}
use Prim.Native.Nat.{ℕ, ◌+◌, ◌*◌}
use native.Mathlib.Omega.{arith}
use lib.ListN.{length, length-append}
use Rattle.image.specs.Images.{word_octets, octets_of, trailer_words, trailer_octets, trailer_of, image_of}
use Rattle.image.proofs.Words.{length_octets_lem, octets_append}

pub length_trailer : (table list : List ℕ) → length (trailer_of table list) ≡ trailer_words
unfolding trailer_of
length_trailer table list = refl

-- the rows of the table, those of the list, and the trailer
pub image_parts : (table list : List ℕ) → image_of table list ≡ octets_of table ++ octets_of list ++ octets_of (trailer_of table list)
unfolding image_of
image_parts table list = octets_append (table ++ list) (trailer_of table list) ∙ ap (λ (l : List ℕ). l ++ octets_of (trailer_of table list)) (octets_append table list)

pub length_image : (table list : List ℕ) → length (image_of table list) ≡ word_octets * (length table + length list) + trailer_octets
length_image table list =
    rw image_parts (simp (length-append, length_octets_lem, length_trailer) (omega arith))
