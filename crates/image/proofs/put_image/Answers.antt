use Rattle.std.proofs.Common.{arith, ◌≡◌, ◌∙◌, ◌+◌, ◌*◌, ◌++◌, length, List, ℕ}
use lib.ListN.{length-append}
use Rattle.answers.specs.Writing.{Stands}
use Rattle.answers.proofs.Parts.{stands_room, stands_behind}
use Rattle.image.specs.Images.{word_octets, octets_of, trailer_of}
use Rattle.image.proofs.Words.{length_octets_lem}
use Rattle.image.proofs.Images.{image_parts, length_image}
use Rattle.image.proofs.put_image.Goals as goal

-- as many octets as table and list have words
both : (table list out new : List ℕ) (n : ℕ) → Stands (octets_of table ++ octets_of list) out n new → n ≡ word_octets * (length table + length list)
both table list out new n s = s.count ∙ simp (length-append, length_octets_lem) (omega arith)

pub store_words-rows-requires : goal.store_words-rows-requires
store_words-rows-requires c = omega (arith, c.requires, length_image c.args.table.now c.args.list.now)

pub store_words-requires : goal.store_words-requires
store_words-requires c =
    let a = c.args in
    rw (stands_room c.store_words-rows.ensures) (omega (arith, c.requires, length_image a.table.now a.list.now, c.store_words-rows.ensures.count, length_octets_lem a.table.now))

pub store_words-requires-2 : goal.store_words-requires-2
store_words-requires-2 c =
    let a = c.args in
    let two = stands_behind c.store_words-rows.ensures c.store_words.ensures in
    rw (stands_room two) (omega (arith, c.requires, length_image a.table.now a.list.now, both a.table.now a.list.now _ _ _ two))

pub returns : goal.returns
unfolding trailer_of
returns c =
    let a = c.args in
    let two = stands_behind c.store_words-rows.ensures c.store_words.ensures in
    rw (image_parts a.table.now a.list.now, ← both a.table.now a.list.now _ _ _ two) (stands_behind two c.store_words-2.ensures)
