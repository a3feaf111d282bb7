use Rattle.std.proofs.Common.{arith, ◌≡◌, ◌≤◌, ◌+◌, ◌*◌, ◌∙◌, sym, List, ℕ, length}
use lib.Seq.{length-take-le}
use Rattle.rows.specs.Rows.{row_words}
use Rattle.tables.specs.Tables.{subscriber_words}
use Rattle.image.specs.Images.{word_octets, trailer_octets, trailer_says, made_read}
use Rattle.image.specs.Images.SaidRead.{counts}
use Rattle.image.proofs.Words.{front_room, front_loaded, front_length}
use Rattle.image.proofs.Reading.{counted, right_length, table_by, list_by, reading_room, reading_rest}
use Rattle.image.proofs.restore.Goals as goal

module _ (image : List ℕ) (n m : ℕ) (said : counts n m ≡ trailer_says image) where
  -- rows and trailer are the whole image
  whole : word_octets * (row_words * n + subscriber_words * m) + trailer_octets ≡ length image
  whole = let k = counted image n m said in rw (k.numbers, k.subscribers) (right_length image k.right)

  -- so many rows fit the fullest table and list
  few_rows : row_words * n ≤ 7168
  few_rows = let k = counted image n m said in omega (arith, k.numbers, k.right.numbers)

  few_others : subscriber_words * m ≤ 8192
  few_others = let k = counted image n m said in omega (arith, k.subscribers, k.right.subscribers)

pub overflow_mul-words : goal.overflow_mul-words
overflow_mul-words c = omega (arith, few_rows _ _ _ c.requires)

pub overflow_mul-entries : goal.overflow_mul-entries
overflow_mul-entries c = omega (arith, few_others _ _ _ c.requires)

pub returns-then-table-words : goal.returns-then-table-words
returns-then-table-words c =
    let a = c.args in
    reading_room a.image.now a.table.now a.list.now a.figures.now _ _ (counted _ _ _ c.requires) c.if-table-words.true

pub slice_bounds-rows-end : goal.slice_bounds-rows-end
slice_bounds-rows-end c = omega (arith, c.filled-rows.ensures, few_rows _ _ _ c.requires)

pub slice_bounds-load_words-end : goal.slice_bounds-load_words-end
slice_bounds-load_words-end c = sym (length-take-le _ _ (omega (arith, c.filled-rows.ensures, few_rows _ _ _ c.requires)))

pub load_words-requires : goal.load_words-requires
load_words-requires c =
    rw (length-take-le (row_words * c.args.counted.numbers) c.filled-rows.result (omega (arith, c.filled-rows.ensures, few_rows _ _ _ c.requires))) (omega (arith, whole _ _ _ c.requires))

pub slice_bounds-others-end : goal.slice_bounds-others-end
slice_bounds-others-end c = omega (arith, c.filled-others.ensures, few_others _ _ _ c.requires)

pub slice_bounds-load_words-end-2 : goal.slice_bounds-load_words-end-2
slice_bounds-load_words-end-2 c = sym (length-take-le _ _ (omega (arith, c.filled-others.ensures, few_others _ _ _ c.requires)))

pub load_words-requires-2 : goal.load_words-requires-2
load_words-requires-2 c =
    rw (length-take-le (subscriber_words * c.args.counted.subscribers) c.filled-others.result (omega (arith, c.filled-others.ensures, few_others _ _ _ c.requires))) (omega (arith, whole _ _ _ c.requires))

pub slice_bounds-rows-end-2 : goal.slice_bounds-rows-end-2
slice_bounds-rows-end-2 c = front_room c.args.image.now 0 _ c.filled-rows.result _ (omega (arith, c.filled-rows.ensures, few_rows _ _ _ c.requires)) c.load_words.ensures

pub slice_bounds-put_contents-end : goal.slice_bounds-put_contents-end
slice_bounds-put_contents-end c = front_length c.args.image.now 0 _ c.filled-rows.result _ (omega (arith, c.filled-rows.ensures, few_rows _ _ _ c.requires)) c.load_words.ensures

pub slice_bounds-others-end-2 : goal.slice_bounds-others-end-2
slice_bounds-others-end-2 c =
    front_room c.args.image.now (word_octets * (row_words * c.args.counted.numbers)) _ c.filled-others.result _ (omega (arith, c.filled-others.ensures, few_others _ _ _ c.requires)) c.load_words-2.ensures

pub slice_bounds-put_contents-end-2 : goal.slice_bounds-put_contents-end-2
slice_bounds-put_contents-end-2 c =
    front_length c.args.image.now (word_octets * (row_words * c.args.counted.numbers)) _ c.filled-others.result _ (omega (arith, c.filled-others.ensures, few_others _ _ _ c.requires)) c.load_words-2.ensures

pub returns : goal.returns
returns c =
    let a = c.args in
    let n = a.counted.numbers in
    let m = a.counted.subscribers in
    let k = counted a.image.now n m c.requires in
    let rows =
    front_loaded a.image.now 0 (row_words * n) c.filled-rows.result c.load_words.new.words (omega (arith, c.filled-rows.ensures, few_rows _ _ _ c.requires)) c.load_words.ensures
    ∙ table_by a.image.now n k.numbers in
    let others =
    front_loaded a.image.now (word_octets * (row_words * n)) (subscriber_words * m) c.filled-others.result c.load_words-2.new.words (omega (arith, c.filled-others.ensures, few_others _ _ _ c.requires)) c.load_words-2.ensures
    ∙ list_by a.image.now n m k.numbers k.subscribers in
    reading_rest a.image.now a.table.now a.list.now a.figures.now n m k _ _ rows others c.if-table-words.false
    (made_read c.put_contents.result c.put_contents.new.table c.put_contents.new.list c.put_contents.new.figures) c.put_contents.ensures
