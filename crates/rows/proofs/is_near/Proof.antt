use Rattle.rows.specs.Starts.{near_from}
use borrow.Author.Rules.{rules}
use Rattle.rows.proofs.is_near.Statement.{statement}
use Rattle.rows.proofs.is_near.Tie as tie

words_at-words-requires : tie.Need-words_at-words-requires
words_at-words-requires c κs = search rules

is_from-requires : tie.Need-is_from-requires
is_from-requires c κs = search rules

is_from-requires-2 : tie.Need-is_from-requires-2
is_from-requires-2 c κs = search rules

rest_by-requires : tie.Need-rest_by-requires
rest_by-requires c κs = search rules

returns : tie.Need-returns
unfolding near_from
returns c =
    rw (c.rest_by.ensures, c.is_from-2.ensures, c.is_from.ensures, c.words_at-words.ensures)

pub is_near_spec : {M : Type 1} → statement M
is_near_spec =
    tie.close
    (tie.spec words_at-words-requires is_from-requires is_from-requires-2 rest_by-requires returns)
