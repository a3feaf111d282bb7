use Rattle.rows.specs.Starts.{rest_from}
use borrow.Author.Rules.{rules}
use Rattle.rows.proofs.rest_sound.Statement.{statement}
use Rattle.rows.proofs.rest_sound.Tie as tie

words_at-words-requires : tie.Need-words_at-words-requires
words_at-words-requires c κs = search rules

is_number-requires : tie.Need-is_number-requires
is_number-requires c κs = search rules

is_number-requires-2 : tie.Need-is_number-requires-2
is_number-requires-2 c κs = search rules

rest_by-requires : tie.Need-rest_by-requires
rest_by-requires c κs = search rules

returns : tie.Need-returns
unfolding rest_from
returns c =
    rw (c.rest_by.ensures, c.is_number-2.ensures, c.is_number.ensures, c.words_at-words.ensures)

pub rest_sound_spec : {M : Type 1} → statement M
rest_sound_spec =
    tie.close
    (tie.spec words_at-words-requires is_number-requires is_number-requires-2 rest_by-requires returns)
