use borrow.Author.Rules.{rules}
use Rattle.rows.proofs.rest_by.Statement.{statement}
use Rattle.rows.proofs.rest_by.Tie as tie

is_from-requires : tie.Need-is_from-requires
is_from-requires c κs = search rules

notice_by-notice-requires : tie.Need-notice_by-notice-requires
notice_by-notice-requires c κs = search rules

returns : tie.Need-returns
returns c = rw (c.notice_by-notice.ensures, c.is_from.ensures)

pub rest_by_spec : {M : Type 1} → statement M
rest_by_spec = tie.close (tie.spec is_from-requires notice_by-notice-requires returns)
