-- Assumes nothing.
use Rattle.std.proofs.Common.{◌≡◌, refl, ◌∙◌, ⊎_elim, arith, rules, ◌*◌, ◌<◌, ◌++◌, length, drop, length-drop, ℕ}
use borrow.Author.Tests.{ltb-true, not-true, not-false}
use Rattle.answers.proofs.Tests.{and_left}
use Rattle.numbers.proofs.Least.{Starts, starts_none}
use Rattle.rows.specs.Rows.{row_words, number_at}
use Rattle.rows.proofs.Starts.{starts_holder}
use Rattle.tables.specs.Tables.{most_numbers, rows_in, row_stands, table_up_to}
use Rattle.tables.specs.Ends.{within}
use Rattle.tables.proofs.Counts.{counts_few, not_counted, all_counted}
use Rattle.tables.proofs.Ends.{reaches_none, within_reached, reaches_on}
use Rattle.tables.proofs.Passed.{inside, tested, passed, near_stands, stands_by}
use Rattle.tables.proofs.Sound.{ragged, too_many, not_every, all_stand, scan_start, scan_end}
use Rattle.tables.proofs.recount.Goals as goal

pub returns-then-table-ne0-clause-figures : goal.returns-then-table-ne0-clause-figures
unfolding table_up_to
returns-then-table-ne0-clause-figures c =
    let t = c.args.table.now in
    not_counted t (ragged row_words most_numbers (row_stands t) t c.if-table-ne0.true)

pub returns-then-table-gt-MOST_NUMBERS-clause-figures :
    goal.returns-then-table-gt-MOST_NUMBERS-clause-figures
unfolding table_up_to
returns-then-table-gt-MOST_NUMBERS-clause-figures c =
    let t = c.args.table.now in
    not_counted t (too_many row_words most_numbers (row_stands t) t (omega arith))

pub loop-words-init : goal.loop-words-init
loop-words-init c = record {
  row = 0;
  width = cc;
  place = cc;
  stood = scan_start _ _ _;
  reaches = reaches_none _;
  starts = starts_none;
  counts = refl;
}

pub is_near-requires-clause-start_bound : goal.is_near-requires-clause-start_bound
is_near-requires-clause-start_bound c = c.loop-words.invariant.starts.small

pub holder_start-near-requires-clause-near_bound :
    goal.holder_start-near-requires-clause-near_bound
holder_start-near-requires-clause-near_bound c = c.loop-words.invariant.starts.small

-- the start that the holder is tested by
pub rest_sound-rest-requires-clause-start_bound : goal.rest_sound-rest-requires-clause-start_bound
rest_sound-rest-requires-clause-start_bound c =
    let s : Starts c.holder_start-near.result = rw c.holder_start-near.ensures (starts_holder _ _ c.loop-words.invariant.starts) in
    s.small

pub returns-then-not-before-number-2-clause-figures :
    goal.returns-then-not-before-number-2-clause-figures
unfolding table_up_to
returns-then-not-before-number-2-clause-figures c =
    let t = c.args.table.now in
    let l = c.loop-words in
    let p = l.invariant in
    let w = c.in-Some.words.now in
    let rest = c.next.new.self.rest.now in
    let k = c.in-Some.ensures.steps in
    let cut : l.words-iterator.rest.now ≡ w ++ rest = cc in
    let long : length w ≡ l.words-iterator.size = cc in
    let stands : row_stands t p.row ≡ within l.before c.end_for-end.result (number_at w 0) c.rest_sound-rest.result =
    tested _ _ _ _ _ _ _ p w rest cut long _ refl ∙ stands_by l.before l.end l.near w p.reaches p.starts
    ∙ rw (c.rest_sound-rest.ensures, c.holder_start-near.ensures, c.end_for-end.ensures) in
    not_counted t (not_every row_words most_numbers (row_stands t) t p.row (inside _ _ _ _ _ _ _ p w rest cut long)
    (stands ∙ not-true _ c.if-not-before-number-2.true-raw))

pub count_row-figures-requires-clause-few : goal.count_row-figures-requires-clause-few
count_row-figures-requires-clause-few c =
    let p = c.loop-words.invariant in
    counts_few c.loop-words.figures c.args.table.now p.row most_numbers p.counts (omega (arith, p.stood.order))

pub loop-words-preserved : goal.loop-words-preserved
loop-words-preserved c =
    let l = c.loop-words in
    let p = l.invariant in
    let w = c.in-Some.words.now in
    let rest = c.next.new.self.rest.now in
    let k = c.in-Some.ensures.steps in
    let cut : l.words-iterator.rest.now ≡ w ++ rest = cc in
    let long : length w ≡ l.words-iterator.size = cc in
    let wide : c.next.new.self.size ≡ l.words-iterator.size = cc in
    let next = passed _ _ _ _ _ _ _ p w rest cut long in
    let seen = tested _ _ _ _ _ _ _ p w rest cut long _ refl in
    rw c.count_row-figures.ensures
    (⊎_elim
    (λ slow.
    let stands : row_stands c.args.table.now p.row ≡ within l.before slow.end_for-end.result (number_at w 0) slow.rest_sound-rest.result =
    seen ∙ stands_by l.before l.end l.near w p.reaches p.starts
    ∙ rw (slow.rest_sound-rest.ensures, slow.holder_start-near.ensures, slow.end_for-end.ensures) in
    let e = not-false _ slow.if-not-before-number-2.false-raw in
    next _ _ _ wide (stands ∙ e) (rw slow.end-is (rw slow.end_for-end.ensures (reaches_on _ _ _ p.reaches (ltb-true _ _ (and_left _ _ e)))))
    (rw slow.near-is (rw slow.holder_start-near.ensures (starts_holder _ _ p.starts))))
    (λ fast.
    let r = within_reached l.before l.end (number_at w 0) c.is_near.result p.reaches (not-false _ fast.if-not-before-number.false-raw) in
    next _ _ _ wide (seen ∙ near_stands l.before l.near w 0 p.starts (rw c.is_near.ensures at r.0)) (rw fast.end-is r.1) (rw fast.near-is p.starts))
    c.if-not-before-number.branch-raw)

pub returns-clause-figures : goal.returns-clause-figures
unfolding table_up_to
returns-clause-figures c =
    let t = c.args.table.now in
    let p = c.loop-words.invariant in
    let short : length (drop (row_words * p.row) t) < row_words = rw (← p.place, ← p.width) (c.in-None.ensures.steps.1.0) in
    let last : p.row ≡ rows_in t = omega (arith, short, p.stood.order, length-drop {A = ℕ}) in
    all_counted t _ p.row (all_stand row_words most_numbers (row_stands t) t (search rules) (search rules) (scan_end _ _ _ _ _ p.stood (omega arith))) p.counts last
