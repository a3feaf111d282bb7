-- The invariant: the rows passed stand, `before` is the MSISDN of the last, and the words above it up to `end` are numbers. Assumes nothing.
use mathlib.Core.Path.{◌≡◌, refl, sym, ◌∙◌}
use mathlib.Core.Bool.{true}
use mathlib.Core.List.{List}
use Prim.Native.Nat.{ℕ, ◌+◌, ◌-◌, ◌*◌, ◌%◌, ◌≤◌, ◌<◌}
use native.Mathlib.Omega.{arith}
use borrow.Author.Rules.{rules}
use lib.ListN.{length, get_or}
use lib.Dec.{leb}
use borrow.Author.Tests.{leb-true, ltb-true, not-true, not-false}
use Rattle.answers.proofs.Tests.{and_left, and_right}
use Rattle.tables.specs.Tables.{subscriber_words, most_subscribers, subscribers_in, msisdn_key, most_flags, flags_at, subscriber_stands, list_sound}
use Rattle.tables.specs.Ends.{end_for, subscriber_within, pair_within}
use Rattle.tables.proofs.Ends.{Reaches, reaches_none, within_tells, reaches_on, pair_reached}
use Rattle.tables.proofs.Sound.{subscriber_sound, ragged, too_many, not_every, all_stand, Scanned, scan_start, scan_test, scan_next, scan_end}
use Rattle.tables.proofs.list_sound.Statement.{statement}
use Rattle.tables.proofs.list_sound.Tie as tie

-- the rows before word `at` stand
record Passed (l : List ℕ) (at before end : ℕ) : Type 0 where
  row : ℕ
  place : at ≡ subscriber_words * row
  stood : Scanned (msisdn_key l) (subscriber_sound l) (subscribers_in l) row before
  reaches : Reaches before end

module _ (l : List ℕ) (at before end : ℕ) (p : Passed l at before end) where
  -- a row that begins within a list of whole rows ends there
  within_list : length l % subscriber_words ≡ 0 → at < length l → (at + 1 < length l) × (p.row < subscribers_in l)
  within_list w h = (omega (arith, p.place), omega (arith, p.place))

  -- the next row, by its own test
  tested : subscriber_stands l p.row ≡ subscriber_within l at before (end_for end (get_or l at 0))
  tested =
      rw p.place
      (scan_test _ _ _ _ _ p.stood _ refl
      ∙ within_tells before end (msisdn_key l p.row) (leb (flags_at l p.row) most_flags) p.reaches)

  one_more : p.row < subscribers_in l → subscriber_stands l p.row ≡ true → Passed l (at + subscriber_words) (get_or l at 0) (end_for end (get_or l at 0))
  one_more inside stands =
      let above = ltb-true before (get_or l at 0) (and_left _ _ (sym tested ∙ stands)) in
      record {
        row = p.row + 1;
        place = omega (arith, p.place);
        stood = rw p.place (scan_next _ _ _ _ _ p.stood inside stands);
        reaches = reaches_on before end (get_or l at 0) p.reaches above;
      }

  two_more : pair_within l at before end ≡ true → Passed l (at + 2 * subscriber_words) (get_or l (at + subscriber_words) 0) end
  unfolding pair_within
  two_more e =
      let i = p.row in
      let next : at + subscriber_words ≡ subscriber_words * (i + 1) = omega (arith, p.place) in
      let room = leb-true (at + 2 * subscriber_words) (length l) (and_left _ _ e) in
      let both = and_right (leb (at + 2 * subscriber_words) (length l)) _ e in
      let a = subscriber_within l at before (get_or l (at + subscriber_words) 0) in
      let q = pair_reached before end (get_or l at 0) (get_or l (at + subscriber_words) 0) _ _ p.reaches (and_left a _ both) (and_right a _ both) in
      let one = scan_next _ _ _ _ _ p.stood (omega (arith, p.place, room)) (scan_test _ _ _ _ _ p.stood _ refl ∙ rw p.place at q.0) in
      let two = scan_next _ _ _ _ _ one (omega (arith, p.place, room)) (scan_test _ _ _ _ _ one _ refl ∙ rw (next, p.place) at q.1) in
      record { row = i + 1 + 1; place = omega (arith, p.place); stood = rw next two; reaches = q.2 }

abbrev invariant-loop-at : tie.invariant-loop-at
invariant-loop-at list before₀ end₀ at₀ before end at = Passed list at before end

abbrev decreases-loop-at : tie.decreases-loop-at
decreases-loop-at list before₀ end₀ at₀ before end at = length list - at

returns-then-list-ne0 : tie.Need-returns-then-list-ne0 invariant-loop-at decreases-loop-at
unfolding list_sound
returns-then-list-ne0 c =
    let t = c.args.list.now in
    ragged subscriber_words most_subscribers (subscriber_stands t) t c.if-list-ne0.true

returns-then-list-gt-MOST_SUBSCRIBERS : tie.Need-returns-then-list-gt-MOST_SUBSCRIBERS invariant-loop-at decreases-loop-at
unfolding list_sound
returns-then-list-gt-MOST_SUBSCRIBERS c =
    let t = c.args.list.now in
    too_many subscriber_words most_subscribers (subscriber_stands t) t (omega arith)

loop-at-init : tie.Need-loop-at-init invariant-loop-at decreases-loop-at
loop-at-init c = record { row = 0; place = refl; stood = scan_start _ _ _; reaches = reaches_none _ }

pair_follows-requires : tie.Need-pair_follows-requires invariant-loop-at decreases-loop-at
pair_follows-requires c κs = search rules

-- a pair that follows is within the list
room : (c : tie.Then-pair_follows invariant-loop-at decreases-loop-at) → c.loop-at.at + 2 * subscriber_words ≤ length c.args.list.now
unfolding pair_within
room c = leb-true _ _ (and_left _ _ (sym c.pair_follows.ensures ∙ c.if-pair_follows.true))

overflow_add-before : tie.Need-overflow_add-before invariant-loop-at decreases-loop-at
overflow_add-before c = omega (arith, room c)

offset_bounds-list-at : tie.Need-offset_bounds-list-at invariant-loop-at decreases-loop-at
offset_bounds-list-at c = omega (arith, room c)

bounds-list-at : tie.Need-bounds-list-at invariant-loop-at decreases-loop-at
bounds-list-at c = omega (arith, room c.before)

overflow_mul-at : tie.Need-overflow_mul-at invariant-loop-at decreases-loop-at
overflow_mul-at c = omega (arith, room c.before)

overflow_add-at : tie.Need-overflow_add-at invariant-loop-at decreases-loop-at
overflow_add-at c = omega (arith, room c.before)

loop-at-smaller-then-pair_follows : tie.Need-loop-at-smaller-then-pair_follows invariant-loop-at decreases-loop-at
loop-at-smaller-then-pair_follows c = omega (arith, room c.before)

loop-at-preserved-then-pair_follows : tie.Need-loop-at-preserved-then-pair_follows invariant-loop-at decreases-loop-at
loop-at-preserved-then-pair_follows c =
    two_more _ c.loop-at.at c.loop-at.before c.loop-at.end c.loop-at.invariant (sym c.pair_follows.ensures ∙ c.if-pair_follows.true)

offset_bounds-list-at-else-pair_follows : tie.Need-offset_bounds-list-at-else-pair_follows invariant-loop-at decreases-loop-at
offset_bounds-list-at-else-pair_follows c = search rules

bounds-list-at-else-pair_follows : tie.Need-bounds-list-at-else-pair_follows invariant-loop-at decreases-loop-at
bounds-list-at-else-pair_follows c = search rules

end_for-end-requires : tie.Need-end_for-end-requires invariant-loop-at decreases-loop-at
end_for-end-requires c κs = search rules

overflow_add-at-else-pair_follows : tie.Need-overflow_add-at-else-pair_follows invariant-loop-at decreases-loop-at
overflow_add-at-else-pair_follows c = search rules

offset_bounds-list-at-else-pair_follows-2 : tie.Need-offset_bounds-list-at-else-pair_follows-2 invariant-loop-at decreases-loop-at
offset_bounds-list-at-else-pair_follows-2 c = search rules

bounds-list-at-else-pair_follows-2 : tie.Need-bounds-list-at-else-pair_follows-2 invariant-loop-at decreases-loop-at
bounds-list-at-else-pair_follows-2 c =
    omega (arith, (within_list _ _ _ _ c.loop-at.invariant c.if-list-ne0.false c.loop-at-test.true).0)

follows-requires : tie.Need-follows-requires invariant-loop-at decreases-loop-at
follows-requires c κs = search rules

-- whether the row stands
stands :
    (c : tie.After-follows invariant-loop-at decreases-loop-at)
    → subscriber_stands c.args.list.now c.loop-at.invariant.row ≡ c.follows.result
stands c =
    tested _ c.loop-at.at c.loop-at.before c.loop-at.end c.loop-at.invariant ∙ rw (← c.end_for-end.ensures) (sym c.follows.ensures)

inside :
    (c : tie.After-follows invariant-loop-at decreases-loop-at)
    → c.loop-at.invariant.row < subscribers_in c.args.list.now
inside c =
    (within_list _ _ _ _ c.loop-at.invariant c.if-list-ne0.false c.loop-at-test.true).1

returns-then-not-follows : tie.Need-returns-then-not-follows invariant-loop-at decreases-loop-at
unfolding list_sound
returns-then-not-follows c =
    let t = c.args.list.now in
    not_every subscriber_words most_subscribers (subscriber_stands t) t c.loop-at.invariant.row (inside c.before) (stands c.before ∙ not-true _ c.if-not-follows.true-raw)

overflow_add-at-else-pair_follows-2 : tie.Need-overflow_add-at-else-pair_follows-2 invariant-loop-at decreases-loop-at
overflow_add-at-else-pair_follows-2 c = search rules

loop-at-smaller : tie.Need-loop-at-smaller invariant-loop-at decreases-loop-at
loop-at-smaller c = search rules

loop-at-preserved : tie.Need-loop-at-preserved invariant-loop-at decreases-loop-at
loop-at-preserved c =
    rw c.end_for-end.ensures
    (one_more _ c.loop-at.at c.loop-at.before c.loop-at.end c.loop-at.invariant (inside c.before) (stands c.before ∙ not-false _ c.if-not-follows.false-raw))

returns : tie.Need-returns invariant-loop-at decreases-loop-at
unfolding list_sound
returns c =
    let t = c.args.list.now in
    let p = c.loop-at.invariant in
    all_stand subscriber_words most_subscribers (subscriber_stands t) t (search rules) (search rules)
    (scan_end _ _ _ _ _ p.stood (omega (arith, p.place, c.loop-at-test.false)))

pub list_sound_spec : {M : Type 1} → statement M
list_sound_spec =
    tie.close
    (tie.spec
    invariant-loop-at
    decreases-loop-at
    returns-then-list-ne0
    returns-then-list-gt-MOST_SUBSCRIBERS
    loop-at-init
    pair_follows-requires
    overflow_add-before
    offset_bounds-list-at
    bounds-list-at
    overflow_mul-at
    overflow_add-at
    loop-at-smaller-then-pair_follows
    loop-at-preserved-then-pair_follows
    offset_bounds-list-at-else-pair_follows
    bounds-list-at-else-pair_follows
    end_for-end-requires
    overflow_add-at-else-pair_follows
    offset_bounds-list-at-else-pair_follows-2
    bounds-list-at-else-pair_follows-2
    follows-requires
    returns-then-not-follows
    overflow_add-at-else-pair_follows-2
    loop-at-smaller
    loop-at-preserved
    returns)
