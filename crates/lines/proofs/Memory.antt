-- The program in memory: rows in use and rows behind them, and what a line did. Assumes nothing.
use mathlib.Core.Path.{◌≡◌, refl, sym, ap, ◌∙◌}
use mathlib.Core.Bool.{Bool, true, false, ◌&&◌}
use mathlib.Core.List.{List, [], ◌∷◌, ◌++◌}
use Prim.Native.Nat.{ℕ, suc, ◌+◌, ◌-◌, ◌*◌, ◌/◌, ◌≤◌, ◌<◌}
use native.Mathlib.Numerals.{add-one}
use native.Mathlib.Omega.{arith}
use Rattle.std.proofs.Math.Nat.{mul-le-mul_left, mul-div_cancel_left}
use lib.ListN.{length, take, drop, set, get_or, length-append, length-drop, take-append-drop}
use lib.Seq.{drop-cons, set_at, append_snoc, length-take-le}
use lib.Dec.{ltb}
use borrow.Rule.Slice.PartMut.{put_mid}
use borrow.Author.Tests.{ltb-true}
use Rattle.answers.proofs.Tests.{and_left, and_no}
use Rattle.numbers.specs.declared.FunctionalNumber.{FunctionalNumber}
use Rattle.numbers.specs.declared.Msisdn.{Msisdn}
use Rattle.records.specs.Steps.{delay_allowed}
use Rattle.rows.specs.Rows.{row_words}
use Rattle.tables.specs.Tables.{most_numbers, subscriber_words, most_subscribers}
use Rattle.states.specs.States.{State, beside, counted}
use Rattle.rules.specs.Answers.{Outcome}
use Rattle.rules.specs.Figures.{Right}
use Rattle.lines.specs.declared.Progress.{Progress}
use Rattle.lines.specs.declared.Done.{Done}
use Rattle.forms.specs.Lines.{line_feed, space}
use Rattle.lines.specs.Program.{Program, Effect, questioned, last_key, may_follow, when_allowed, with_number, numbered, with_subscriber, subscribed, with_delay, delayed, answered_line}
use Rattle.answers.specs.Writing.{Stands}
use Rattle.lines.specs.Memory.{Answered, program_in, begun_in, Fits, line_room, Did, ending}
use Rattle.answers.proofs.Parts.{rest_of, rest_back}
use Rattle.answers.proofs.Parts.{stands_behind}

-- ---- rows

-- the rows in use, as they were
pub put_kept : (n : ℕ) (words : List ℕ) → n ≤ length words → Stands (take n words) words n words
put_kept n words h = record { count = sym (length-take-le n words h); buffer = sym (take-append-drop n words) }

-- a row that may follow the words in use is not over the limit
pub follows_below : (width most key n : ℕ) (words : List ℕ) → n ≤ length words → may_follow width most key (take n words) ≡ true → n / width < most
unfolding may_follow
follows_below width most key n words h e = ltb-true (n / width) most (rw (length-take-le n words h) at (and_left (ltb (length (take n words) / width) most) (ltb (last_key width (take n words)) key) e))

-- a row that may follow the rows in use has its room among the most
pub room_behind : (width most key rows : ℕ) (words : List ℕ) → 0 < width → width * rows ≤ length words → may_follow width most key (take (width * rows) words) ≡ true → width * (rows + 1) ≤ width * most
room_behind width most key rows words pos within may =
    let below : rows < most = rw (mul-div_cancel_left rows pos) at (follows_below width most key (width * rows) words within may) in
    mul-le-mul_left width (omega arith)

pub put_count : {text old new : List ℕ} {n : ℕ} (m : ℕ) → Stands text old n new → m ≡ n → Stands text old m new
put_count m p e = rw e p

pub put_nothing : (old : List ℕ) → Stands [] old 0 old
put_nothing old = record { count = refl; buffer = refl }

-- ---- filling

pub did_as :
    {e f : Effect} {s : Progress} {table list out : List ℕ} {d : Done} {newTable newList newOut : List ℕ} → e ≡ f
    → Did f s table list out d newTable newList newOut → Did e s table list out d newTable newList newOut
did_as same did = rw same did

module _ (n : FunctionalNumber) (p : Program) where
  pub numbered_late : p.filling ≡ false → numbered n p ≡ questioned p
  unfolding numbered
  numbered_late f = rw f

  pub numbered_over : may_follow row_words most_numbers n.0 p.table ≡ false → numbered n p ≡ questioned p
  unfolding numbered
  numbered_over m = rw (and_no p.filling (may_follow row_words most_numbers n.0 p.table) m)

  pub numbered_in : p.filling ≡ true → may_follow row_words most_numbers n.0 p.table ≡ true → numbered n p ≡ when_allowed true (with_number n p) p
  unfolding numbered
  numbered_in f m = rw (f, m)

module _ (m : Msisdn) (flags : ℕ) (p : Program) where
  pub subscribed_late : p.filling ≡ false → subscribed m flags p ≡ questioned p
  unfolding subscribed
  subscribed_late f = rw f

  pub subscribed_over : may_follow subscriber_words most_subscribers m.0 p.list ≡ false → subscribed m flags p ≡ questioned p
  unfolding subscribed
  subscribed_over e = rw (and_no p.filling (may_follow subscriber_words most_subscribers m.0 p.list) e)

  pub subscribed_in : p.filling ≡ true → may_follow subscriber_words most_subscribers m.0 p.list ≡ true → subscribed m flags p ≡ when_allowed true (with_subscriber m flags p) p
  unfolding subscribed
  subscribed_in f e = rw (f, e)

module _ (first : Bool) (seconds : ℕ) (p : Program) where
  pub delayed_not : (first && delay_allowed seconds) ≡ false → delayed first seconds p ≡ questioned p
  unfolding delayed
  delayed_not e = rw e

  pub delayed_so : (first && delay_allowed seconds) ≡ true → delayed first seconds p ≡ when_allowed true (with_delay seconds p) p
  unfolding delayed
  delayed_so e = rw e

-- ---- the first line

-- a line's coming moves no row
pub fits_begun : {s : Progress} {table list : List ℕ} → Fits s table list → Fits (begun_in s) table list
fits_begun f = record { numbers = f.numbers; subscribers = f.subscribers; table_room = f.table_room; list_room = f.list_room; figures = f.figures }

pub did_begun :
    {e : Effect} {s : Progress} {table list out : List ℕ} {d : Done} {newTable newList newOut : List ℕ} → Did e (begun_in s) table list out d newTable newList newOut
    → Did e s table list out d newTable newList newOut
did_begun did = record {
  numbers = did.numbers;
  subscribers = did.subscribers;
  filling = did.filling;
  delay = did.delay;
  fresh = did.fresh;
  figures = did.figures;
  printed = did.printed;
  more_numbers = did.more_numbers;
  more_subscribers = did.more_subscribers;
}

-- ---- a printed line

-- a text, and a line feed behind it
pub put_end : {text old new : List ℕ} {n : ℕ} → Stands text old n new → n < length new → Stands (text ++ (line_feed ∷ [])) old (n + 1) (set new n line_feed)
put_end {text} {old} {new} {n} p h =
    let l : n < length old = omega (arith, ap length p.buffer, length-append text (drop n old), length-drop n old, p.count) in
    record {
      count = omega (arith, p.count, length-append text (line_feed ∷ []));
      buffer =
          rw (p.buffer, drop-cons old n 0 l, set_at text (get_or old n 0) (drop (suc n) old) line_feed n (sym p.count), add-one n)
          (sym (append_snoc text line_feed (drop (suc n) old)));
    }

-- behind the letter, the space and what the call said there is room for the line feed
pub line_room_lem :
    {letter h n : ℕ} {o : Outcome} {t : State} {out mid part : List ℕ} → Stands (letter ∷ space ∷ []) out h mid → Answered o t (take (length mid - h) (drop h mid)) part n
    → length part ≡ length (take (length mid - h) (drop h mid)) → line_room ≤ length mid → h + n < length (put_mid h (length mid - h) mid part)
line_room_lem {h = h} {mid = mid} {part} head body same room =
    let l = rw rest_of at same in
    rw (rest_back h mid part) (omega (arith, head.count, body.short, length-append (take h mid) part, length-take-le h mid (omega (arith, head.count)), length-drop h mid))

-- the letter, what the call said and the line feed were printed, over the rows in use and the table and figures that the call left
pub line_did :
    (call : State → Outcome) {letter h n : ℕ} {s : Progress} {table list out t figures mid part new : List ℕ} {d : Done}
    → Fits s table list → ((u : List ℕ) → Right (call (counted u)).state) → Stands (letter ∷ space ∷ []) out h mid
    → Answered (call (beside (take (row_words * s.numbers) table) s.figures)) (beside t figures) (take (length mid - h) (drop h mid)) part n
    → length t ≡ row_words * s.numbers → h + n < length (put_mid h (length mid - h) mid part)
    → d ≡ ending s figures (h + n) → new ≡ set (put_mid h (length mid - h) mid part) (h + n) line_feed
    → Did (answered_line letter (call (counted (program_in s table list).table)) (program_in s table list)) s table list out d (t ++ drop (row_words * s.numbers) table) list new
line_did call {s = s} {table} {list} stands right head body rows room ended written =
    let answered = rw stands.figures at body in
    let left = ap (λ (x : State). x.table) answered.leaves in
    rw (ended, written)
    (record {
      numbers = record { count = sym rows ∙ ap length left; buffer = rw (← left) refl };
      subscribers = put_kept (subscriber_words * s.subscribers) list stands.subscribers;
      filling = refl;
      delay = refl;
      fresh = refl;
      figures = ap (λ (x : State). x.figures) answered.leaves ∙ right _;
      printed = put_end (stands_behind head answered.says) room;
      more_numbers = omega arith;
      more_subscribers = omega arith;
    })
