-- The lines of an input, carried out one after the other: what holds before each of them. Assumes nothing.
use mathlib.Core.Path.{◌≡◌, refl, sym, ap, ap₂, ◌∙◌}
use mathlib.Core.Bool.{true}
use mathlib.Core.List.{List, [], ◌∷◌, ◌++◌, append-nil, append_assoc}
use Prim.Native.Nat.{ℕ, ◌+◌, ◌-◌, ◌*◌, ◌≤◌, ◌<◌}
use native.Mathlib.Omega.{arith}
use borrow.Rule.Slice.PartMut.{put_mid}
use lib.ListN.{length, take, drop, length-append, length-drop, take-append-drop, drop_of_length-le}
use lib.Seq.{length-take-le, take_at, drop_at, take-append-add, drop-append-add, take-append_seam, drop-drop}
use Rattle.answers.proofs.Parts.{rest_of, rest_back}
use Rattle.octets.specs.Octets.{index_of}
use Rattle.rows.specs.Rows.{row_words}
use Rattle.tables.specs.Tables.{subscriber_words}
use Rattle.tables.specs.Figures.{recount}
use Rattle.lines.specs.declared.Progress.{Progress}
use Rattle.lines.specs.declared.Done.{Done}
use Rattle.forms.specs.Lines.{line_feed, lines_of}
use Rattle.lines.specs.Program.{Program, Effect, program_delay, printed_behind, line_effect, lines_effect, program_effect, output_of}
use Rattle.answers.specs.Writing.{Stands, over}
use Rattle.lines.specs.Memory.{program_in, Fits, Did, Lent, Ran, ran, running}
use Rattle.forms.proofs.Places.{lines_first}
use Rattle.lines.proofs.Bounds.{line_bounded}

-- at a place of the input, with n octets printed: the rows in use and the lines that are left make the whole effect
pub record Run (input table list out : List ℕ) (s : Progress) (at n : ℕ) (t l o : List ℕ) : Type 0 where
  pub stands : Fits s t l
  pub table_long : length t ≡ length table
  pub list_long : length l ≡ length list
  pub out_long : length o ≡ length out
  pub near : at ≤ length input + 1
  pub most : n ≤ 7 * at
  pub effect : program_effect input ≡ printed_behind (take n o) (lines_effect (lines_of (drop at input)) (program_in s t l))
  pub table_stays : drop (row_words * s.numbers) t ≡ drop (row_words * s.numbers) table
  pub list_stays : drop (subscriber_words * s.subscribers) l ≡ drop (subscriber_words * s.subscribers) list
  pub out_stays : drop n o ≡ drop n out

pub run_start : (input table list out : List ℕ) → Lent input table list out
    → Run input table list out (record { numbers = 0; subscribers = 0; filling = true; delay = program_delay; fresh = true; figures = 0 ∷ 0 ∷ 0 ∷ [] }) 0 0 table list out
unfolding program_effect recount
run_start input table list out lent = record {
  stands = record { numbers = omega arith; subscribers = omega arith; table_room = lent.table_room; list_room = lent.list_room; figures = refl };
  table_long = refl;
  list_long = refl;
  out_long = refl;
  near = omega arith;
  most = omega arith;
  effect = refl;
  table_stays = refl;
  list_stays = refl;
  out_stays = refl;
}

-- words put over the front of others, and what lies beyond
put_front : {text old new : List ℕ} {n : ℕ} → Stands text old n new → take n new ≡ text
put_front {text} {old} {n = n} p = ap (take n) p.buffer ∙ take_at text (drop n old) n (sym p.count)

put_rest : {text old new : List ℕ} {n : ℕ} → Stands text old n new → drop n new ≡ drop n old
put_rest {text} {old} {n = n} p = ap (drop n) p.buffer ∙ drop_at text (drop n old) n (sym p.count)

put_length : {text old new : List ℕ} {n : ℕ} → Stands text old n new → n ≤ length new
put_length {text} {old} {n = n} p = omega (arith, p.count, ap length p.buffer, length-append text (drop n old))

-- what stays behind a place stays behind a later one
later : (m n : ℕ) (a b : List ℕ) → m ≤ n → drop m a ≡ drop m b → drop n a ≡ drop n b
later m n a b h e =
    let k : m + (n - m) ≡ n = omega arith in
    ap (λ (i : ℕ). drop i a) (sym k) ∙ sym (drop-drop (n - m) m a) ∙ ap (drop (n - m)) e ∙ drop-drop (n - m) m b ∙ ap (λ (i : ℕ). drop i b) k

program_same : (p q : Program) → p.table ≡ q.table → p.list ≡ q.list → p.filling ≡ q.filling → p.delay ≡ q.delay → p.fresh ≡ q.fresh → p ≡ q
program_same p q a b c d e = λ i. record { table = a i; list = b i; filling = c i; delay = d i; fresh = e i }

lines_next : (input : List ℕ) (at end : ℕ) → at < length input → end ≡ index_of line_feed (drop at input)
    → lines_of (drop at input) ≡ take end (drop at input) ∷ lines_of (drop (at + (end + 1)) input)
lines_next input at end h e =
    lines_first (drop at input) (omega (arith, length-drop at input)) ∙ rw (← e, drop-drop (end + 1) at input)

behind_behind : (a b : List ℕ) (e : Effect) → printed_behind a (printed_behind b e) ≡ printed_behind (a ++ b) e
behind_behind a b e = λ i. record { prints = sym (append_assoc a b e.prints) i; leaves = e.leaves }

-- what the first of the lines prints stands in front of what the others print
first_line :
    (input printed : List ℕ) (p : Program) (at end : ℕ) → at < length input → end ≡ index_of line_feed (drop at input)
    → printed_behind printed (lines_effect (lines_of (drop at input)) p)
    ≡ printed_behind (printed ++ (line_effect (take end (drop at input)) p).prints)
    (lines_effect (lines_of (drop (at + (end + 1)) input)) (line_effect (take end (drop at input)) p).leaves)
unfolding lines_effect
first_line input printed p at end h e =
    ap (λ (ls : List (List ℕ)). printed_behind printed (lines_effect ls p)) (lines_next input at end h e)
    ∙ behind_behind printed (line_effect (take end (drop at input)) p).prints _

-- a part written behind the first n words
part_front : (n m : ℕ) (o part : List ℕ) → n ≤ length o → take (n + m) (take n o ++ part) ≡ take n o ++ take m part
part_front n m o part h = ap (λ (i : ℕ). take (i + m) (take n o ++ part)) (sym (length-take-le n o h)) ∙ take-append-add (take n o) part m

part_rest : (n m : ℕ) (o part : List ℕ) → n ≤ length o → drop (n + m) (take n o ++ part) ≡ drop m part
part_rest n m o part h = ap (λ (i : ℕ). drop (i + m) (take n o ++ part)) (sym (length-take-le n o h)) ∙ drop-append-add (take n o) part m

module _
    {input table list out : List ℕ} {s : Progress} {at n : ℕ} {t l o : List ℕ} (before : Run input table list out s at n t l o) (lent : Lent input table list out)
    (more : at < length input) where
  -- room for a line is left in the output
  pub so_far : n + 61 ≤ length o
  so_far = omega (arith, before.most, lent.room, before.out_long)

  module _
      {end : ℕ} (found : (end ≡ index_of line_feed (drop at input)) × (end ≤ length (drop at input))) {d : Done} {newTable newList part : List ℕ}
      (did : Did (line_effect (take end (drop at input)) (program_in s t l)) s t l (take (length o - n) (drop n o)) d newTable newList part)
      (sameTable : length newTable ≡ length t) (same_list : length newList ≡ length l) (samePart : length part ≡ length (take (length o - n) (drop n o))) where
    abbrev line : List ℕ
    line = take end (drop at input)

    abbrev effect : Effect
    effect = line_effect line (program_in s t l)

    pub printed_most : d.printed ≤ 7 * (end + 1)
    printed_most = omega (arith, did.printed.count, (line_bounded line (program_in s t l)).times, length-take-le end (drop at input) found.1)

    left : program_in d.state newTable newList ≡ effect.leaves
    left = program_same (program_in d.state newTable newList) effect.leaves (put_front did.numbers) (put_front did.subscribers) did.filling did.delay did.fresh

    -- the output, with what the line printed behind what was printed before
    wide : n ≤ length o
    wide = omega (arith, so_far)

    new : put_mid n (length o - n) o part ≡ take n o ++ part
    new = rest_back n o part

    front : take (n + d.printed) (put_mid n (length o - n) o part) ≡ take n o ++ effect.prints
    front = ap (take (n + d.printed)) new ∙ part_front n d.printed o part wide ∙ ap (λ (x : List ℕ). take n o ++ x) (put_front did.printed)

    stays : drop (n + d.printed) (put_mid n (length o - n) o part) ≡ drop (n + d.printed) out
    stays =
        ap (drop (n + d.printed)) new
        ∙ part_rest n d.printed o part wide
        ∙ put_rest did.printed
        ∙ ap (drop d.printed) (rest_of n o ∙ before.out_stays)
        ∙ drop-drop d.printed n out

    pub run_step : Run input table list out d.state (at + (end + 1)) (n + d.printed) newTable newList (put_mid n (length o - n) o part)
    run_step = record {
      stands = record {
        numbers = put_length did.numbers;
        subscribers = put_length did.subscribers;
        table_room = omega (arith, before.stands.table_room);
        list_room = omega (arith, before.stands.list_room);
        figures = did.figures ∙ ap recount (sym (put_front did.numbers));
      };
      table_long = sameTable ∙ before.table_long;
      list_long = same_list ∙ before.list_long;
      out_long =
          ap length new ∙ omega (arith, length-append (take n o) part, length-take-le n o wide, samePart, ap length (rest_of n o), length-drop n o, before.out_long, wide);
      near = omega (arith, length-drop at input, found.1);
      most = omega (arith, before.most, printed_most);
      effect =
          before.effect
          ∙ first_line input (take n o) (program_in s t l) at end more found.0
          ∙ rw (front, left);
      table_stays = put_rest did.numbers ∙ later (row_words * s.numbers) (row_words * d.state.numbers) t table (omega (arith, did.more_numbers)) before.table_stays;
      list_stays = put_rest did.subscribers ∙ later (subscriber_words * s.subscribers) (subscriber_words * d.state.subscribers) l list (omega (arith, did.more_subscribers)) before.list_stays;
      out_stays = stays;
    }

-- ---- behind the last line

-- a front with what lies beyond, as one list
whole : (m : ℕ) (words lent : List ℕ) → m ≤ length words → drop m words ≡ drop m lent → words ≡ over (take m words) lent
whole m words lent h e =
    sym (take-append-drop m words) ∙ ap (λ (x : List ℕ). take m words ++ x) (e ∙ ap (λ (i : ℕ). drop i lent) (sym (length-take-le m words h)))

pub run_end :
    (input table list out : List ℕ) (s : Progress) (at n : ℕ) (t l o : List ℕ) → Run input table list out s at n t l o → Lent input table list out → length input ≤ at
    → ran n t l o ≡ running input table list out
unfolding lines_effect lines_of running
run_end input table list out s at n t l o run lent done =
    let wide : n ≤ length o = omega (arith, run.most, run.near, lent.room, run.out_long) in
    let e : program_effect input ≡ record { prints = take n o; leaves = program_in s t l } = run.effect ∙ rw (drop_of_length-le input done, append-nil) in
    rw e
    (λ i. record {
      count = sym (length-take-le n o wide) i;
      table = whole (row_words * s.numbers) t table run.stands.numbers run.table_stays i;
      list = whole (subscriber_words * s.subscribers) l list run.stands.subscribers run.list_stays i;
      out = whole n o out wide run.out_stays i;
    })

-- ---- what a caller knows

-- the octets counted are within the output
pub count_within : (n : ℕ) (input table list out t l o : List ℕ) → ran n t l o ≡ running input table list out → n ≤ length o
unfolding running
count_within n input table list out t l o e =
    let prints = (program_effect input).prints in
    omega (arith, ap (λ (r : Ran). r.count) e, ap (λ (r : Ran). length r.out) e, length-append prints (drop (length prints) out))

-- and they are the whole output
pub output_is : (n : ℕ) (input table list out t l o : List ℕ) → ran n t l o ≡ running input table list out → take n o ≡ output_of input
unfolding running output_of
output_is n input table list out t l o e =
    let prints = (program_effect input).prints in
    ap₂ take (ap (λ (r : Ran). r.count) e) (ap (λ (r : Ran). r.out) e) ∙ take-append_seam prints (drop (length prints) out)

-- no choice is left: two runs that the contract allows are equal, in their count, table, list and output
pub run_one :
    (n m : ℕ) (t l o u k p : List ℕ) {r : Ran} → ran n t l o ≡ r → ran m u k p ≡ r → (n ≡ m) × (t ≡ u) × (l ≡ k) × (o ≡ p)
run_one n m t l o u k p {r} a b =
    let e = a ∙ sym b in
    (ap (λ (x : Ran). x.count) e, ap (λ (x : Ran). x.table) e, ap (λ (x : Ran). x.list) e, ap (λ (x : Ran). x.out) e)
