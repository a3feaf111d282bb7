-- What is known by the answer of writing and of reading an image, and that two answers and memories that one contract allows are equal. Assumes nothing.
use mathlib.Core.Path.{◌≡◌, refl, sym, ap, ◌∙◌}
use mathlib.Core.Bool.{true}
use mathlib.Core.List.{List}
use Prim.Native.Nat.{ℕ, ◌*◌, ◌≤◌}
use native.Mathlib.Omega.{arith}
use lib.ListN.{length, take, drop}
use lib.Seq.{take_at}
use borrow.Author.Tests.{ltb-false, not-false}
use Rattle.std.specs.Prelude.{Result, Ok, Err}
use Rattle.answers.specs.Numbers.{refusal_number}
use Rattle.answers.specs.Writing.{Said, said, WriteOutcome, made_write, refused, over, wrote, Stands}
use Rattle.answers.specs.declared.Refusal.{Refusal}
use Rattle.answers.proofs.Numbers.{refusal_one}
use Rattle.answers.specs.Writing.Said.{count as countSaid, refusal as refusalSaid}
use Rattle.answers.proofs.Tests.{and_both}
use Rattle.answers.proofs.Decide.{all_passed, decide_all}
use Rattle.rows.specs.Rows.{row_words}
use Rattle.tables.specs.Tables.{table_sound, subscriber_words, list_sound}
use Rattle.tables.specs.Figures.{figure_count, recount}
use Rattle.states.specs.States.{State, figures_right, state_sound}
use Rattle.image.specs.declared.ImageRows.{ImageRows}
use Rattle.image.specs.Images.{image_of, table_rows, list_rows, table_words, list_words, table_in, list_in, writing_checks, writing_image, SaidRead, RestoreOutcome, leaving, reading_checks, restored, reading_image, said_read, made_read}
use Rattle.image.specs.Images.SaidRead.{counts, refusal}
use Rattle.image.proofs.Writing.{writes}
use Rattle.image.proofs.Reading.{not_counts, Right, right_by, enough_room, length_table, length_list, reading_good}

not_count : {X : Type 0} (n m : ℕ) → ◌≡◌ {A = Said} (refusalSaid n) (countSaid m) → X
not_count n m e = absurd (let z : ◌≡◌ {A = ℕ} 0 1 = cc in omega arith)

-- ---- no choice is left

alike : (v w : ImageRows) → v.numbers ≡ w.numbers → v.subscribers ≡ w.subscribers → v ≡ w
alike v w p q = rw (p, q) refl

-- two answers with the paper's same words are one
pub read_one : (v w : Result ImageRows Refusal) → said_read v ≡ said_read w → v ≡ w
read_one (Err q) (Err r) e = let p : refusal_number q ≡ refusal_number r = cc in ap Err (refusal_one q r p)
read_one (Err r) (Ok rows) e = not_counts (refusal_number r) rows.numbers rows.subscribers e
read_one (Ok rows) (Err r) e = not_counts (refusal_number r) rows.numbers rows.subscribers (sym e)
read_one (Ok v) (Ok w) e =
    let p : v.numbers ≡ w.numbers = cc in
    let q : v.subscribers ≡ w.subscribers = cc in
    ap Ok (alike v w p q)

-- two answers and lent words that one outcome allows are equal, whatever the answer is
pub left_one :
    {S : Type 0} {a b : S} {t u l m f g : List ℕ} {o : RestoreOutcome S} → leaving a t l f ≡ o → leaving b u m g ≡ o → (a ≡ b) × (t ≡ u) × (l ≡ m) × (f ≡ g)
left_one {S} p q =
    let r = p ∙ sym q in
    (ap (λ (x : RestoreOutcome S). x.answer) r, ap (λ (x : RestoreOutcome S). x.table) r, ap (λ (x : RestoreOutcome S). x.list) r, ap (λ (x : RestoreOutcome S). x.figures) r)

pub contents_one :
    (v w : Result ImageRows Refusal) (t l f u m g : List ℕ) {o : RestoreOutcome SaidRead} → made_read v t l f ≡ o → made_read w u m g ≡ o
    → (v ≡ w) × (t ≡ u) × (l ≡ m) × (f ≡ g)
contents_one v w t l f u m g p q = let (a, b, c, d) = left_one p q in (read_one v w a, b, c, d)

-- ---- an accepted image

module _ (image table list figures : List ℕ) where
  -- what a reading that answers counts has tested, and what it left
  pub record Accepted (n m : ℕ) : Type 0 where
    pub numbers : n ≡ table_rows image
    pub subscribers : m ≡ list_rows image
    pub right : Right image
    pub room : (table_words image ≤ length table) × (list_words image ≤ length list) × (figure_count ≤ length figures)
    pub sound_table : table_sound (table_in image) ≡ true
    pub sound_list : list_sound (list_in image) ≡ true
    pub left : reading_image image table list figures ≡ restored (counts n m) (table_in image) (list_in image) table list figures

  pub accepted : (n m : ℕ) → (reading_image image table list figures).answer ≡ counts n m → Accepted n m
  unfolding reading_image
  accepted n m e =
      let p =
      all_passed (λ k. leaving (refusal k) table list figures) (λ (o : RestoreOutcome SaidRead). o.answer ≡ counts n m) (λ k q. not_counts k n m q)
      (reading_checks image table list figures) (restored (counts (table_rows image) (list_rows image)) (table_in image) (list_in image) table list figures) e in
      let c = p.0 in
      let rest = c.1.1.1.1 in
      let numbers : n ≡ table_rows image = cc p.1 in
      let subscribers : m ≡ list_rows image = cc p.1 in
      let right = right_by image (c.0, (c.1.0, (c.1.1.0, (c.1.1.1.0, tt)))) in
      let room = enough_room (length table) (table_words image) (length list) (list_words image) (length figures) figure_count rest.0 in
      let sound_table : table_sound (table_in image) ≡ true = not-false _ rest.1.0 in
      let sound_list : list_sound (list_in image) ≡ true = not-false _ rest.1.1.0 in
      record {
        numbers = numbers;
        subscribers = subscribers;
        right = right;
        room = room;
        sound_table = sound_table;
        sound_list = sound_list;
        left = reading_good image table list figures right room.0 room.1 room.2 sound_table sound_list ∙ rw (numbers, subscribers);
      }

  module _ (n m : ℕ) (a : Accepted n m) where
    table_count : length (table_in image) ≡ row_words * n
    table_count = length_table image table list figures ∙ rw a.numbers

    list_count : length (list_in image) ≡ subscriber_words * m
    list_count = length_list image table list figures ∙ rw a.subscribers

    -- what stands in the lent words afterwards: at the front of each, what the image holds and the recount of it
    pub front_table : take (row_words * n) (reading_image image table list figures).table ≡ table_in image
    front_table = rw a.left (take_at (table_in image) (drop (length (table_in image)) table) (row_words * n) table_count)

    pub front_list : take (subscriber_words * m) (reading_image image table list figures).list ≡ list_in image
    front_list = rw a.left (take_at (list_in image) (drop (length (list_in image)) list) (subscriber_words * m) list_count)

    pub front_figures : take figure_count (reading_image image table list figures).figures ≡ recount (table_in image)
    unfolding recount
    front_figures = rw a.left refl

-- ---- by the answer

-- a caller of the reader, in each arm of a match
module _
    (image table list figures : List ℕ) (r : Result ImageRows Refusal) (newTable newList newFigures : List ℕ)
    (done : made_read r newTable newList newFigures ≡ reading_image image table list figures)
  where
    pub at_rows : (rows : ImageRows) → r ≡ Ok rows
        → Accepted image table list figures rows.numbers rows.subscribers × (newTable ≡ over (table_in image) table) × (newList ≡ over (list_in image) list) × (newFigures ≡ over (recount (table_in image)) figures)
    at_rows rows e =
        let a = accepted image table list figures rows.numbers rows.subscribers (sym (ap (λ (o : RestoreOutcome SaidRead). o.answer) done) ∙ ap said_read e) in
        let left = done ∙ a.left in
        (a, ap (λ (o : RestoreOutcome SaidRead). o.table) left, ap (λ (o : RestoreOutcome SaidRead). o.list) left, ap (λ (o : RestoreOutcome SaidRead). o.figures) left)

    pub at_read_refused : (n : Refusal) → r ≡ Err n → (newTable ≡ table) × (newList ≡ list) × (newFigures ≡ figures)
    unfolding reading_image
    at_read_refused n e =
        let said = sym (ap (λ (o : RestoreOutcome SaidRead). o.answer) done) ∙ ap said_read e in
        let kept =
        decide_all (λ k. leaving (refusal k) table list figures) (λ (o : RestoreOutcome SaidRead). o.answer ≡ refusal (refusal_number n) → (o.table ≡ table) × (o.list ≡ list) × (o.figures ≡ figures))
        (λ k q. (refl, refl, refl)) (reading_checks image table list figures)
        (restored (counts (table_rows image) (list_rows image)) (table_in image) (list_in image) table list figures) (λ q. not_counts (refusal_number n) _ _ (sym q)) said in
        (ap (λ (o : RestoreOutcome SaidRead). o.table) done ∙ kept.0, ap (λ (o : RestoreOutcome SaidRead). o.list) done ∙ kept.1, ap (λ (o : RestoreOutcome SaidRead). o.figures) done ∙ kept.2)

-- a caller of the writer
module _ (s : State) (list out : List ℕ) (r : Result ℕ Refusal) (new : List ℕ) (done : made_write r new ≡ writing_image s list out) where
  pub at_octets : (n : ℕ) → r ≡ Ok n
      → (state_sound s ≡ true) × (list_sound list ≡ true) × Stands (image_of s.table list) out n new
  unfolding writing_image
  at_octets n e =
      let said' = sym (ap (λ (o : WriteOutcome). o.answer) done) ∙ ap said e in
      let p =
      all_passed (λ k. refused k out) (λ (o : WriteOutcome). o.answer ≡ countSaid n) (λ k q. not_count k n q) (writing_checks s list out)
      (wrote (image_of s.table list) out) said' in
      let c = p.0 in
      let sound_list : list_sound list ≡ true = not-false _ c.0 in
      let sound_state : state_sound s ≡ true = and_both (table_sound s.table) (figures_right s) (not-false _ c.1.0) (not-false _ c.1.1.0) in
      let size : n ≡ length (image_of s.table list) = cc p.1 in
      let left = done ∙ writes s list out sound_list sound_state (ltb-false (length out) (length (image_of s.table list)) c.1.1.1.0) in
      (sound_state, sound_list, record { count = size; buffer = ap (λ (o : WriteOutcome). o.buffer) left ∙ rw size })

  pub at_write_refused : (n : Refusal) → r ≡ Err n → new ≡ out
  unfolding writing_image
  at_write_refused n e =
      let said' = sym (ap (λ (o : WriteOutcome). o.answer) done) ∙ ap said e in
      ap (λ (o : WriteOutcome). o.buffer) done
      ∙ decide_all (λ k. refused k out) (λ (o : WriteOutcome). o.answer ≡ refusalSaid (refusal_number n) → o.buffer ≡ out) (λ k q. refl) (writing_checks s list out)
      (wrote (image_of s.table list) out) (λ q. not_count (refusal_number n) _ (sym q)) said'
