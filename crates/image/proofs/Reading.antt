-- What reading an image comes to in each case: what the trailer says, room, and contents. Assumes nothing.
use mathlib.Core.Path.{◌≡◌, refl, sym, ◌∙◌}
use mathlib.Core.Bool.{Bool, true, false, ◌||◌}
use mathlib.Core.List.{List, ◌++◌}
use Prim.Native.Nat.{ℕ, ◌+◌, ◌*◌, ◌≤◌, ◌<◌}
use native.Mathlib.Omega.{arith}
use lib.ListN.{length, get_or}
use lib.Dec.{ltb}
use borrow.Author.Tests.{lt-ltb, le-ltb, eq-eqb, ne_eqb, ltb-false, eqb-true, not-false}
use Rattle.answers.specs.Writing.{over}
use Rattle.answers.proofs.Tests.{or_neither}
use Rattle.answers.proofs.Decide.{AllPass, all_passed, first_refuses}
use Rattle.rows.specs.Rows.{row_words}
use Rattle.tables.specs.Tables.{most_numbers, rows_in, table_sound, subscriber_words, most_subscribers, subscribers_in, list_sound}
use Rattle.tables.specs.Figures.{figure_count, recount}
use Rattle.image.specs.Images.{word_octets, trailer_words, trailer_octets, words_from, trailer_start, table_rows, list_rows, distance, table_words, list_words, table_in, list_in, SaidRead, RestoreOutcome, leaving, trailer_checks, room_checks, contents_checks, restored, reading_image, trailer_says, restoring}
use Rattle.image.specs.Images.SaidRead.{counts, refusal}
use Rattle.image.proofs.Words.{length_words}

-- ---- what is said

pub same_refusal : (n k : ℕ) → ◌≡◌ {A = SaidRead} (refusal n) (refusal k) → n ≡ k
same_refusal n k e = cc

pub not_counts : {X : Type 0} (n a b : ℕ) → ◌≡◌ {A = SaidRead} (refusal n) (counts a b) → X
not_counts n a b e = absurd (let z : ◌≡◌ {A = ℕ} 0 1 = cc in omega arith)

-- ---- the trailer

-- the three words of the trailer
pub trailer_words_lem :
    (image ws : List ℕ) → ws ≡ words_from image (trailer_start image) trailer_words
    → (get_or ws 0 0 ≡ table_rows image) × (get_or ws 1 0 ≡ list_rows image) × (get_or ws 2 0 ≡ distance image)
unfolding words_from table_rows list_rows distance
trailer_words_lem image ws e = rw e (refl, refl, refl)

abbrev pub over_limit : List ℕ → Bool
over_limit image = ltb most_numbers (table_rows image) || ltb most_subscribers (list_rows image)

module _ (image : List ℕ) where
  pub too_short : length image < trailer_octets → refusal 30 ≡ trailer_says image
  unfolding trailer_says
  too_short h = rw (lt-ltb (length image) trailer_octets h)

  module _ (long : trailer_octets ≤ length image) where
    pub other_distance : (distance image ≡ trailer_start image → ⊥) → refusal 31 ≡ trailer_says image
    unfolding trailer_says
    other_distance n = rw (le-ltb (length image) trailer_octets long, ne_eqb (distance image) (trailer_start image) n)

    module _ (start : distance image ≡ trailer_start image) where
      pub too_many : over_limit image ≡ true → refusal 32 ≡ trailer_says image
      unfolding trailer_says
      too_many h = rw (le-ltb (length image) trailer_octets long, eq-eqb (distance image) (trailer_start image) start, h)

      module _ (few : over_limit image ≡ false) where
        pub not_filled : (word_octets * (table_words image + list_words image) ≡ distance image → ⊥) → refusal 34 ≡ trailer_says image
        unfolding trailer_says
        not_filled n =
            rw (le-ltb (length image) trailer_octets long, eq-eqb (distance image) (trailer_start image) start, few, ne_eqb (word_octets * (table_words image + list_words image)) (distance image) n)

        pub all_right : word_octets * (table_words image + list_words image) ≡ distance image → counts (table_rows image) (list_rows image) ≡ trailer_says image
        unfolding trailer_says
        all_right e =
            rw (le-ltb (length image) trailer_octets long, eq-eqb (distance image) (trailer_start image) start, few, eq-eqb (word_octets * (table_words image + list_words image)) (distance image) e)

-- what a right trailer says
pub record Right (image : List ℕ) : Type 0 where
  pub long : trailer_octets ≤ length image
  pub start : distance image ≡ trailer_start image
  pub numbers : table_rows image ≤ most_numbers
  pub subscribers : list_rows image ≤ most_subscribers
  pub fills : word_octets * (table_words image + list_words image) ≡ distance image

pub right_by : (image : List ℕ) → AllPass (trailer_checks image) → Right image
right_by image p =
    let few = or_neither (ltb most_numbers (table_rows image)) (ltb most_subscribers (list_rows image)) p.1.1.0 in
    record {
      long = ltb-false (length image) trailer_octets p.0;
      start = eqb-true (distance image) (trailer_start image) (not-false _ p.1.0);
      numbers = ltb-false most_numbers (table_rows image) few.0;
      subscribers = ltb-false most_subscribers (list_rows image) few.1;
      fills = eqb-true (word_octets * (table_words image + list_words image)) (distance image) (not-false _ p.1.1.1.0);
    }

-- the rows and the trailer are the whole image
pub right_length : (image : List ℕ) → Right image → word_octets * (table_words image + list_words image) + trailer_octets ≡ length image
right_length image r = omega (arith, r.long, r.start, r.fills)

pub record Counted (image : List ℕ) (n m : ℕ) : Type 0 where
  pub numbers : n ≡ table_rows image
  pub subscribers : m ≡ list_rows image
  pub right : Right image
  pub passed : AllPass (trailer_checks image)

pub counted : (image : List ℕ) (n m : ℕ) → counts n m ≡ trailer_says image → Counted image n m
unfolding trailer_says
counted image n m e =
    let p = all_passed refusal (λ a. counts n m ≡ a) (λ k q. not_counts k n m (sym q)) (trailer_checks image) (counts (table_rows image) (list_rows image)) e in
    record { numbers = cc p.1; subscribers = cc p.1; right = right_by image p.0; passed = p.0 }

-- ---- what an image holds, by the counts

pub table_by : (image : List ℕ) (n : ℕ) → n ≡ table_rows image → words_from image 0 (row_words * n) ≡ table_in image
unfolding table_in
table_by image n e = rw e

pub list_by : (image : List ℕ) (n m : ℕ) → n ≡ table_rows image → m ≡ list_rows image → words_from image (word_octets * (row_words * n)) (subscriber_words * m) ≡ list_in image
unfolding list_in
list_by image n m e f = rw (e, f)

-- ---- room

module _ (a b c d e f : ℕ) where
  pub enough_room : (ltb a b || ltb c d || ltb e f) ≡ false → (b ≤ a) × (d ≤ c) × (f ≤ e)
  enough_room h =
      let w = or_neither (ltb a b || ltb c d) (ltb e f) h in
      let v = or_neither (ltb a b) (ltb c d) w.0 in
      (ltb-false a b v.0, ltb-false c d v.1, ltb-false e f w.1)

-- ---- the whole

module _ (image table list figures : List ℕ) where
  -- refused by the trailer
  pub reading_refused : (n : ℕ) → refusal n ≡ trailer_says image → leaving (refusal n) table list figures ≡ reading_image image table list figures
  unfolding trailer_says reading_image
  reading_refused n e =
      first_refuses refusal (λ k. leaving (refusal k) table list figures) n (same_refusal n) (trailer_checks image) (counts (table_rows image) (list_rows image)) (not_counts n _ _) e
      (room_checks image table list figures ++ contents_checks (table_in image) (list_in image))
      (restored (counts (table_rows image) (list_rows image)) (table_in image) (list_in image) table list figures)

  -- the words of so many rows
  pub length_table : length (table_in image) ≡ table_words image
  unfolding table_in
  length_table = length_words image 0 (table_words image)

  pub length_list : length (list_in image) ≡ list_words image
  unfolding list_in
  length_list = length_words image (word_octets * table_words image) (list_words image)

  -- counted by the trailer; the tests by the counts, as the code has them
  module _ (n m : ℕ) (k : Counted image n m) where
    pub reading_room :
        (ltb (length table) (row_words * n) || ltb (length list) (subscriber_words * m) || ltb (length figures) figure_count) ≡ true
        → leaving (refusal 33) table list figures ≡ reading_image image table list figures
    unfolding reading_image
    reading_room h = let p = k.passed in rw (p.0, p.1.0, p.1.1.0, p.1.1.1.0, ← k.numbers, ← k.subscribers, h)

    pub reading_rest :
        (rows others : List ℕ) → rows ≡ table_in image → others ≡ list_in image
        → (ltb (length table) (row_words * n) || ltb (length list) (subscriber_words * m) || ltb (length figures) figure_count) ≡ false → (o : RestoreOutcome SaidRead)
        → o ≡ restoring rows others table list figures → o ≡ reading_image image table list figures
    unfolding reading_image restoring
    reading_rest rows others a b h o e =
        let p = k.passed in
        let numbers : rows_in (table_in image) ≡ table_rows image = rw length_table (omega arith) in
        let subscribers : subscribers_in (list_in image) ≡ list_rows image = rw length_list (omega arith) in
        e ∙ rw (a, b, p.0, p.1.0, p.1.1.0, p.1.1.1.0, numbers, subscribers, ← k.numbers, ← k.subscribers, h)

  -- nothing is wrong with it
  pub reading_good :
      Right image → table_words image ≤ length table → list_words image ≤ length list → figure_count ≤ length figures → table_sound (table_in image) ≡ true
      → list_sound (list_in image) ≡ true
      → reading_image image table list figures ≡ restored (counts (table_rows image) (list_rows image)) (table_in image) (list_in image) table list figures
  unfolding reading_image
  reading_good r a b c t l =
      rw
      (le-ltb (length image) trailer_octets r.long, eq-eqb (distance image) (trailer_start image) r.start, le-ltb most_numbers (table_rows image) r.numbers, le-ltb most_subscribers (list_rows image) r.subscribers, eq-eqb (word_octets * (table_words image + list_words image)) (distance image) r.fills, le-ltb (length table) (table_words image) a, le-ltb (length list) (list_words image) b, le-ltb (length figures) figure_count c, t, l)

-- ---- contents

module _ (rows subscribers table list figures : List ℕ) where
  pub unsound_table : table_sound rows ≡ false → leaving (refusal 2) table list figures ≡ restoring rows subscribers table list figures
  unfolding restoring
  unsound_table t = rw t

  module _ (t : table_sound rows ≡ true) where
    pub unsound_list : list_sound subscribers ≡ false → leaving (refusal 8) table list figures ≡ restoring rows subscribers table list figures
    unfolding restoring
    unsound_list l = rw (t, l)

    -- as the code has it
    pub sound_contents :
        list_sound subscribers ≡ true → (figure_words newTable newList newFigures : List ℕ) → recount rows ≡ figure_words
        → newTable ≡ over rows table → newList ≡ over subscribers list → newFigures ≡ over figure_words figures
        → leaving (counts (rows_in rows) (subscribers_in subscribers)) newTable newList newFigures ≡ restoring rows subscribers table list figures
    unfolding restoring
    sound_contents l figure_words newTable newList newFigures f a b c = rw (t, l, f, a, b, c)
