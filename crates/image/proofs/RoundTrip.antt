-- The theorems about images: what was written is read back, what was read is written back byte for byte, an image has one reading and contents have one image, and what is restored is sound. Assumes nothing.
use mathlib.Core.Path.{◌≡◌, refl, sym, ap, ◌∙◌}
use mathlib.Core.Bool.{true}
use mathlib.Core.List.{List, [], ◌∷◌, ◌++◌, append_assoc, append-nil}
use Prim.Native.Nat.{ℕ, zero, suc, ◌+◌, ◌*◌, ◌^◌, ◌≤◌}
use native.Mathlib.Omega.{arith}
use lib.ListN.{length, take, length-append}
use lib.Seq.{take_all}
use Rattle.answers.specs.Writing.{Said, made_write, over, wrote}
use Rattle.answers.proofs.Parts.{stands_front}
use Rattle.bases.proofs.Digits.{Below}
use Rattle.rows.specs.Rows.{row_words}
use Rattle.tables.specs.Tables.{rows_in, table_sound, subscriber_words, subscribers_in, list_sound}
use Rattle.tables.specs.Figures.{figure_count}
use Rattle.tables.proofs.Sound.{table_whole, table_few, list_whole, list_few}
use Rattle.tables.proofs.Fits.{table_fits, list_fits}
use Rattle.states.specs.States.{State, beside, counted, state_sound}
use Rattle.states.proofs.States.{sound_state_lem, counted_sound}
use Rattle.std.specs.Prelude.{Ok}
use Rattle.image.specs.Images.{word_octets, octets_of, trailer_words, trailer_of, image_of, words_from, trailer_start, table_rows, list_rows, distance, table_words, list_words, table_in, list_in, writing_image, leaving, reading_image}
use Rattle.image.specs.Images.SaidRead.{counts}
use Rattle.image.proofs.Words.{length_octets_lem, words_append, words_octets, octets_words}
use Rattle.image.proofs.Images.{length_trailer, image_parts, length_image}
use Rattle.image.proofs.Writing.{size_fits, writes}
use Rattle.image.proofs.Reading.{trailer_words_lem, Right, right_length, length_table, length_list, reading_good}
use Rattle.image.proofs.Accepted.{Accepted, accepted, at_octets, front_table, front_list, front_figures}

-- ---- what an image of sound contents holds

module _ (table list : List ℕ) (t : table_sound table ≡ true) (l : list_sound list ≡ true) where
  trailer_fits : Below (2 ^ 64) (trailer_of table list)
  unfolding trailer_of
  trailer_fits zero = omega (arith, table_few table t)
  trailer_fits (suc zero) = omega (arith, list_few list l)
  trailer_fits (suc (suc zero)) = omega (arith, size_fits table list t l)
  trailer_fits (suc (suc (suc k))) = omega arith

  start_is : trailer_start (image_of table list) ≡ word_octets * (length table + length list)
  start_is = omega (arith, length_image table list)

  trailer_back : words_from (image_of table list) (trailer_start (image_of table list)) trailer_words ≡ trailer_of table list
  trailer_back =
      rw (← length_trailer table list)
      (words_octets (trailer_of table list) trailer_fits (octets_of table ++ octets_of list) [] (image_of table list) (trailer_start (image_of table list))
      (image_parts table list ∙ ap (λ (x : List ℕ). octets_of table ++ octets_of list ++ x) (sym (append-nil (octets_of (trailer_of table list)))))
      (simp (length-append, length_octets_lem) (omega (arith, start_is))))

  trailer_says_lem :
      (table_rows (image_of table list) ≡ rows_in table) × (list_rows (image_of table list) ≡ subscribers_in list)
      × (distance (image_of table list) ≡ word_octets * (length table + length list))
  unfolding trailer_of
  trailer_says_lem =
      let w = trailer_words_lem (image_of table list) (trailer_of table list) (sym trailer_back) in
      (sym w.0, sym w.1, sym w.2)

  table_size : table_words (image_of table list) ≡ length table
  table_size = omega (arith, trailer_says_lem.0, table_whole table t)

  list_size : list_words (image_of table list) ≡ length list
  list_size = omega (arith, trailer_says_lem.1, list_whole list l)

  pub table_back : table_in (image_of table list) ≡ table
  unfolding table_in
  table_back =
      rw table_size
      (words_octets table (table_fits table t) [] (octets_of list ++ octets_of (trailer_of table list)) (image_of table list) 0
      (image_parts table list ∙ append_assoc (octets_of table) (octets_of list) (octets_of (trailer_of table list))) refl)

  pub list_back : list_in (image_of table list) ≡ list
  unfolding list_in
  list_back =
      rw (table_size, list_size)
      (words_octets list (list_fits list l) (octets_of table) (octets_of (trailer_of table list)) (image_of table list) (word_octets * length table)
      (image_parts table list ∙ append_assoc (octets_of table) (octets_of list) (octets_of (trailer_of table list))) (length_octets_lem table))

  image_right : Right (image_of table list)
  image_right = record {
    long = omega (arith, length_image table list);
    start = omega (arith, start_is, trailer_says_lem.2);
    numbers = omega (arith, trailer_says_lem.0, table_few table t);
    subscribers = omega (arith, trailer_says_lem.1, list_few list l);
    fills = omega (arith, table_size, list_size, trailer_says_lem.2);
  }

-- Reading what was written gives table, list and figures back: for sound contents with right figures, and room for them. Soundness alone bounds the words.
pub read_written :
    (s : State) (list : List ℕ) → state_sound s ≡ true → list_sound list ≡ true → (t l f : List ℕ) → length s.table ≤ length t → length list ≤ length l
    → figure_count ≤ length f
    → reading_image (image_of s.table list) t l f ≡ leaving (counts (rows_in s.table) (subscribers_in list)) (over s.table t) (over list l) (over s.figures f)
read_written s list sound sound_list t l f a b c =
    let table = s.table in
    let state = sound_state_lem s sound in
    let st = state.table in
    let says = trailer_says_lem table list st sound_list in
    let image = image_of table list in
    reading_good image t l f (image_right table list st sound_list) (rw (table_size table list st sound_list) a) (rw (list_size table list st sound_list) b) c
    (rw (table_back table list st sound_list) st) (rw (list_back table list st sound_list) sound_list)
    ∙ rw (says.0, says.1, table_back table list st sound_list, list_back table list st sound_list, state.figures)

-- Of the calls: what a writing that succeeded left at the front of its buffer is read so.
pub reading_written :
    (s : State) (list out : List ℕ) (n : ℕ) → (writing_image s list out).answer ≡ Said.count n → (t l f : List ℕ) → length s.table ≤ length t → length list ≤ length l
    → figure_count ≤ length f
    → reading_image (take n (writing_image s list out).buffer) t l f
    ≡ leaving (counts (rows_in s.table) (subscribers_in list)) (over s.table t) (over list l) (over s.figures f)
reading_written s list out n says t l f a b c =
    let done : made_write (Ok n) (writing_image s list out).buffer ≡ writing_image s list out = ap (λ (x : Said). record { answer = x; buffer = (writing_image s list out).buffer }) (sym says) in
    let (sound, sound_list, stands) = at_octets s list out (Ok n) (writing_image s list out).buffer done n refl in
    ap (λ (i : List ℕ). reading_image i t l f) (stands_front stands) ∙ read_written s list sound sound_list t l f a b c

-- ---- an accepted image

-- the trailer's words, in their order
trailer_in : (image : List ℕ) → words_from image (trailer_start image) trailer_words ≡ table_rows image ∷ list_rows image ∷ distance image ∷ []
unfolding words_from table_rows list_rows distance
trailer_in image = refl

-- the rows and the trailer, one behind the other
rows_in_lem :
    (image : List ℕ) (words entries start : ℕ) → start ≡ word_octets * (words + entries)
    → words_from image 0 (words + entries + trailer_words)
    ≡ words_from image 0 words ++ words_from image (word_octets * words) entries ++ words_from image start trailer_words
rows_in_lem image words entries start e =
    let none : 0 + word_octets * words ≡ word_octets * words = omega arith in
    let from : 0 + word_octets * (words + entries) ≡ start = omega arith in
    words_append image 0 (words + entries) trailer_words ∙ rw (words_append image 0 words entries, none, from)

contents_in :
    (image : List ℕ) (start : ℕ) → start ≡ word_octets * (table_words image + list_words image)
    → table_in image ++ list_in image ++ words_from image start trailer_words ≡ words_from image 0 (table_words image + list_words image + trailer_words)
unfolding table_in list_in
contents_in image start e = sym (rows_in_lem image (table_words image) (list_words image) start e)

module _ (image t l f : List ℕ) (n m : ℕ) (says : (reading_image image t l f).answer ≡ counts n m) where
  known : Accepted image t l f n m
  known = accepted image t l f n m says

  -- its trailer is that of what it holds
  trailer_own : trailer_of (table_in image) (list_in image) ≡ words_from image (trailer_start image) trailer_words
  unfolding trailer_of
  trailer_own =
      let words = length_table image t l f in
      let entries = length_list image t l f in
      let numbers : rows_in (table_in image) ≡ table_rows image = rw words (omega arith) in
      let subscribers : subscribers_in (list_in image) ≡ list_rows image = rw entries (omega arith) in
      let back : word_octets * (length (table_in image) + length (list_in image)) ≡ distance image = rw (words, entries) known.right.fills in
      rw (numbers, subscribers, back) (sym (trailer_in image))

  -- Writing what was read gives the image back, byte for byte.
  pub written_read : Below 256 image → image_of (table_in image) (list_in image) ≡ image
  unfolding image_of
  written_read octets =
      let size = table_words image + list_words image + trailer_words in
      let r = known.right in
      let whole : word_octets * size ≡ length image = omega (arith, right_length image r) in
      let start : trailer_start image ≡ word_octets * (table_words image + list_words image) = omega (arith, r.start, r.fills) in
      rw trailer_own
      (ap octets_of (contents_in image (trailer_start image) start)
      ∙ octets_words image octets 0 size (omega arith)
      ∙ take_all (word_octets * size) image (omega arith))

  pub writing_read : Below 256 image → (out : List ℕ) → length image ≤ length out → writing_image (counted (table_in image)) (list_in image) out ≡ wrote image out
  writing_read octets out h =
      let e = written_read octets in
      writes (counted (table_in image)) (list_in image) out known.sound_list (counted_sound (table_in image) known.sound_table) (rw e h)
      ∙ ap (λ (i : List ℕ). wrote i out) e

  -- What an accepted image holds is sound.
  pub held_sound : (state_sound (counted (table_in image)) ≡ true) × (list_sound (list_in image) ≡ true)
  held_sound = (counted_sound (table_in image) known.sound_table, known.sound_list)

  -- At the front of the lent words it leaves that table with its recount, and that list.
  pub restored_state :
      let o = reading_image image t l f in
      (beside (take (row_words * n) o.table) (take figure_count o.figures) ≡ counted (table_in image)) × (take (subscriber_words * m) o.list ≡ list_in image)
  restored_state = (rw (front_table image t l f n m known, front_figures image t l f n m known), front_list image t l f n m known)

  -- So what is restored is sound, and its figures are right.
  pub restored_sound :
      let o = reading_image image t l f in
      (state_sound (beside (take (row_words * n) o.table) (take figure_count o.figures)) ≡ true) × (list_sound (take (subscriber_words * m) o.list) ≡ true)
  restored_sound = (ap state_sound restored_state.0 ∙ held_sound.0, ap list_sound restored_state.1 ∙ held_sound.1)

  -- Of the calls: writing what a reading left gives the image back.
  pub writing_left : Below 256 image → (out : List ℕ) → length image ≤ length out
      → let o = reading_image image t l f in
      writing_image (beside (take (row_words * n) o.table) (take figure_count o.figures)) (take (subscriber_words * m) o.list) out ≡ wrote image out
  writing_left octets out h = rw (restored_state.0, restored_state.1) (writing_read octets out h)

-- Contents have one image.
pub one_image :
    (image t l f : List ℕ) (n m : ℕ) → (reading_image image t l f).answer ≡ counts n m → Below 256 image
    → (other t' l' f' : List ℕ) (n' m' : ℕ) → (reading_image other t' l' f').answer ≡ counts n' m' → Below 256 other
    → table_in image ≡ table_in other → list_in image ≡ list_in other → image ≡ other
one_image image t l f n m says octets other t' l' f' n' m' says' octets' a b =
    sym (written_read image t l f n m says octets) ∙ rw (a, b) (written_read other t' l' f' n' m' says' octets')

-- An image has one reading: of any lent words that are large enough, the counts, and what stands at the front of each, are the same.
pub one_reading :
    (image t l f : List ℕ) (n m : ℕ) → (reading_image image t l f).answer ≡ counts n m
    → (t' l' f' : List ℕ) (n' m' : ℕ) → (reading_image image t' l' f').answer ≡ counts n' m'
    → let o = reading_image image t l f in
    let o' = reading_image image t' l' f' in
    (n ≡ n') × (m ≡ m') × (take (row_words * n) o.table ≡ take (row_words * n') o'.table)
    × (take (subscriber_words * m) o.list ≡ take (subscriber_words * m') o'.list) × (take figure_count o.figures ≡ take figure_count o'.figures)
one_reading image t l f n m says t' l' f' n' m' says' =
    let a = accepted image t l f n m says in
    let b = accepted image t' l' f' n' m' says' in (
      a.numbers ∙ sym b.numbers,
      a.subscribers ∙ sym b.subscribers,
      front_table image t l f n m a ∙ sym (front_table image t' l' f' n' m' b),
      front_list image t l f n m a ∙ sym (front_list image t' l' f' n' m' b),
      front_figures image t l f n m a ∙ sym (front_figures image t' l' f' n' m' b),
    )
