-- A row and its record: each is known by the other, and a stored record leaves all else in the table. Assumes nothing.
use mathlib.Core.Path.{◌≡◌, refl, sym, ap, ◌∙◌}
use mathlib.Core.Logic.{inl, inr, ⊎_elim}
use mathlib.Core.Bool.{Bool, true, false, ◌&&◌}
use mathlib.Core.List.{List}
use Prim.Native.Nat.{ℕ, zero, suc, ◌+◌, ◌*◌, ◌/◌, ◌≤◌, ◌<◌}
use native.Mathlib.Omega.{arith}
use lib.ListN.{length, get_or, set}
use lib.Dec.{eqb}
use borrow.Author.Tests.{eqb-true}
use mir.Val.{bool_byte}
use lib.Seq.{length-sets}
use Rattle.answers.proofs.Tests.{and_left, and_right, and_three, or_cases, less_or_not}
use Rattle.numbers.specs.Numbers.{is_number, number_or_nobody}
use Rattle.records.specs.declared.Record.{Record}
use Rattle.rows.specs.Rows.{row_words, word, number_at, holder_at, phase_at, addressee_at, supervisor_at, second_at, closed_at, closed_sound, one, notice_sound, row_up_to, row_sound, phase_of, second_of, record_at, words_of, stored, sent_once, record_sound}
use Rattle.rows.proofs.Notices.{phase_back, second_back, once_back, notice_back}
use Rattle.rows.proofs.Stores.{sets_other, sets_at, sets_same}

-- ---- what a sound row and a sound record say

pub record SoundRow (t : List ℕ) (i : ℕ) : Type 0 where
  pub number : is_number (number_at t i) ≡ true
  pub holder : number_or_nobody (holder_at t i) ≡ true
  pub notice : notice_sound (phase_at t i) (addressee_at t i) (supervisor_at t i) (second_at t i) ≡ true
  pub closed : closed_sound (closed_at t i) ≡ true

pub sound_row : (t : List ℕ) (i : ℕ) → row_sound t i ≡ true → SoundRow t i
unfolding row_up_to
sound_row t i e =
    let notice = notice_sound (phase_at t i) (addressee_at t i) (supervisor_at t i) (second_at t i) in
    let w = and_three (is_number (number_at t i)) (number_or_nobody (holder_at t i)) (notice && closed_sound (closed_at t i)) e in
    record { number = w.0; holder = w.1; notice = and_left notice (closed_sound (closed_at t i)) w.2; closed = and_right notice (closed_sound (closed_at t i)) w.2 }

pub record SoundRecord (r : Record) : Type 0 where
  pub holder : number_or_nobody r.holder.0 ≡ true
  pub notice : notice_sound (phase_of r.notice) r.addressee.0 r.supervisor.0 (second_of r.notice) ≡ true
  pub once : sent_once r.notice ≡ true

pub sound_record : (r : Record) → record_sound r ≡ true → SoundRecord r
unfolding record_sound
sound_record r e =
    let w = and_three (number_or_nobody r.holder.0) (notice_sound (phase_of r.notice) r.addressee.0 r.supervisor.0 (second_of r.notice)) (sent_once r.notice) e in
    record { holder = w.0; notice = w.1; once = w.2 }

pub record_is_sound : (r : Record) → SoundRecord r → record_sound r ≡ true
unfolding record_sound
record_is_sound r s = simp (s.holder, s.notice, s.once)

-- the record of a sound row
pub record_sound_lem : (t : List ℕ) (i : ℕ) → row_sound t i ≡ true → record_sound (record_at t i) ≡ true
unfolding record_sound record_at
record_sound_lem t i e =
    let s = sound_row t i e in
    simp (s.holder, phase_back (phase_at t i) (second_at t i), second_back (phase_at t i) (addressee_at t i) (supervisor_at t i) (second_at t i) s.notice, s.notice, once_back (phase_at t i) (second_at t i))

-- ---- rows with the same words

-- row i of t has the words of row j of u, but for the number
abbrev pub SameWords : List ℕ → ℕ → List ℕ → ℕ → Type 0
SameWords t i u j = (place : ℕ) → 1 ≤ place → place < row_words → word t i place ≡ word u j place

module _ (t : List ℕ) (i : ℕ) (u : List ℕ) (j : ℕ) (same : SameWords t i u j) where
  pub same_record : record_at t i ≡ record_at u j
  unfolding record_at
  same_record =
      simp (same 1 (omega arith) (omega arith), same 2 (omega arith) (omega arith), same 3 (omega arith) (omega arith), same 4 (omega arith) (omega arith), same 5 (omega arith) (omega arith), same 6 (omega arith) (omega arith))

  pub same_row : number_at t i ≡ number_at u j → row_sound t i ≡ row_sound u j
  unfolding row_up_to
  same_row e =
      simp (e, same 1 (omega arith) (omega arith), same 2 (omega arith) (omega arith), same 3 (omega arith) (omega arith), same 4 (omega arith) (omega arith), same 5 (omega arith) (omega arith), same 6 (omega arith) (omega arith))

-- ---- the seventh word

closed_word : (w : ℕ) → closed_sound w ≡ true → one (eqb w 1) ≡ w
closed_word w s = ⊎_elim (λ z. rw (eqb-true w 0 z) refl) (λ z. rw (eqb-true w 1 z) refl) (or_cases (eqb w 0) (eqb w 1) s)

closed_back : (b : Bool) → eqb (one b) 1 ≡ b
closed_back true = refl
closed_back false = refl

closed_sound_lem : (b : Bool) → closed_sound (one b) ≡ true
closed_sound_lem true = refl
closed_sound_lem false = refl

-- ---- the words of a sound row are those of its record

words_back : (t : List ℕ) (i : ℕ) → row_sound t i ≡ true → (k : ℕ) → k < 6 → get_or (words_of (record_at t i)) k 0 ≡ get_or t (row_words * i + 1 + k) 0
unfolding record_at
words_back t i e k l = go k l
  where
    at : (place k : ℕ) → place ≡ 1 + k → word t i place ≡ get_or t (row_words * i + 1 + k) 0
    at place k q = ap (λ (j : ℕ). get_or t j 0) (omega arith)

    go : (k : ℕ) → k < 6 → get_or (words_of (record_at t i)) k 0 ≡ get_or t (row_words * i + 1 + k) 0
    go zero l = at 1 0 refl
    go (suc zero) l = phase_back (phase_at t i) (second_at t i) ∙ at 2 1 refl
    go (suc (suc zero)) l = at 3 2 refl
    go (suc (suc (suc zero))) l = at 4 3 refl
    go (suc (suc (suc (suc zero)))) l =
        second_back (phase_at t i) (addressee_at t i) (supervisor_at t i) (second_at t i) (sound_row t i e).notice ∙ at 5 4 refl
    go (suc (suc (suc (suc (suc zero))))) l = closed_word (closed_at t i) (sound_row t i e).closed ∙ at 6 5 refl
    go (suc (suc (suc (suc (suc (suc k)))))) l = absurd (omega arith)

-- encoding what was decoded gives the words
pub words_stored : (t : List ℕ) (i : ℕ) → row_sound t i ≡ true → stored t i (record_at t i) ≡ t
unfolding stored
words_stored t i e = sets_same (words_of (record_at t i)) t (row_words * i + 1) (words_back t i e)

-- two sound rows with one record have the same words
pub same_words_lem : (t : List ℕ) (i : ℕ) (u : List ℕ) (j : ℕ) → row_sound t i ≡ true → row_sound u j ≡ true → record_at t i ≡ record_at u j → SameWords t i u j
same_words_lem t i u j st su e zero l m = absurd (omega arith)
same_words_lem t i u j st su e (suc k) l m = at t i ∙ sym (words_back t i st k (omega arith)) ∙ ap (λ (r : Record). get_or (words_of r) k 0) e ∙ words_back u j su k (omega arith) ∙ sym (at u j)
  where
    at : (t : List ℕ) (i : ℕ) → word t i (suc k) ≡ get_or t (row_words * i + 1 + k) 0
    at t i = ap (λ (n : ℕ). get_or t n 0) (omega arith)

-- ---- a stored record

-- a flag as the code makes it a word
pub flag_word : (b : Bool) → bool_byte b ≡ one b
flag_word true = refl
flag_word false = refl

-- word by word, as straight-line code stores it
pub six_stores : (t : List ℕ) (i : ℕ) (r : Record) (phase second closed : ℕ) → phase ≡ phase_of r.notice → second ≡ second_of r.notice → closed ≡ one r.closed
    → set (set (set (set (set (set t (row_words * i + 1) r.holder.0) (row_words * i + 2) phase) (row_words * i + 3) r.addressee.0) (row_words * i + 4) r.supervisor.0) (row_words * i + 5) second) (row_words * i + 6) closed
    ≡ stored t i r
unfolding stored
six_stores t i r phase second closed p s c =
    let two : row_words * i + 2 ≡ suc (row_words * i + 1) = omega arith in
    let three : row_words * i + 3 ≡ suc (suc (row_words * i + 1)) = omega arith in
    let four : row_words * i + 4 ≡ suc (suc (suc (row_words * i + 1))) = omega arith in
    let five : row_words * i + 5 ≡ suc (suc (suc (suc (row_words * i + 1)))) = omega arith in
    let six : row_words * i + 6 ≡ suc (suc (suc (suc (suc (row_words * i + 1))))) = omega arith in
    rw (two, three, four, five, six, p, s, c)

module _ (t : List ℕ) (i : ℕ) (r : Record) where
  pub stored_length : length (stored t i r) ≡ length t
  unfolding stored
  stored_length = length-sets t (row_words * i + 1) (words_of r)

  pub stored_number : (j : ℕ) → number_at (stored t i r) j ≡ number_at t j
  unfolding stored
  stored_number j =
      sets_other (words_of r) t (row_words * i + 1) (row_words * j) (⊎_elim (λ l. inr (omega arith)) (λ l. inl (omega arith)) (less_or_not i j))

  pub stored_words : (j : ℕ) → (j ≡ i → ⊥) → SameWords (stored t i r) j t j
  unfolding stored
  stored_words j n place l m =
      sets_other (words_of r) t (row_words * i + 1) (row_words * j + place) (⊎_elim (λ h. inr (omega arith)) (λ h. inl (omega arith)) (less_or_not i j))

  pub record_other : (j : ℕ) → (j ≡ i → ⊥) → record_at (stored t i r) j ≡ record_at t j
  record_other j n = same_record (stored t i r) j t j (stored_words j n)

  pub row_other : (j : ℕ) → (j ≡ i → ⊥) → row_sound (stored t i r) j ≡ row_sound t j
  row_other j n = same_row (stored t i r) j t j (stored_words j n) (stored_number j)

module _ (t : List ℕ) (i : ℕ) (r : Record) (within : i < length t / row_words) where
  stored_own : (place k : ℕ) → place ≡ 1 + k → k < 6 → word (stored t i r) i place ≡ get_or (words_of r) k 0
  unfolding stored
  stored_own place k q l =
      let e : row_words * i + place ≡ row_words * i + 1 + k = omega arith in
      rw e (sets_at (words_of r) t (row_words * i + 1) k l (omega arith))

  -- decoding what was encoded gives the record
  pub record_stored : record_sound r ≡ true → record_at (stored t i r) i ≡ r
  unfolding record_at
  record_stored s =
      simp (stored_own 1 0 refl (omega arith), stored_own 2 1 refl (omega arith), stored_own 3 2 refl (omega arith), stored_own 4 3 refl (omega arith), stored_own 5 4 refl (omega arith), stored_own 6 5 refl (omega arith), closed_back r.closed, notice_back r.notice (sound_record r s).once)

  -- a sound record keeps its row sound
  pub row_stored : row_sound t i ≡ true → record_sound r ≡ true → row_sound (stored t i r) i ≡ true
  unfolding row_up_to
  row_stored e s =
      let w = sound_record r s in
      simp (stored_number t i r i, (sound_row t i e).number, stored_own 1 0 refl (omega arith), w.holder, stored_own 2 1 refl (omega arith), stored_own 3 2 refl (omega arith), stored_own 4 3 refl (omega arith), stored_own 5 4 refl (omega arith), stored_own 6 5 refl (omega arith), w.notice, closed_sound_lem r.closed)
