-- The loop of `remove`, for any test: the kept of the rows passed stand in front, and what is not yet written over is as it was. Assumes nothing.
use mathlib.Core.Path.{◌≡◌, refl, sym, ap, ◌∙◌}
use mathlib.Core.Bool.{Bool, true, false, cond}
use mathlib.Core.List.{List, [], ◌∷◌, ◌++◌, append_assoc, append-nil}
use Prim.Native.Nat.{ℕ, suc, ◌+◌, ◌-◌, ◌*◌, ◌≤◌}
use native.Mathlib.Numerals.{add-one}
use native.Mathlib.Omega.{arith}
use lib.ListN.{length, take, drop, replicate, length-append, length-replicate}
use lib.Seq.{sets, length-sets, take_at, drop_at, drop-drop}
use borrow.Rule.Slice.PartMut.{mid_of, put_mid, same_len_mid, mid_len, Post-is}
use Rattle.answers.specs.Joined.{joined}
use Rattle.rows.specs.Rows.{row_words, row, listed}
use Rattle.rows.proofs.Seven.{row_listed}
use Rattle.timetable.specs.Moving.{rows_of, kept_by, goes, stay, compacted}
use Rattle.timetable.proofs.Rows.{sets_seam, joined_append, Whole, whole_none, whole_more, joined_length, row_length, rows_whole, length_rows}

-- the kept of the first n rows
abbrev pub kept_of : (List ℕ → Bool) → ℕ → List ℕ → List (List ℕ)
kept_of test n t = kept_by test (rows_of n t)

-- the kept rows, then zeros up to the old end, then what was behind
abbrev pub compacted_by : (List ℕ → Bool) → ℕ → List ℕ → List ℕ
compacted_by test used t = joined (kept_of test used t) ++ replicate (row_words * (used - length (kept_of test used t))) 0 ++ drop (row_words * used) t

pub compacted_by_lem : (used : ℕ) (t : List ℕ) → compacted used t ≡ compacted_by goes used t
unfolding compacted
compacted_by_lem used t = refl

module _ (test : List ℕ → Bool) where
  cond_append : (b : Bool) (r : List ℕ) (s u : List (List ℕ)) → cond b (s ++ u) (r ∷ (s ++ u)) ≡ cond b s (r ∷ s) ++ u
  cond_append true r s u = refl
  cond_append false r s u = refl

  pub kept_append : (a b : List (List ℕ)) → kept_by test (a ++ b) ≡ kept_by test a ++ kept_by test b
  kept_append [] b = refl
  kept_append (r ∷ a) b = rw (kept_append a b) (cond_append (test r) r (kept_by test a) (kept_by test b))

  whole_cond : (b : Bool) (r : List ℕ) (rs : List (List ℕ)) → length r ≡ row_words → Whole rs → Whole (cond b rs (r ∷ rs))
  whole_cond true r rs e w = w
  whole_cond false r rs e w = whole_more e w

  pub whole_kept : {rs : List (List ℕ)} → Whole rs → Whole (kept_by test rs)
  whole_kept whole_none = whole_none
  whole_kept {rs = r ∷ rs} (whole_more e w) = whole_cond (test r) r (kept_by test rs) e (whole_kept w)

  pub kept_out : (t : List ℕ) (i : ℕ) → test (row t i) ≡ true → kept_of test (i + 1) t ≡ kept_of test i t
  kept_out t i e = rw add-one (kept_append (rows_of i t) (row t i ∷ []) ∙ rw (e, append-nil))

  pub kept_in : (t : List ℕ) (i : ℕ) → test (row t i) ≡ false → kept_of test (i + 1) t ≡ kept_of test i t ++ (row t i ∷ [])
  kept_in t i e = rw add-one (kept_append (rows_of i t) (row t i ∷ []) ∙ rw e)

  pub length_kept : (rs : List (List ℕ)) → length (kept_by test rs) ≤ length rs
  length_kept [] = omega arith
  length_kept (r ∷ rs) = go (test r) (length_kept rs)
    where
      go : (b : Bool) → length (kept_by test rs) ≤ length rs → length (cond b (kept_by test rs) (r ∷ kept_by test rs)) ≤ suc (length rs)
      go true h = omega arith
      go false h = omega arith

  -- after i rows `count` are kept
  pub record Packed (t : List ℕ) (i : ℕ) (words : List ℕ) (count : ℕ) : Type 0 where
    pub counted : count ≡ length (kept_of test i t)
    pub within : count ≤ i
    pub long : length words ≡ length t
    pub are : words ≡ joined (kept_of test i t) ++ drop (row_words * count) t

  module _ (t : List ℕ) (i : ℕ) (words : List ℕ) (count : ℕ) (fits : row_words * i ≤ length t) (p : Packed t i words count) where
    front : length (joined (kept_of test i t)) ≡ row_words * count
    front = joined_length (whole_kept (rows_whole i t fits)) ∙ ap (λ (n : ℕ). row_words * n) (sym p.counted)

    -- what lies from row i on is as it was
    pub packed_behind : drop (row_words * i) words ≡ drop (row_words * i) t
    packed_behind =
        let e : row_words * i ≡ row_words * count + (row_words * i - row_words * count) = let w = p.within in omega arith in
        rw (p.are, e, ← drop-drop (row_words * i - row_words * count) (row_words * count) (joined (kept_of test i t) ++ drop (row_words * count) t), drop_at _ _ _ front, drop-drop)

    module _ (more : row_words * (i + 1) ≤ length t) where
      pub packed_row : listed words i ≡ row t i
      packed_row = row_listed words i (let l = p.long in omega arith) ∙ ap (take row_words) packed_behind

      pub packed_out : test (row t i) ≡ true → Packed t (i + 1) words count
      packed_out e = record {
        counted = p.counted ∙ ap length (sym (kept_out t i e));
        within = let w = p.within in omega arith;
        long = p.long;
        are = rw (kept_out t i e) p.are;
      }

      pub packed_in : test (row t i) ≡ false → Packed t (i + 1) (sets words (row_words * count) (row t i)) (count + 1)
      packed_in e = record {
        counted = rw (kept_in t i e, length-append, ← p.counted);
        within = let w = p.within in omega arith;
        long = length-sets words (row_words * count) (row t i) ∙ p.long;
        are =
            let next : row_words * (count + 1) ≡ row_words * count + row_words = omega arith in
            let w = p.within in
            rw p.are
            (sets_seam (joined (kept_of test i t)) t (row t i) (row_words * count) front (rw (row_length t i more) (omega arith))
            ∙ rw (row_length t i more, kept_in t i e, joined_append, append-nil, next));
      }

    -- the words from the kept rows up to the old end set to 0
    module _ (ys : List ℕ) (zeros : ys ≡ replicate (length (mid_of (row_words * count) (row_words * i - row_words * count) words)) 0) where
      pub packed_long : length (put_mid (row_words * count) (row_words * i - row_words * count) words ys) ≡ length t
      packed_long =
          same_len_mid (row_words * count) (row_words * i - row_words * count) words ys (ap length zeros ∙ length-replicate (length (mid_of (row_words * count) (row_words * i - row_words * count) words)) 0)
          ∙ p.long

      pub packed_end : put_mid (row_words * count) (row_words * i - row_words * count) words ys ≡ compacted_by test i t
      packed_end =
          let w = p.within in
          let l = p.long in
          let freed : row_words * i - row_words * count ≡ row_words * (i - length (kept_of test i t)) = let k = p.counted in omega arith in
          let before : take (row_words * count) words ≡ joined (kept_of test i t) = rw p.are (take_at _ _ _ front) in
          rw (zeros, mid_len (row_words * count) (row_words * i) words (omega arith), Post-is (row_words * count) (row_words * i) words (omega arith), packed_behind, before, freed, append_assoc)

pub stay_few : (used : ℕ) (t : List ℕ) → length (stay used t) ≤ used
stay_few used t = omega (arith, length_kept goes (rows_of used t), length_rows used t)
