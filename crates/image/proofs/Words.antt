-- Words and their octets: how many, one more, one behind the other, and from the words to the octets and back. Assumes nothing.
use mathlib.Core.Path.{◌≡◌, refl, sym, ap, ◌∙◌}
use mathlib.Core.List.{List, [], ◌∷◌, ◌++◌, append_assoc, append-nil}
use Prim.Native.Nat.{ℕ, zero, suc, ◌+◌, ◌-◌, ◌*◌, ◌^◌, ◌≤◌, ◌<◌}
use native.Mathlib.Nat.{mul-zero, add-zero, zero-add, suc-add}
use native.Mathlib.Numerals.{add-one}
use native.Mathlib.Omega.{arith}
use lib.ListN.{length, get_or, set, take, drop, length-append, length-drop, drop_of_length-le}
use lib.Seq.{set_at, append_snoc, take-suc, take_all, take_at, take-add, drop_at, drop-cons, drop-drop, get_or-drop, length-take-le}
use borrow.Rule.Slice.PartMut.{put_mid}
use Rattle.answers.specs.Writing.{Stands}
use Rattle.answers.proofs.Parts.{stands_front, stands_rest}
use Rattle.packing.specs.Packing.{value_of, digits}
use Rattle.bases.proofs.Groups.{from}
use Rattle.bases.proofs.Digits.{Below, Below-take, length_digits, digits_number, number_digits}
use Rattle.image.specs.Images.{word_octets, octets_of, word_at, words_from}

-- ---- how many

pub length_octets_lem : (ws : List ℕ) → length (octets_of ws) ≡ word_octets * length ws
unfolding octets_of
length_octets_lem [] = refl
length_octets_lem (w ∷ ws) = simp (length-append, length_digits, length_octets_lem ws) (omega arith)

pub length_words : (os : List ℕ) (start n : ℕ) → length (words_from os start n) ≡ n
unfolding words_from
length_words os start zero = refl
length_words os start (suc n) = ap suc (length_words os (start + word_octets) n)

-- ---- one behind the other, and one more

pub octets_append : (vs ws : List ℕ) → octets_of (vs ++ ws) ≡ octets_of vs ++ octets_of ws
unfolding octets_of
octets_append [] ws = refl
octets_append (v ∷ vs) ws = rw (octets_append vs ws) (sym (append_assoc (digits 256 word_octets v) (octets_of vs) (octets_of ws)))

octets_more : (ws : List ℕ) (i : ℕ) → i < length ws → octets_of (take (i + 1) ws) ≡ octets_of (take i ws) ++ digits 256 word_octets (get_or ws i 0)
unfolding octets_of
octets_more ws i h = rw (add-one, take-suc ws i 0 h) (octets_append (take i ws) (get_or ws i 0 ∷ []) ∙ rw append-nil)

pub words_append : (os : List ℕ) (start n m : ℕ) → words_from os start (n + m) ≡ words_from os start n ++ words_from os (start + word_octets * n) m
unfolding words_from
words_append os start zero m = simp (zero-add, mul-zero, add-zero)
words_append os start (suc n) m =
    let e : start + word_octets + word_octets * n ≡ start + word_octets * suc n = omega arith in
    rw suc-add (ap (λ (l : List ℕ). word_at os start ∷ l) (words_append os (start + word_octets) n m ∙ rw e))

-- the word at i
pub word_of : (os : List ℕ) (start n i : ℕ) → i < n → get_or (words_from os start n) i 0 ≡ word_at os (start + word_octets * i)
unfolding words_from
word_of os start zero i h = absurd (omega arith)
word_of os start (suc n) zero h = ap (word_at os) (omega arith)
word_of os start (suc n) (suc i) h = word_of os (start + word_octets) n i (omega arith) ∙ ap (word_at os) (omega arith)

-- ---- written one after the other

pub stored_none : (ws old : List ℕ) → Stands (octets_of (take 0 ws)) old 0 old
unfolding octets_of
stored_none ws old = record { count = refl; buffer = refl }

-- the octets of i words stand at the front, and those of the next are put behind them
pub stored_more :
    (ws old mid part : List ℕ) (i : ℕ) → i < length ws → word_octets * length ws ≤ length old → length mid ≡ length old → Stands (octets_of (take i ws)) old (word_octets * i) mid
    → part ≡ digits 256 word_octets (get_or ws i 0) ++ drop word_octets (take (length mid - word_octets * i) (drop (word_octets * i) mid))
    → Stands (octets_of (take (i + 1) ws)) old (word_octets * (i + 1)) (put_mid (word_octets * i) (length mid - word_octets * i) mid part)
stored_more ws old mid part i h room same s e =
    let at = word_octets * i in
    let next : word_octets * (i + 1) ≡ at + word_octets = omega arith in
    let word = digits 256 word_octets (get_or ws i 0) in
    let back : drop at mid ≡ drop at old = stands_rest s in
    let all : take (length mid - at) (drop at mid) ≡ drop at old = rw (back, same) (take_all (length old - at) (drop at old) (simp length-drop (omega arith))) in
    let none : drop (length mid - at) (drop at mid) ≡ [] = rw (back, same) (drop_of_length-le (drop at old) {i = length old - at} (simp length-drop (omega arith))) in
    record {
      count = rw (octets_more ws i h) (simp (length-append, length_digits) (omega (arith, s.count)));
      buffer = rw (next, e, all, none, stands_front s, octets_more ws i h) (simp (append_assoc, append-nil, drop-drop));
    }

pub stored_done : (ws old new : List ℕ) (i at : ℕ) → i ≤ length ws → length ws ≤ i → Stands (octets_of (take i ws)) old at new → Stands (octets_of ws) old at new
stored_done ws old new i at h k s = rw (take_all i ws k) at s

-- words set one after the other over the front of others
front_more :
    (ws old new : List ℕ) (i w : ℕ) → i < length ws → i < length old → w ≡ get_or ws i 0 → new ≡ take i ws ++ drop i old
    → set new i w ≡ take (i + 1) ws ++ drop (i + 1) old
front_more ws old new i w h room e so_far =
    rw (add-one, so_far, drop-cons old i 0 room, e)
    (set_at (take i ws) (get_or old i 0) (drop (suc i) old) (get_or ws i 0) i (length-take-le i ws (omega arith))
    ∙ sym (append_snoc (take i ws) (get_or ws i 0) (drop (suc i) old))
    ∙ ap (λ (l : List ℕ). l ++ drop (suc i) old) (sym (take-suc ws i 0 h)))

-- the same of words that are read from octets, which fill them
pub loaded_more :
    (os : List ℕ) (start : ℕ) (old new : List ℕ) (i w : ℕ) → i < length old
    → w ≡ value_of 256 (take word_octets (take (length os - (start + word_octets * i)) (drop (start + word_octets * i) os))) → new ≡ take i (words_from os start (length old)) ++ drop i old
    → set new i w ≡ take (i + 1) (words_from os start (length old)) ++ drop (i + 1) old
unfolding word_at
loaded_more os start old new i w h e so_far =
    let at = start + word_octets * i in
    let here : w ≡ get_or (words_from os start (length old)) i 0 = e ∙ rw (from at os) (sym (word_of os start (length old) i h)) in
    front_more (words_from os start (length old)) old new i w (rw length_words h) h here so_far

pub loaded_done :
    (os : List ℕ) (start : ℕ) (old new : List ℕ) (i : ℕ) → i ≤ length old → length old ≤ i → new ≡ take i (words_from os start (length old)) ++ drop i old
    → new ≡ words_from os start (length old)
loaded_done os start old new i h k so_far =
    so_far ∙ rw (take_all i (words_from os start (length old)) (rw length_words k), drop_of_length-le old {i = i} k) (append-nil (words_from os start (length old)))

-- the same in the front of an array that has room for more
module _ (os : List ℕ) (start words : ℕ) (room last : List ℕ) (h : words ≤ length room) (e : last ≡ words_from os start (length (take words room))) where
  last_length : length last ≡ words
  last_length = rw e (length_words os start (length (take words room)) ∙ length-take-le words room h)

  pub front_room : words ≤ length (last ++ drop words room)
  front_room = simp length-append (omega (arith, last_length))

  pub front_loaded : take words (last ++ drop words room) ≡ words_from os start words
  front_loaded = take_at last (drop words room) words last_length ∙ e ∙ rw (length-take-le words room h)

  pub front_length : words ≡ length (take words (last ++ drop words room))
  front_length = rw front_loaded (sym (length_words os start words))

-- ---- from the words to the octets and back

-- words of 64 bits, wherever their octets stand
pub words_octets :
    (ws : List ℕ) → Below (2 ^ 64) ws → (before behind os : List ℕ) (start : ℕ) → os ≡ before ++ (octets_of ws ++ behind) → length before ≡ start
    → words_from os start (length ws) ≡ ws
unfolding words_from word_at octets_of
words_octets [] h before behind os start e n = refl
words_octets (w ∷ ws) h before behind os start e n =
    let word = digits 256 word_octets w in
    let here : drop start os ≡ word ++ (octets_of ws ++ behind) = rw e (drop_at before _ start n ∙ append_assoc word (octets_of ws) behind) in
    let first : word_at os start ≡ w =
    ap (λ (l : List ℕ). value_of 256 (take word_octets l)) here ∙ ap (value_of 256) (take_at word _ word_octets (length_digits 256 word_octets w))
    ∙ number_digits 256 (omega arith) word_octets w (h 0) in
    let others : words_from os (start + word_octets) (length ws) ≡ ws =
    words_octets ws (λ k. h (suc k)) (before ++ word) behind os (start + word_octets)
    (e ∙ rw (append_assoc word (octets_of ws) behind) (sym (append_assoc before word (octets_of ws ++ behind))))
    (simp (length-append, length_digits) (omega arith)) in
    cc

-- octets, read as words
pub octets_words : (os : List ℕ) → Below 256 os → (start n : ℕ) → start + word_octets * n ≤ length os → octets_of (words_from os start n) ≡ take (word_octets * n) (drop start os)
unfolding words_from word_at octets_of
octets_words os h start zero room = refl
octets_words os h start (suc n) room =
    let word = take word_octets (drop start os) in
    let size : length word ≡ word_octets = length-take-le word_octets (drop start os) (simp length-drop (omega arith)) in
    let first : digits 256 word_octets (value_of 256 word) ≡ word =
    ap (λ (k : ℕ). digits 256 k (value_of 256 word)) (sym size) ∙ digits_number 256 (omega arith) word (Below-take 256 (omega arith) word_octets (drop start os) (λ k. rw get_or-drop (h (start + k)))) in
    let others = octets_words os h (start + word_octets) n (omega arith) in
    let e : word_octets * suc n ≡ word_octets + word_octets * n = omega arith in
    rw (first, others, e) (sym (take-add word_octets (word_octets * n) (drop start os) ∙ rw drop-drop))
