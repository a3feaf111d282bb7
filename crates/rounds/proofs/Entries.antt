-- Laws of stored numbers: which are still to be asked, and what a new number, a notice and an answer make of them. Assumes nothing.
use mathlib.Core.Path.{◌≡◌, refl, sym, ap, subst, ◌∙◌}
use mathlib.Core.Bool.{Bool, true, false, not, cond, ◌&&◌, ◌||◌, or-false, or_assoc}
use mathlib.Core.List.{List, [], ◌∷◌, ◌++◌}
use Prim.Native.Nat.{ℕ, suc, ◌≤◌}
use native.Mathlib.Omega.{arith}
use lib.ListN.{length, drop, get_or}
use lib.Dec.{eqb}
use borrow.Author.Tests.{eqb-true, eqb-false, ne_eqb, not-true}
use Rattle.answers.specs.Leading.{each}
use Rattle.numbers.specs.Numbers.{is_number}
use Rattle.answers.proofs.Tests.{and_left, and_right, and_both, and_three, or_right, or_neither}
use Rattle.numbers.proofs.Lengths.{number_some}
use Rattle.crews.specs.Crews.{is_in, distinct}
use Rattle.stores.specs.declared.Entry.{Entry}
use Rattle.stores.specs.declared.Verdict.{Verdict}
use Rattle.stores.specs.declared.Verdict.TheVariants.{Keeps, Drops, Unsure}
use Rattle.stores.specs.Stores.{is_to_ask, root_of, is_flag, entry_sound, every, has, none_twice, open_of, one_root, with_new, begun, answered, settled}
use Rattle.stores.proofs.Stored.{open_number}
use Rattle.rounds.specs.Rounds.{to_ask, numbers_that}

-- ---- the numbers still to be asked

pub open_first : (es : List Entry) → open_of es ≡ get_or (to_ask es) 0 0
unfolding open_of to_ask
open_first [] = refl
open_first (e ∷ es) = go (is_to_ask e) (open_first es)
  where
    go : (b : Bool) → open_of es ≡ get_or (to_ask es) 0 0 → cond b e.number (open_of es) ≡ get_or (cond b (e.number ∷ to_ask es) (to_ask es)) 0 0
    go true rest = refl
    go false rest = rest

-- so the open question goes by what is still to be asked
pub open_same : (es fs : List Entry) → to_ask es ≡ to_ask fs → open_of es ≡ open_of fs
open_same es fs h = open_first es ∙ rw h (sym (open_first fs))

pub none_open : (es : List Entry) → to_ask es ≡ [] → open_of es ≡ 0
none_open es h = open_first es ∙ ap (λ (ns : List ℕ). get_or ns 0 0) h

pub ask_new : (number : ℕ) (es : List Entry) → to_ask (with_new number es) ≡ to_ask es
unfolding to_ask
ask_new number [] = refl
ask_new number (e ∷ es) = rw (ask_new number es)

pub ask_begun : (due : ℕ → Bool) (es : List Entry) → to_ask (begun due es) ≡ numbers_that due es
unfolding to_ask begun numbers_that
ask_begun due [] = refl
ask_begun due (e ∷ es) = go (due e.number) (ask_begun due es)
  where
    go : (b : Bool) → to_ask (begun due es) ≡ numbers_that due es
        → cond (eqb (cond b 1 0) 1) (e.number ∷ to_ask (begun due es)) (to_ask (begun due es)) ≡ cond b (e.number ∷ numbers_that due es) (numbers_that due es)
    go true rest = rw rest
    go false rest = rest

ask_answered : (v : Verdict) (e : Entry) (es : List Entry) → to_ask (answered v e ++ es) ≡ to_ask es
unfolding to_ask
ask_answered Keeps e es = refl
ask_answered Drops e es = refl
ask_answered Unsure e es = refl

pub ask_settled : (v : Verdict) (es : List Entry) → to_ask (settled v es) ≡ drop 1 (to_ask es)
unfolding to_ask settled
ask_settled v [] = refl
ask_settled v (e ∷ es) = go (is_to_ask e) refl (ask_settled v es)
  where
    go : (b : Bool) → is_to_ask e ≡ b → to_ask (settled v es) ≡ drop 1 (to_ask es)
        → to_ask (cond b (answered v e ++ es) (e ∷ settled v es)) ≡ drop 1 (cond b (e.number ∷ to_ask es) (to_ask es))
    go true t rest = ask_answered v e es
    go false t rest = rw t rest

-- a test of each number still to be asked, by the entries
every_asked : (test : ℕ → Bool) (es : List Entry) → every (λ e. not (is_to_ask e) || test e.number) es ≡ each test (to_ask es)
unfolding every each to_ask
every_asked test [] = refl
every_asked test (e ∷ es) = go (is_to_ask e) (every_asked test es)
  where
    go : (b : Bool) → every (λ e. not (is_to_ask e) || test e.number) es ≡ each test (to_ask es)
        → ((not b || test e.number) && every (λ e. not (is_to_ask e) || test e.number) es) ≡ each test (cond b (e.number ∷ to_ask es) (to_ask es))
    go true rest = rw rest
    go false rest = rest

-- numbers with one root: that of the first
abbrev pub same_root : List ℕ → Bool
same_root ns = each (λ n. eqb (root_of n) (root_of (get_or ns 0 0))) ns

pub one_root_lem : (es : List Entry) → one_root es ≡ same_root (to_ask es)
one_root_lem es = rw (open_first es) (every_asked (λ n. eqb (root_of n) (root_of (get_or (to_ask es) 0 0))) es)

pub root_same : (root : ℕ) (ns : List ℕ) → each (λ n. eqb (root_of n) root) ns ≡ true → same_root ns ≡ true
unfolding each
root_same root [] h = refl
root_same root (n ∷ ns) h =
    let e : root_of n ≡ root = eqb-true (root_of n) root (and_left (eqb (root_of n) root) (each (λ m. eqb (root_of m) root) ns) h) in
    subst (λ (r : ℕ). each (λ m. eqb (root_of m) r) (n ∷ ns) ≡ true) (sym e) h

pub root_rest : (ns : List ℕ) → same_root ns ≡ true → same_root (drop 1 ns) ≡ true
unfolding each
root_rest [] h = refl
root_rest (n ∷ ns) h = root_same (root_of n) ns (and_right (eqb (root_of n) (root_of n)) (each (λ m. eqb (root_of m) (root_of n)) ns) h)

-- what was chosen by a test passes it
pub numbers_pass : (test : ℕ → Bool) (es : List Entry) → each test (numbers_that test es) ≡ true
unfolding each numbers_that
numbers_pass test [] = refl
numbers_pass test (e ∷ es) = go (test e.number) refl (numbers_pass test es)
  where
    go : (b : Bool) → test e.number ≡ b → each test (numbers_that test es) ≡ true
        → each test (cond b (e.number ∷ numbers_that test es) (numbers_that test es)) ≡ true
    go true t rest = rw t rest
    go false t rest = rest

-- ---- which numbers are stored

-- among fewer, so among more; and not among more, so not among fewer
more : (a b c : Bool) → (b ≡ true → c ≡ true) → (a || b) ≡ true → (a || c) ≡ true
more true b c f h = refl
more false b c f h = f h

fewer : (a b : Bool) → (b ≡ true → a ≡ true) → not a ≡ true → not b ≡ true
fewer a true f h = rw (f refl) at h
fewer a false f h = refl

pub has_new : (n number : ℕ) (es : List Entry) → has n (with_new number es) ≡ (has n es || eqb number n)
unfolding has
has_new n number [] = or-false (eqb number n)
has_new n number (e ∷ es) = rw (has_new n number es) (sym (or_assoc (eqb e.number n) (has n es) (eqb number n)))

pub has_begun : (n : ℕ) (due : ℕ → Bool) (es : List Entry) → has n (begun due es) ≡ has n es
unfolding has begun
has_begun n due [] = refl
has_begun n due (e ∷ es) = rw (has_begun n due es)

has_answered : (n : ℕ) (v : Verdict) (e : Entry) (es : List Entry) → has n (answered v e ++ es) ≡ true → has n (e ∷ es) ≡ true
unfolding has
has_answered n Keeps e es h = h
has_answered n Drops e es h = or_right (eqb e.number n) (has n es) h
has_answered n Unsure e es h = h

-- an answer brings no number
pub has_settled : (n : ℕ) (v : Verdict) (es : List Entry) → has n (settled v es) ≡ true → has n es ≡ true
unfolding has settled
has_settled n v [] h = h
has_settled n v (e ∷ es) h = go (is_to_ask e) h (has_settled n v es)
  where
    go : (b : Bool) → has n (cond b (answered v e ++ es) (e ∷ settled v es)) ≡ true → (has n (settled v es) ≡ true → has n es ≡ true)
        → (eqb e.number n || has n es) ≡ true
    go true h rest = has_answered n v e es h
    go false h rest = more (eqb e.number n) (has n (settled v es)) (has n es) rest h

-- ---- none comes twice

pub once_new : (number : ℕ) (es : List Entry) → has number es ≡ false → none_twice es ≡ true → none_twice (with_new number es) ≡ true
unfolding none_twice has
once_new number [] n h = refl
once_new number (e ∷ es) n h =
    let a = or_neither (eqb e.number number) (has number es) n in
    let other = ne_eqb number e.number (λ q. eqb-false e.number number a.0 (sym q)) in
    and_both (not (has e.number (with_new number es))) (none_twice (with_new number es))
    (rw (has_new e.number number es, other, or-false) (and_left (not (has e.number es)) (none_twice es) h))
    (once_new number es a.1 (and_right (not (has e.number es)) (none_twice es) h))

pub once_begun : (due : ℕ → Bool) (es : List Entry) → none_twice (begun due es) ≡ none_twice es
unfolding none_twice begun
once_begun due [] = refl
once_begun due (e ∷ es) = rw (has_begun e.number due es, once_begun due es)

pub once_settled : (v : Verdict) (es : List Entry) → none_twice es ≡ true → none_twice (settled v es) ≡ true
unfolding none_twice settled
once_settled v [] h = refl
once_settled v (e ∷ es) h = go (is_to_ask e) v (once_settled v es (and_right (not (has e.number es)) (none_twice es) h))
  where
    go : (b : Bool) (w : Verdict) → none_twice (settled v es) ≡ true → none_twice (cond b (answered w e ++ es) (e ∷ settled v es)) ≡ true
    go true Keeps rest = h
    go true Drops rest = and_right (not (has e.number es)) (none_twice es) h
    go true Unsure rest = h
    go false w rest =
        and_both (not (has e.number (settled v es))) (none_twice (settled v es))
        (fewer (has e.number es) (has e.number (settled v es)) (has_settled e.number v es) (and_left (not (has e.number es)) (none_twice es) h)) rest

-- what is asked is a number
asked_numbers : (es : List Entry) → every entry_sound es ≡ true → each is_number (to_ask es) ≡ true
unfolding every each to_ask
asked_numbers [] h = refl
asked_numbers (e ∷ es) h = go (is_to_ask e) (asked_numbers es (and_right (entry_sound e) (every entry_sound es) h))
  where
    go : (b : Bool) → each is_number (to_ask es) ≡ true → each is_number (cond b (e.number ∷ to_ask es) (to_ask es)) ≡ true
    go true rest = rw (and_three (is_number e.number) (is_flag e.unsure) (is_flag e.to_ask) (and_left (entry_sound e) (every entry_sound es) h)).0 rest
    go false rest = rest

-- ---- how many are asked

pub length_asked : (es : List Entry) → length (to_ask es) ≤ length es
unfolding to_ask
length_asked [] = omega arith
length_asked (e ∷ es) = go (is_to_ask e) (length_asked es)
  where
    go : (b : Bool) → length (to_ask es) ≤ length es → length (cond b (e.number ∷ to_ask es) (to_ask es)) ≤ suc (length es)
    go true rest = omega arith
    go false rest = omega arith

-- what is asked is stored, and none is asked twice
asked_stored : (n : ℕ) (es : List Entry) → is_in n (to_ask es) ≡ true → has n es ≡ true
unfolding is_in has to_ask
asked_stored n [] h = h
asked_stored n (e ∷ es) h = go (is_to_ask e) h (asked_stored n es)
  where
    go : (b : Bool) → is_in n (cond b (e.number ∷ to_ask es) (to_ask es)) ≡ true → (is_in n (to_ask es) ≡ true → has n es ≡ true)
        → (eqb e.number n || has n es) ≡ true
    go true h rest = more (eqb e.number n) (is_in n (to_ask es)) (has n es) rest h
    go false h rest = or_right (eqb e.number n) (has n es) (rest h)

pub not_asked : (n : ℕ) (es : List Entry) → has n es ≡ false → is_in n (to_ask es) ≡ false
not_asked n es h = not-true (is_in n (to_ask es)) (fewer (has n es) (is_in n (to_ask es)) (asked_stored n es) (ap not h))

-- what comes behind the first is among them
pub behind_in : (n : ℕ) (ns : List ℕ) → is_in n (drop 1 ns) ≡ true → is_in n ns ≡ true
unfolding is_in
behind_in n [] h = h
behind_in n (m ∷ ns) h = or_right (eqb m n) (is_in n ns) h

pub not_behind : (n : ℕ) (ns : List ℕ) → is_in n ns ≡ false → is_in n (drop 1 ns) ≡ false
not_behind n ns h = not-true (is_in n (drop 1 ns)) (fewer (is_in n ns) (is_in n (drop 1 ns)) (behind_in n ns) (ap not h))

pub asked_once : (es : List Entry) → none_twice es ≡ true → distinct (to_ask es) ≡ true
unfolding none_twice distinct to_ask
asked_once [] h = refl
asked_once (e ∷ es) h = go (is_to_ask e) (asked_once es (and_right (not (has e.number es)) (none_twice es) h))
  where
    go : (b : Bool) → distinct (to_ask es) ≡ true → distinct (cond b (e.number ∷ to_ask es) (to_ask es)) ≡ true
    go true rest =
        and_both (not (is_in e.number (to_ask es))) (distinct (to_ask es))
        (fewer (has e.number es) (is_in e.number (to_ask es)) (asked_stored e.number es) (and_left (not (has e.number es)) (none_twice es) h)) rest
    go false rest = rest

-- ---- the open question

first_none : (n : ℕ) (ns : List ℕ) → each is_number ns ≡ true → n ≡ get_or ns 0 0 → eqb n 0 ≡ true → ns ≡ []
unfolding each
first_none n [] h e z = refl
first_none n (m ∷ ns) h e z = absurd (number_some m (and_left (is_number m) (each is_number ns) h) (sym e ∙ eqb-true n 0 z))

first_some : (n : ℕ) (ns : List ℕ) → n ≡ get_or ns 0 0 → (n ≡ 0 → ⊥) → ns ≡ n ∷ drop 1 ns
first_some n [] e some = absurd (some e)
first_some n (m ∷ ns) e some = rw e

-- where none is open, none is to be asked; the one that is open is a number, and is asked first
pub open_none : (es : List Entry) → every entry_sound es ≡ true → eqb (open_of es) 0 ≡ true → to_ask es ≡ []
open_none es h = first_none (open_of es) (to_ask es) (asked_numbers es h) (open_first es)

pub open_some :
    (es : List Entry) → every entry_sound es ≡ true → eqb (open_of es) 0 ≡ false
    → (is_number (open_of es) ≡ true) × (to_ask es ≡ open_of es ∷ drop 1 (to_ask es))
open_some es h z =
    let some = eqb-false (open_of es) 0 z in
    (open_number es h some, first_some (open_of es) (to_ask es) (open_first es) some)
