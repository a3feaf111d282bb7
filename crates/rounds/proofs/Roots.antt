-- A number's root is its digits but the last two, and in a cab radio the numbers still to be asked have one root. Assumes nothing.
use mathlib.Core.Path.{◌≡◌, sym, ap, ◌∙◌}
use mathlib.Core.Bool.{Bool, true, false}
use mathlib.Core.Logic.{◌↔◌, ⊎_elim}
use mathlib.Core.List.{List, [], ◌∷◌, ◌++◌}
use Prim.Native.Nat.{ℕ, ◌+◌, ◌-◌, ◌*◌}
use native.Mathlib.Omega.{arith}
use lib.ListN.{length, drop, get_or, take-append-drop, length-drop}
use lib.Dec.{eqb}
use borrow.Author.Tests.{eqb-true}
use Rattle.answers.specs.Leading.{each}
use Rattle.answers.proofs.Leading.{each_head, each_tail, each_append, each_drop}
use Rattle.answers.proofs.Tests.{no_path, and_left, or_cases}
use Rattle.crews.specs.Crews.{is_in}
use Rattle.numbers.specs.Numbers.{is_digit, are_digits, pushed, stored_form, is_number, digits_of}
use Rattle.numbers.proofs.Digits.{digit_range, digits_are, digits_fewest, stored_digits, same_digits}
use Rattle.stores.specs.declared.Entry.{Entry}
use Rattle.stores.specs.declared.Radio.{Radio}
use Rattle.stores.specs.Stores.{entries_in, is_hand_held, root_of, one_root, radio_sound}
use Rattle.rounds.specs.Rounds.{to_ask, root_digits}
use Rattle.rounds.proofs.Entries.{one_root_lem}
use Rattle.rounds.proofs.Sound.{sound_parts}

-- ---- digits

pushed_two : (w : ℕ) (cs : List ℕ) (a b : ℕ) → pushed w (cs ++ a ∷ b ∷ []) ≡ 100 * pushed w cs + (10 * (a - 48) + (b - 48))
unfolding pushed
pushed_two w [] a b = omega arith
pushed_two w (c ∷ cs) a b = pushed_two (10 * w + (c - 48)) cs a b

-- the branch does not count
pub root_behind : (cs branch : List ℕ) → length branch ≡ 2 → are_digits branch ≡ true → root_of (stored_form (cs ++ branch)) ≡ stored_form cs
unfolding stored_form each
root_behind cs [] l h = absurd (omega arith)
root_behind cs (a ∷ []) l h = absurd (omega arith)
root_behind cs (a ∷ b ∷ []) l h =
    let x = digit_range a (each_head is_digit a (b ∷ []) h) in
    let y = digit_range b (each_head is_digit b [] (each_tail is_digit a (b ∷ []) h)) in
    rw (pushed_two 1 cs a b) (omega arith)
root_behind cs (a ∷ b ∷ c ∷ ds) l h = absurd (omega arith)

module _ (w : ℕ) (n : is_number w ≡ true) where
  branch : List ℕ
  branch = drop (length (digits_of w) - 2) (digits_of w)

  split : root_digits w ++ branch ≡ digits_of w
  unfolding branch
  split = take-append-drop (length (digits_of w) - 2) (digits_of w)

  pub root_digits_lem : root_of w ≡ stored_form (root_digits w)
  unfolding branch
  root_digits_lem =
      ap root_of (sym (stored_digits w n) ∙ ap stored_form (sym split))
      ∙ root_behind (root_digits w) branch (length-drop (length (digits_of w) - 2) (digits_of w) ∙ omega (arith, digits_fewest w n))
      (each_drop is_digit (digits_of w) (length (digits_of w) - 2) (digits_are w n))

  root_are : are_digits (root_digits w) ≡ true
  root_are =
      and_left (are_digits (root_digits w)) (are_digits branch) (sym (each_append is_digit (root_digits w) branch) ∙ ap are_digits split ∙ digits_are w n)

-- two numbers have one root exactly if they are the same but for the last two digits; so numbers of another length have another
pub same_root_lem : (v w : ℕ) → is_number v ≡ true → is_number w ≡ true → (root_of v ≡ root_of w) ↔ (root_digits v ≡ root_digits w)
same_root_lem v w m n = (
  λ e. same_digits (root_digits v) (root_digits w) (root_are v m) (root_are w n) (sym (root_digits_lem v m) ∙ e ∙ root_digits_lem w n),
  λ e. root_digits_lem v m ∙ ap stored_form e ∙ sym (root_digits_lem w n),
)

-- ---- the numbers still to be asked

each_in : (test : ℕ → Bool) (n : ℕ) (ns : List ℕ) → each test ns ≡ true → is_in n ns ≡ true → test n ≡ true
unfolding each is_in
each_in test n [] h i = no_path i
each_in test n (m ∷ ns) h i =
    ⊎_elim (λ e. rw (← eqb-true m n e) (each_head test m ns h)) (each_in test n ns (each_tail test m ns h)) (or_cases (eqb m n) (is_in n ns) i)

pub asked_root : (es : List Entry) → one_root es ≡ true → (m n : ℕ) → is_in m (to_ask es) ≡ true → is_in n (to_ask es) ≡ true → root_of m ≡ root_of n
asked_root es h m n i j =
    let root = root_of (get_or (to_ask es) 0 0) in
    let of : (k : ℕ) → is_in k (to_ask es) ≡ true → root_of k ≡ root =
    λ k i. eqb-true (root_of k) root (each_in (λ l. eqb (root_of l) root) k (to_ask es) (sym (one_root_lem es) ∙ h) i) in
    of m i ∙ sym (of n j)

-- so in a sound cab radio
pub cab_asks_one_root :
    (radio : Radio) → radio_sound radio ≡ true → is_hand_held radio ≡ false → (m n : ℕ) → is_in m (to_ask (entries_in radio)) ≡ true
    → is_in n (to_ask (entries_in radio)) ≡ true → root_of m ≡ root_of n
cab_asks_one_root radio h c = asked_root (entries_in radio) (rw c at (sound_parts radio h).1.root)
