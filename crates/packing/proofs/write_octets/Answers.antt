use Rattle.std.proofs.Common.{arith, ◌≡◌, ◌∙◌, refl, sym, ap, true, ℕ, ◌+◌, ◌-◌, ◌*◌, ◌/◌, ◌%◌, ◌≤◌, List, [], ◌∷◌, ◌++◌, length, take, drop, eqb}
use lib.ListN.{length-drop}
use lib.Seq.{take-append-le, drop-append-le, length-take-le}
use Rattle.answers.proofs.Leading.{each_drop}
use Rattle.bases.proofs.Digits.{digits_number}
use Rattle.bases.proofs.Groups.{Grouped, no_group, one_group, last_group, from, length_from, number_above}
use Rattle.packing.specs.Packing.{value_of, digits, octets_for, taken, takes, return_if, padded, packed}
use Rattle.packing.proofs.Laws.{octets_count, takes_below, takes_take, padded_below}
use Rattle.packing.proofs.write_octets.Goals as goal

module _ (cs : List ℕ) (t : takes cs ≡ true) (i : ℕ) where
  next_takes : takes (take 8 (drop i cs)) ≡ true
  next_takes = takes_take 8 (drop i cs) (each_drop taken cs i t)

  -- the number of the next eight characters, to the base 256, has them as its digits
  next_eight : i + 8 ≤ length cs → (r : ℕ) → r ≡ value_of 256 (take 8 (take (length cs - i) (drop i cs))) → digits 256 8 r ≡ take 8 (drop i cs)
  next_eight h r e =
      let d = take 8 (drop i cs) in
      let len : length d ≡ 8 = length-take-le 8 (drop i cs) (simp length-drop (omega arith)) in
      rw (e, from i cs) (ap (λ (k : ℕ). digits 256 k (value_of 256 d)) (sym len) ∙ digits_number 256 (omega arith) d (λ k. omega (arith, takes_below d next_takes k)))

next_padded : (cs : List ℕ) (i : ℕ) → i + 8 ≤ length cs → take 8 (drop i cs) ≡ take 8 (drop i (padded cs))
unfolding padded
next_padded cs i h =
    let r = return_if (eqb (length cs % 8) 7) in
    rw (drop-append-le i cs r (omega arith), take-append-le 8 (drop i cs) r (simp length-drop (omega arith)))

-- what is left over, with a carriage return above seven characters
module _ (cs old new rest : List ℕ) (i j : ℕ) (m : Grouped 7 8 (padded cs) old new i j) (t : takes cs ≡ true) (o : octets_for (length cs) ≤ length old) (p : i ≡ 8 * (length cs / 8)) (r : rest ≡ drop i cs) where
  left : length rest ≡ length cs - i
  left = ap length r ∙ length-drop i cs

  count : octets_for (length cs) ≡ j + length rest
  count = omega (arith, octets_count (length cs), m.place, left)

  left_padded : (x : ℕ) → x ≡ value_of 128 (return_if (eqb (length rest) 7)) → value_of 128 (rest ++ (x ∷ [])) ≡ value_of 128 (drop i (padded cs))
  unfolding padded
  left_padded x e =
      let last : length cs % 8 ≡ length rest = omega (arith, left) in
      rw (last, e, drop-append-le i cs (return_if (eqb (length rest) 7)) (omega arith), ← r) (number_above 128 rest (return_if (eqb (length rest) 7)))

  all_written :
      (x h : ℕ) → x ≡ value_of 128 (return_if (eqb (length rest) 7)) → h ≡ value_of 128 (rest ++ (x ∷ []))
      → (ys : List ℕ) → ys ≡ digits 256 (length rest) h ++ drop (length rest) (take (length new - j) (drop j new))
      → take j new ++ (ys ++ drop (length new - j) (drop j new)) ≡ packed cs ++ drop (octets_for (length cs)) old
  unfolding packed
  all_written x h ex eh ys put =
      rw count
      (last_group m (padded_below cs t) (length rest) (omega (arith, count, o)) (digits 256 (length rest) h) ys put
      (ap (λ (n : ℕ). digits 256 (length rest) n) (eh ∙ left_padded x ex)))

pub loop-k-init : goal.loop-k-init
loop-k-init c = no_group 7 8 _ _

pub squeezed-held-requires : goal.squeezed-held-requires
squeezed-held-requires c =
    let t = c.requires.chars_value in
    rw (next_eight _ t (8 * c.loop-k.k) (omega arith) c.load.result c.load.ensures.0) (next_takes _ t (8 * c.loop-k.k))

pub store-requires : goal.store-requires
store-requires c =
    (omega arith, omega (arith, length_from (7 * c.loop-k.k) c.loop-k.out, octets_count (length c.args.chars.now), c.requires.chars_in_bounds, c.loop-k.invariant.room))

pub loop-k-preserved : goal.loop-k-preserved
loop-k-preserved c =
    let cs = c.args.chars.now in
    let t = c.requires.chars_value in
    let k = c.loop-k.k in
    let e : 8 * (k + 1) ≡ 8 * k + 8 = omega arith in
    let f : 7 * (k + 1) ≡ 7 * k + 7 = omega arith in
    let held = c.squeezed-held.ensures ∙ ap (λ (xs : List ℕ). value_of 128 xs) (next_eight cs t (8 * k) (omega arith) c.load.result c.load.ensures.0 ∙ next_padded cs (8 * k) (omega arith)) in
    rw (e, f)
    (one_group c.loop-k.invariant (padded_below cs t) 7 (omega (arith, octets_count (length cs), c.requires.chars_in_bounds)) (digits 256 7 c.squeezed-held.result) c.store.new.out c.store.ensures 8 refl
    (ap (λ (n : ℕ). digits 256 7 n) held))

pub store_few-requires : goal.store_few-requires
store_few-requires c =
    let cs = c.args.chars.now in
    let i = 8 * (length cs / 8) in
    (omega (arith, length_from i cs, length_from (7 * (length cs / 8)) c.loop-k.out, octets_count (length cs), c.requires.chars_in_bounds, c.loop-k.invariant.room), omega arith, omega arith)

pub returns : goal.returns
returns c =
    let cs = c.args.chars.now in
    let k = length cs / 8 in
    let e : c.loop-k.k ≡ k = omega arith in
    let m : Grouped 7 8 (padded cs) c.args.out.now c.loop-k.out (8 * k) (7 * k) = rw e at c.loop-k.invariant in
    all_written cs _ _ _ _ _ m c.requires.chars_value c.requires.chars_in_bounds refl (from (8 * k) cs) c.filler.result c.few-held.result c.filler.ensures.0 c.few-held.ensures c.store_few.new.out c.store_few.ensures
