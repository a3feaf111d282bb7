use Rattle.std.proofs.Common.{arith, ◌≡◌, ◌∙◌, refl, sym, ap, ℕ, ◌+◌, ◌-◌, ◌*◌, ◌/◌, ◌≤◌, ◌<◌, List, [], ◌∷◌, ◌++◌, length, take, drop}
use mathlib.Core.List.{append-nil}
use Rattle.bases.proofs.Digits.{length_digits, digits_number, Below-digits}
use Rattle.bases.proofs.Groups.{Grouped, no_group, one_group, last_group, from, length_from, number_above}
use Rattle.packing.specs.Packing.{value_of, digits, kept}
use Rattle.packing.proofs.Laws.{chars_count, kept_le, kept_ge, unpacked_is}
use Rattle.packing.proofs.write_chars.Goals as goal

-- the characters of a number, eight bits to each, are those of the number with seven
eight_wide : (h r : ℕ) → r ≡ value_of 256 (digits 128 8 h) → digits 256 8 r ≡ digits 128 8 h
eight_wide h r e =
    let d = digits 128 8 h in
    rw e (ap (λ (k : ℕ). digits 256 k (value_of 256 d)) (sym (length_digits 128 8 h)) ∙ digits_number 256 (omega arith) d (λ k. omega (arith, Below-digits 128 (omega arith) 8 h k)))

none_above : (xs : List ℕ) → value_of 256 (xs ++ (0 ∷ [])) ≡ value_of 256 xs
unfolding value_of
none_above xs = number_above 256 xs [] ∙ ap (λ (l : List ℕ). value_of 256 l) (append-nil xs)

-- the octets that n characters stand in
octets_left : (os : List ℕ) (n : ℕ) → n ≡ kept os → (7 * (n / 8) ≤ length os) × (length os < 7 * (n / 8) + 8)
octets_left os n e =
    let k = chars_count (length os) in
    (omega (arith, k, kept_le os), omega (arith, k, kept_ge os))

pub loop-k-init : goal.loop-k-init
loop-k-init c = no_group 8 7 _ _

pub slice_bounds-load-count : goal.slice_bounds-load-count
slice_bounds-load-count c = omega (arith, octets_left c.args.octets.now c.args.n c.requires.n_value)

pub slice_bounds-load-start : goal.slice_bounds-load-start
slice_bounds-load-start c = omega (arith, octets_left c.args.octets.now c.args.n c.requires.n_value)

pub load-requires : goal.load-requires
load-requires c =
    let os = c.args.octets.now in
    (omega arith, omega (arith, length_from (7 * c.loop-k.k) os, octets_left os c.args.n c.requires.n_value))

pub loop-k-preserved : goal.loop-k-preserved
loop-k-preserved c =
    let os = c.args.octets.now in
    let k = c.loop-k.k in
    let e : 7 * (k + 1) ≡ 7 * k + 7 = omega arith in
    let f : 8 * (k + 1) ≡ 8 * k + 8 = omega arith in
    rw (e, f)
    (one_group c.loop-k.invariant (λ i. omega (arith, c.type_inv.octets i)) 8 (omega (arith, c.requires.n_in_bounds)) (digits 256 8 c.spread-wide.result) c.store.new.out c.store.ensures 7 refl
    (eight_wide c.load.result c.spread-wide.result c.spread-wide.ensures
    ∙ ap (λ (x : ℕ). digits 128 8 x) (c.load.ensures.0 ∙ ap (λ (xs : List ℕ). value_of 256 (take 7 xs)) (from (7 * k) os))))

pub slice_bounds-few-count : goal.slice_bounds-few-count
slice_bounds-few-count c = omega (arith, octets_left c.args.octets.now c.args.n c.requires.n_value)

pub slice_bounds-few-start : goal.slice_bounds-few-start
slice_bounds-few-start c = omega (arith, octets_left c.args.octets.now c.args.n c.requires.n_value)

pub few-held-requires : goal.few-held-requires
few-held-requires c =
    let os = c.args.octets.now in
    let n = c.args.n in
    (omega (arith, length_from (7 * (n / 8)) os, octets_left os n c.requires.n_value), omega arith, omega arith)

pub returns : goal.returns
returns c =
    let os = c.args.octets.now in
    let n = c.args.n in
    let k = n / 8 in
    let e : c.loop-k.k ≡ k = omega arith in
    let m : Grouped 8 7 os c.args.out.now c.loop-k.out (7 * k) (8 * k) = rw e at c.loop-k.invariant in
    let count : 8 * k + (n - 8 * k) ≡ n = omega arith in
    rw (unpacked_is, ← c.requires.n_value)
    (rw count at
    (last_group m (λ i. omega (arith, c.type_inv.octets i)) (n - 8 * k) (omega (arith, c.requires.n_in_bounds)) (digits 128 (n - 8 * k) c.few-held.result) c.store_few.new.out c.store_few.ensures
    (ap (λ (x : ℕ). digits 128 (n - 8 * k) x) (c.few-held.ensures ∙ ap (λ (xs : List ℕ). value_of 256 (xs ++ (0 ∷ []))) (from (7 * k) os) ∙ none_above (drop (7 * k) os)))))
