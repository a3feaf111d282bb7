use Rattle.std.proofs.Common.{arith, ◌≡◌, ◌∙◌, ◌++◌, ◌^◌, ◌<◌, take, drop, length, List, ℕ, replicate}
use lib.ListN.{length-append, length-drop, length-take}
use Rattle.bases.specs.Bases.{value_of}
use Rattle.bases.proofs.Digits.{Below-take, number_lt, pow_mul}
use Rattle.bases.proofs.Groups.{word_value, zeros_above}
use Rattle.bases.proofs.load.Goals as goal

pub returns : goal.returns
returns g c =
    let n = g.row.N in
    let ds = take n c.args.octets.now in
    let w : List ℕ = c.copy_from_slice.new.self ++ drop n (replicate 8 0) in
    let len : length w ≡ 8 = simp (length-append, length-drop) (omega (arith, c.copy_from_slice.ensures.len, length-take {A = ℕ})) in
    let value : c.from_le_bytes.result ≡ value_of 256 ds =
    c.from_le_bytes.ensures ∙ word_value w len ∙ rw (c.copy_from_slice.ensures.after) (zeros_above 256 n 8 ds) in
    let count : length ds ≡ n = simp length-take (omega arith) in
    let below : value_of 256 ds < 256 ^ length ds = number_lt 256 ds (Below-take 256 (omega arith) n c.args.octets.now (λ k. omega (arith, c.type_inv.octets k))) in
    (value, rw (value, pow_mul 2 8 n) (rw count at below))
