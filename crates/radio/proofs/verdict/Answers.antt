-- By the unpacker's answer. Assumes nothing.
use Rattle.std.proofs.Common.{◌≡◌, ℕ, ◌≤◌, Bool, true, false, List, length, replicate, sym, refl, ap, ◌∙◌, ⊎_elim, length-take-le}
use Rattle.std.specs.Prelude.{Result, Ok, Err}
use Rattle.answers.specs.declared.Refusal.{Refusal}
use Rattle.answers.specs.Writing.{made_write}
use Rattle.answers.proofs.Tests.{less_or_not}
use Rattle.answers.proofs.Writing.{made_one}
use Rattle.packing.specs.Packing.{chars_in, readable, unpacked}
use Rattle.packing.specs.Outcomes.{unpacking}
use Rattle.packing.proofs.Outcomes.{unpacking_good, unpack_count}
use Rattle.stores.specs.declared.Verdict.TheVariants.{Unsure}
use Rattle.radio.specs.Radio.{verdict_on, verdict_of}
use Rattle.radio.proofs.Verdicts.{no_bits, by_text, too_long}
use Rattle.radio.proofs.verdict.Goals as goal

-- no count: too many characters, or unreadable bits
says_nothing : (own : ℕ) (os text : List ℕ) (r : Result ℕ Refusal) (refused : Refusal) → made_write r text ≡ unpacking os (replicate 24 0) → r ≡ Err refused → verdict_of own os ≡ Unsure
says_nothing own os text r refused done is = ⊎_elim (too_long own os) (λ room. go room (readable os) refl) (less_or_not 24 (chars_in (length os)))
  where
    counts : chars_in (length os) ≤ 24 → readable os ≡ true → r ≡ Ok (length (unpacked os))
    counts room bits = (made_one r (Ok (length (unpacked os))) text _ (done ∙ unpacking_good os (replicate 24 0) room bits) refl).0

    go : chars_in (length os) ≤ 24 → (b : Bool) → readable os ≡ b → verdict_of own os ≡ Unsure
    go room true bits = let both : ◌≡◌ {A = Result ℕ Refusal} (Err refused) (Ok (length (unpacked os))) = sym is ∙ counts room bits in cc
    go room false bits = no_bits own os bits

pub returns-in_default : goal.returns-in_default
returns-in_default c = sym (says_nothing c.args.own c.args.string.now c.unpack.new.out c.unpack.result _ c.unpack.ensures c.in_default.is)

pub slice_bounds-text-end : goal.slice_bounds-text-end
slice_bounds-text-end c = (unpack_count c.args.string.now (replicate 24 0) c.unpack.result c.unpack.new.out c.unpack.ensures c.in-Ok.n c.in-Ok.is).within

pub slice_bounds-verdict_on-end : goal.slice_bounds-verdict_on-end
slice_bounds-verdict_on-end c =
    sym (length-take-le _ _ (unpack_count c.args.string.now (replicate 24 0) c.unpack.result c.unpack.new.out c.unpack.ensures c.in-Ok.n c.in-Ok.is).within)

pub returns : goal.returns
returns c =
    let counted = unpack_count c.args.string.now (replicate 24 0) c.unpack.result c.unpack.new.out c.unpack.ensures c.in-Ok.n c.in-Ok.is in
    c.verdict_on.ensures ∙ ap (verdict_on c.args.own) counted.start ∙ sym (by_text c.args.own c.args.string.now counted.sound)
