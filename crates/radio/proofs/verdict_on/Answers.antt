use Rattle.std.proofs.Common.{◌≡◌, ℕ, ◌-◌, Bool, true, false, eqb, List, length, take, drop, sym, ap, ◌∙◌}
use lib.Pointwise.{pointwise}
use Rattle.std.specs.Prelude.{Option}
use Rattle.answers.specs.Ascii.{ascii}
use Rattle.answers.proofs.Begins.{begins_within}
use Rattle.answers.proofs.Parts.{rest_of}
use Rattle.numbers.specs.Numbers.{leading_number}
use Rattle.radio.specs.Radio.{is62}
use Rattle.radio.proofs.Verdicts.{exactly_62, says_62, not_03, no_number, more_behind, own_holder, another_holder}
use Rattle.radio.proofs.verdict_on.Goals as goal

-- the comparison is the paper's "exactly"
exactly : (text characters : List ℕ) (r b : Bool) → r ≡ pointwise eqb text characters → characters ≡ ascii "62" → r ≡ b → is62 text ≡ b
exactly text characters r b e s t = sym (exactly_62 text) ∙ sym (rw s at e) ∙ t

-- what is read stands behind the `03 `
digits : (text : List ℕ) (r : Option (ℕ × ℕ)) → r ≡ leading_number (take (length text - 3) (drop 3 text)) → leading_number (drop 3 text) ≡ r
digits text r e = ap leading_number (sym (rest_of 3 text)) ∙ sym e

size : (text : List ℕ) → length (drop 3 text) ≡ length (take (length text - 3) (drop 3 text))
size text = ap (λ (l : List ℕ). length l) (sym (rest_of 3 text))

pub returns-then-eq : goal.returns-then-eq
returns-then-eq c = sym (says_62 c.args.own c.args.text.now (exactly c.args.text.now _ _ true c.eq.ensures c.as_slice.ensures c.if-eq.true))

pub returns-then-not-begins_with : goal.returns-then-not-begins_with
returns-then-not-begins_with c =
    let other = exactly c.args.text.now _ _ false c.eq.ensures c.as_slice.ensures c.if-eq.false in
    sym (not_03 c.args.own c.args.text.now other (sym c.begins_with.ensures ∙ c.if-not-begins_with.true))

pub slice_bounds-digits-count : goal.slice_bounds-digits-count
slice_bounds-digits-count c = begins_within (ascii "03 ") c.args.text.now (sym c.begins_with.ensures ∙ c.if-not-begins_with.false)

pub slice_bounds-digits-start : goal.slice_bounds-digits-start
slice_bounds-digits-start c = begins_within (ascii "03 ") c.args.text.now (sym c.begins_with.ensures ∙ c.if-not-begins_with.false)

pub returns-in_default : goal.returns-in_default
returns-in_default c =
    let text = c.args.text.now in
    let other = exactly text _ _ false c.eq.ensures c.as_slice.ensures c.if-eq.false in
    let is03 = sym c.begins_with.ensures ∙ c.if-not-begins_with.false in
    sym (no_number c.args.own text other is03 (digits text _ c.read_number.ensures ∙ c.in_default.is))

pub returns-then-digits-n : goal.returns-then-digits-n
returns-then-digits-n c =
    let text = c.args.text.now in
    let other = exactly text _ _ false c.eq.ensures c.as_slice.ensures c.if-eq.false in
    let is03 = sym c.begins_with.ensures ∙ c.if-not-begins_with.false in
    sym (more_behind c.args.own text other is03 _ _ (digits text _ c.read_number.ensures ∙ c.in-Some.is) (λ q. c.if-digits-n.true (sym (size text) ∙ q)))

pub returns-then-msisdn-own : goal.returns-then-msisdn-own
returns-then-msisdn-own c =
    let text = c.args.text.now in
    let other = exactly text _ _ false c.eq.ensures c.as_slice.ensures c.if-eq.false in
    let is03 = sym c.begins_with.ensures ∙ c.if-not-begins_with.false in
    sym (own_holder c.args.own text other is03 _ _ (digits text _ c.read_number.ensures ∙ c.in-Some.is) (size text ∙ c.if-digits-n.false) c.if-msisdn-own.true)

pub returns : goal.returns
returns c =
    let text = c.args.text.now in
    let other = exactly text _ _ false c.eq.ensures c.as_slice.ensures c.if-eq.false in
    let is03 = sym c.begins_with.ensures ∙ c.if-not-begins_with.false in
    sym (another_holder c.args.own text other is03 _ _ (digits text _ c.read_number.ensures ∙ c.in-Some.is) (size text ∙ c.if-digits-n.false) c.if-msisdn-own.false)
