-- Another code, a number that is not there, nobody, or the holder. Assumes nothing.
use Rattle.std.proofs.Common.{◌≡◌, ℕ, sym, ap, ◌∙◌, arith, eq-eqb, ne_eqb}
use Rattle.std.specs.Prelude.{Option, Some, None}
use Rattle.numbers.specs.Numbers.{stored_form, leading_number}
use Rattle.rules.specs.Answers.{ask_network, routed_to}
use Rattle.tables.specs.Tables.{row_of}
use Rattle.tables.proofs.Sound.{table_row}
use Rattle.tables.proofs.Stored.{row_found, record_found_lem, record_missing}
use Rattle.routes.proofs.Digits.{three_front, digits_read}
use Rattle.routes.proofs.route.Goals as goal
use Rattle.routes.proofs.route.Goals.{In-Some, In-Some-row_of}

same_word : {o : Option (ℕ × ℕ)} {v n w m : ℕ} → o ≡ Some (v, n) → o ≡ Some (w, m) → v ≡ w
same_word {v = v} {n} {w} {m} p q = let e : ◌≡◌ {A = ℕ × ℕ} (v, n) (w, m) = cc in ap (λ (x : ℕ × ℕ). x.0) e

-- the digits read as their number
read : (c : In-Some) → c.in-Some.word ≡ stored_form c.args.digits.now
read c =
    let d = c.args.digits.now in
    let q = c.requires.digits_value in
    same_word (c.in-Some.is) (c.read_number.ensures ∙ digits_read d q.0 q.1 q.2)

-- where the row was found
place : (c : In-Some-row_of) → row_of c.args.table.now (stored_form c.args.digits.now) ≡ Some c.in-Some-row_of.row
place c = ap (row_of c.args.table.now) (sym (read (goal.at.In-Some-row_of c).In-Some)) ∙ sym c.row_of.ensures ∙ c.in-Some-row_of.is

pub returns-then-not-begins_with : goal.returns-then-not-begins_with
returns-then-not-begins_with c = let q = c.requires.digits_value in
    rw (sym c.begins_with.ensures ∙ c.if-not-begins_with.true) (ap ask_network (three_front c.args.digits.now (omega arith)))

pub unreachable-requires : goal.unreachable-requires
unreachable-requires c =
    let d = c.args.digits.now in
    let q = c.requires.digits_value in
    let r = digits_read d q.0 q.1 q.2 in
    let g : leading_number d ≡ None = sym c.read_number.ensures ∙ c.in_default.is in
    cc

pub returns-in_default-row_of : goal.returns-in_default-row_of
returns-in_default-row_of c =
    let missing = record_missing c.args.table.now (stored_form c.args.digits.now) (ap (row_of c.args.table.now) (sym (read (goal.at.returns-in_default-row_of c).In-Some)) ∙ sym c.row_of.ensures ∙ c.in_default-row_of.is) in
    rw (sym c.begins_with.ensures ∙ c.if-not-begins_with.false, missing)

pub load-requires-clause-row_in_bounds : goal.load-requires-clause-row_in_bounds
load-requires-clause-row_in_bounds c = (row_found c.args.table.now (stored_form c.args.digits.now) _ (place c)).0

pub load-requires-clause-row_value : goal.load-requires-clause-row_value
load-requires-clause-row_value c =
    let t = c.args.table.now in
    table_row t c.requires.table_value _ (row_found t (stored_form c.args.digits.now) _ (place c)).0

pub returns-then-holder-eq0 : goal.returns-then-holder-eq0
returns-then-holder-eq0 c =
    let at = place (goal.at.returns-then-holder-eq0 c).In-Some-row_of in
    rw (sym c.begins_with.ensures ∙ c.if-not-begins_with.false, record_found_lem c.args.table.now (stored_form c.args.digits.now) _ at, ← c.load.ensures, eq-eqb c.load.result.holder.0 0 c.if-holder-eq0.true)

pub returns : goal.returns
returns c =
    let at = place (goal.at.returns c).In-Some-row_of in
    rw (sym c.begins_with.ensures ∙ c.if-not-begins_with.false, record_found_lem c.args.table.now (stored_form c.args.digits.now) _ at, ← c.load.ensures, ne_eqb c.load.result.holder.0 0 c.if-holder-eq0.false)
    (ap (routed_to c.load.result.holder.0) c.branch_of.ensures)
