-- Its checks one by one, and then the digits with their code in front. Assumes nothing.
use Rattle.std.proofs.Common.{◌≡◌, ℕ, ◌+◌, ◌≤◌, Bool, true, false, cond, sym, ap, ◌∙◌, List, length, ltb}
use borrow.Author.Tests.{ltb-false}
use Rattle.answers.proofs.Tests.{or_neither}
use Rattle.answers.proofs.Parts.{stands_front}
use Rattle.numbers.specs.Numbers.{fewest_digits, most_digits, stored_form}
use Rattle.tables.specs.Tables.{record_of}
use Rattle.rules.specs.Routing.{code_length, with_code_in, is_international_code, is_outside, by_code}
use Rattle.routes.proofs.Digits.{full_length, full_digits}
use Rattle.routes.proofs.Checks.{refused_2, error_code, error_digit, error_count, looks}
use Rattle.routes.proofs.routing.Goals as goal

-- the digits with the code in front are as many as a number's
counted : (home asked : List ℕ) (coded r : Bool) → is_international_code home ≡ true → r ≡ is_outside (cond coded (length asked) (code_length + length asked)) → r ≡ false
    → is_outside (length (with_code_in home coded asked)) ≡ false
counted home asked coded r known e f = ap is_outside (full_length home asked known coded) ∙ sym e ∙ f

long_enough : (n : ℕ) → is_outside n ≡ false → (fewest_digits ≤ n) × (n ≤ most_digits)
long_enough n e =
    let both = or_neither (ltb n fewest_digits) (ltb most_digits n) e in
    (ltb-false n fewest_digits both.0, ltb-false most_digits n both.1)

pub returns-then-not-table_sound : goal.returns-then-not-table_sound
returns-then-not-table_sound c =
    sym (refused_2 c.args.table.now c.args.home.now c.args.coded c.args.asked.now (sym c.table_sound.ensures ∙ c.if-not-table_sound.true))

pub returns-then-not-is_international_code : goal.returns-then-not-is_international_code
returns-then-not-is_international_code c =
    sym (error_code c.args.table.now c.args.home.now c.args.coded c.args.asked.now (sym c.table_sound.ensures ∙ c.if-not-table_sound.false)
    (sym c.is_international_code.ensures ∙ c.if-not-is_international_code.true))

pub returns-then-not-are_digits : goal.returns-then-not-are_digits
returns-then-not-are_digits c =
    sym (error_digit c.args.table.now c.args.home.now c.args.coded c.args.asked.now (sym c.table_sound.ensures ∙ c.if-not-table_sound.false)
    (sym c.is_international_code.ensures ∙ c.if-not-is_international_code.false) (sym c.are_digits.ensures ∙ c.if-not-are_digits.true))

pub returns-then-is_outside : goal.returns-then-is_outside
returns-then-is_outside c =
    let known = sym c.is_international_code.ensures ∙ c.if-not-is_international_code.false in
    sym (error_count c.args.table.now c.args.home.now c.args.coded c.args.asked.now (sym c.table_sound.ensures ∙ c.if-not-table_sound.false) known
    (sym c.are_digits.ensures ∙ c.if-not-are_digits.false)
    (ap is_outside (full_length c.args.home.now c.args.asked.now known c.args.coded) ∙ sym c.is_outside.ensures ∙ c.if-is_outside.true))

pub route-requires-clause-digits_value : goal.route-requires-clause-digits_value
route-requires-clause-digits_value c =
    let known = sym c.is_international_code.ensures ∙ c.if-not-is_international_code.false in
    let digits = sym c.are_digits.ensures ∙ c.if-not-are_digits.false in
    let within = counted c.args.home.now c.args.asked.now c.args.coded c.is_outside.result known c.is_outside.ensures c.if-is_outside.false in
    let fits = long_enough (length (with_code_in c.args.home.now c.args.coded c.args.asked.now)) within in
    rw (stands_front c.put_digits-n.ensures) (full_digits c.args.home.now c.args.asked.now known c.args.coded digits, fits.0, fits.1)

pub returns : goal.returns
returns c =
    let t = c.args.table.now in
    let home = c.args.home.now in
    let sound = sym c.table_sound.ensures ∙ c.if-not-table_sound.false in
    let known = sym c.is_international_code.ensures ∙ c.if-not-is_international_code.false in
    let digits = sym c.are_digits.ensures ∙ c.if-not-are_digits.false in
    let within = counted home c.args.asked.now c.args.coded c.is_outside.result known c.is_outside.ensures c.if-is_outside.false in
    c.route.ensures
    ∙ ap (λ (l : List ℕ). by_code home l (record_of t (stored_form l))) (stands_front c.put_digits-n.ensures)
    ∙ sym (looks t home c.args.coded c.args.asked.now sound known digits within)
