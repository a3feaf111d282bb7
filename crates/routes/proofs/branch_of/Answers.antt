-- Every character is a digit. Assumes nothing.
use Rattle.std.proofs.Common.{◌-◌, length, arith}
use Rattle.numbers.proofs.Digits.{digit_at_lem}
use Rattle.rules.specs.Routing.{subaddress_of}
use Rattle.routes.proofs.branch_of.Goals as goal

pub overflow_sub-kind : goal.overflow_sub-kind
overflow_sub-kind c = (digit_at_lem c.args.digits.now 3 c.requires.0 (omega (arith, c.requires.1))).0

pub returns-then-not-kind : goal.returns-then-not-kind
unfolding subaddress_of
returns-then-not-kind c = rw c.if-not-kind.true

pub overflow_sub-last-2 : goal.overflow_sub-last-2
overflow_sub-last-2 c = (digit_at_lem c.args.digits.now (length c.args.digits.now - 1) c.requires.0 (omega (arith, c.requires.1))).0

pub overflow_sub-before-2 : goal.overflow_sub-before-2
overflow_sub-before-2 c = (digit_at_lem c.args.digits.now (length c.args.digits.now - 2) c.requires.0 (omega (arith, c.requires.1))).0

pub overflow_mul-result : goal.overflow_mul-result
overflow_mul-result c = omega (arith, digit_at_lem c.args.digits.now (length c.args.digits.now - 1) c.requires.0 (omega (arith, c.requires.1)))

pub overflow_add-result : goal.overflow_add-result
overflow_add-result c =
    let l = length c.args.digits.now in
    omega (arith, digit_at_lem c.args.digits.now (l - 1) c.requires.0 (omega (arith, c.requires.1)), digit_at_lem c.args.digits.now (l - 2) c.requires.0 (omega (arith, c.requires.1)))

pub returns : goal.returns
unfolding subaddress_of
returns c = rw c.if-not-kind.false
