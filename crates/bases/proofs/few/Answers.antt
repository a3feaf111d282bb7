use Rattle.std.proofs.Common.{arith, ◌+◌, ◌*◌, ◌<◌, ◌^◌}
use Rattle.bases.proofs.Groups.{none_read, all_read, one_read, read_fits}
use Rattle.bases.proofs.few.Goals as goal

pub loop-octet-init : goal.loop-octet-init
loop-octet-init c = rw (c.into_iter-octet-iterator.ensures.into_iter_gives, c.rev-octet-items.ensures.source, c.iter.ensures.rest) (none_read _ _ _)

fits : (c : goal.After-from) → c.in-Some.octet.now + c.args.base * c.loop-octet.held < 2 ^ 64
fits c = read_fits c.loop-octet.invariant c.next.new.self.iter.rest.now c.in-Some.octet.now c.in-Some.ensures.steps c.requires.1 c.requires.2 c.requires.0 (λ k. omega (arith, c.type_inv.octets k))

pub overflow_mul-held : goal.overflow_mul-held
overflow_mul-held c = omega (arith, fits c)

pub overflow_add-held : goal.overflow_add-held
overflow_add-held c = omega (arith, fits c)

pub loop-octet-preserved : goal.loop-octet-preserved
loop-octet-preserved c = rw (c.from.ensures) (one_read c.loop-octet.invariant c.next.new.self.iter.rest.now c.in-Some.octet.now c.in-Some.ensures.steps)

pub returns : goal.returns
returns c = all_read c.loop-octet.invariant c.in-None.ensures.steps.0
