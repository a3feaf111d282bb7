-- `frames::contents_start` meets its contract: a part passes each of its tests. Assumes nothing.
use Rattle.std.proofs.Common.{arith}
use mathlib.Core.Path.{sym, ◌∙◌}
use mathlib.Core.Bool.{true≢false}
use Rattle.frames.proofs.Steps.{no_start, no_form, short_start, long_start}
use Rattle.frames.proofs.contents_start.Goals as goal

pub returns-then-n-lt-SHORT_HEAD : goal.returns-then-n-lt-SHORT_HEAD
returns-then-n-lt-SHORT_HEAD c = no_start _ _ λ p. omega (arith, p.two)

pub returns-then-octets-tag : goal.returns-then-octets-tag
returns-then-octets-tag c = no_start _ _ λ p. c.if-octets-tag.true p.tagged

pub returns-then-n-octets : goal.returns-then-n-octets
returns-then-n-octets c = short_start _ _ (omega arith) c.if-octets-tag.false c.if-n-octets.true

pub returns-then-n : goal.returns-then-n
returns-then-n c = no_form _ _ c.if-n-octets.false λ l e. omega arith

pub returns-then-octets-n : goal.returns-then-octets-n
returns-then-octets-n c = long_start _ _ (omega arith) c.if-octets-tag.false (omega arith) c.if-octets-n.true

pub returns : goal.returns
returns c = no_form _ _ c.if-n-octets.false λ l e. true≢false (sym e ∙ c.if-octets-n.false)
