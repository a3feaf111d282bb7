-- `frames::read_octet` meets its contract: a part of one octet passes each of its tests. Assumes nothing.
use Rattle.std.proofs.Common.{arith}
use mathlib.Core.Path.{sym}
use Rattle.frames.proofs.Steps.{octet_few, octet_other, octet_read}
use Rattle.frames.proofs.read_octet.Goals as goal

pub returns-then-octets-lt-OCTET_PART : goal.returns-then-octets-lt-OCTET_PART
returns-then-octets-lt-OCTET_PART c = sym (octet_few _ _ (omega arith))

pub returns-then-octets-tag : goal.returns-then-octets-tag
returns-then-octets-tag c = sym (octet_other _ _ c.if-octets-tag.true)

pub returns : goal.returns
returns c = sym (octet_read _ _ (omega arith) c.if-octets-tag.false)
