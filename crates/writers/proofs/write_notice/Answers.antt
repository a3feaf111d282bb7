-- A notice's text is a forced erasure's, nobody having no digits. Assumes nothing.
use Rattle.std.proofs.Common.{refl}
use Rattle.answers.specs.Leading.{each}
use Rattle.strings.specs.Notices.{notice_fields}
use Rattle.strings.proofs.Notices.{forced_text}
use Rattle.writers.proofs.write_notice.Goals as goal

pub write_packed-requires-clause-writable : goal.write_packed-requires-clause-writable
unfolding each
write_packed-requires-clause-writable c = record { number = c.requires.number_value.0; msisdn = c.requires.number_value.1; few = refl; additional = refl }

pub returns : goal.returns
unfolding notice_fields
returns c = rw (forced_text _) c.write_packed.ensures
