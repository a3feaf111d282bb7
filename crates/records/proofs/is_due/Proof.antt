use Rattle.std.proofs.Common.{rules}
use Rattle.records.proofs.is_due.Statement.{statement}
use Rattle.records.proofs.is_due.Tie as tie

enum_told-1 : tie.Need-enum_told-1
enum_told-1 c = search rules

enum_known-notice : tie.Need-enum_known-notice
enum_known-notice c = search rules

delay_of-seconds-requires : tie.Need-delay_of-seconds-requires
delay_of-seconds-requires c κs = search rules

elapsed-passed-requires : tie.Need-elapsed-passed-requires
elapsed-passed-requires c κs = search rules

enum_told-in-InFlight : tie.Need-enum_told-in-InFlight
enum_told-in-InFlight c = search rules

returns-in-Absent : tie.Need-returns-in-Absent
returns-in-Absent c = search rules

returns-in-Waiting : tie.Need-returns-in-Waiting
returns-in-Waiting c = simp (c.in-Waiting.is, c.delay_of-seconds.ensures, c.elapsed-passed.ensures)

returns-in-InFlight : tie.Need-returns-in-InFlight
returns-in-InFlight c = search rules

pub is_due_spec : {M : Type 1} → statement M
is_due_spec =
    tie.close
    (tie.spec
    enum_told-1
    enum_known-notice
    delay_of-seconds-requires
    elapsed-passed-requires
    enum_told-in-InFlight
    returns-in-Absent
    returns-in-Waiting
    returns-in-InFlight)
