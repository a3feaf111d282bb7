use Rattle.std.proofs.Common.{sym, ap, ◌∙◌, arith, rules}
use borrow.Author.Tests.{not-true, not-false}
use Rattle.records.specs.Steps.{sendings_done, sent}
use Rattle.records.proofs.Arms.{not_waiting}
use Rattle.records.proofs.Record.send.Statement.{statement}
use Rattle.records.proofs.Record.send.Tie as tie

delay_allowed-requires : tie.Need-delay_allowed-requires
delay_allowed-requires c κs = search rules

returns-then-not-delay_allowed : tie.Need-returns-then-not-delay_allowed
unfolding sent
returns-then-not-delay_allowed c = simp (sym c.delay_allowed.ensures ∙ not-true _ c.if-not-delay_allowed.true-raw)

enum_known-notice : tie.Need-enum_known-notice
enum_known-notice c = search rules

returns-in_default : tie.Need-returns-in_default
unfolding sent
returns-in_default c =
    simp (sym c.delay_allowed.ensures ∙ not-false _ c.if-not-delay_allowed.false-raw, not_waiting c.args.self.notice c.in_default.in_default-own.keys2)

is_due-requires : tie.Need-is_due-requires
is_due-requires c κs = search rules

returns-then-not-is_due : tie.Need-returns-then-not-is_due
unfolding sent
returns-then-not-is_due c =
    simp (sym c.delay_allowed.ensures ∙ not-false _ c.if-not-delay_allowed.false-raw, sym c.is_due.ensures ∙ not-true _ c.if-not-is_due.true-raw, c.in-Waiting.is)

overflow_add-sendings : tie.Need-overflow_add-sendings
overflow_add-sendings c =
    omega (arith, c.requires, ap sendings_done c.in-Waiting.is)

with_notice-requires : tie.Need-with_notice-requires
with_notice-requires c κs = search rules

returns : tie.Need-returns
unfolding sent
returns c =
    simp (sym c.delay_allowed.ensures ∙ not-false _ c.if-not-delay_allowed.false-raw, sym c.is_due.ensures ∙ not-false _ c.if-not-is_due.false-raw, c.in-Waiting.is, c.with_notice.ensures)

pub send_spec : {M : Type 1} → statement M
send_spec =
    tie.close
    (tie.spec
    delay_allowed-requires
    returns-then-not-delay_allowed
    enum_known-notice
    returns-in_default
    is_due-requires
    returns-then-not-is_due
    overflow_add-sendings
    with_notice-requires
    returns)
