use Rattle.std.proofs.Common.{rules, le-ltb, lt-ltb, eq-eqb, ne_eqb, le-leb}
use borrow.Author.Tests.{lt-leb}
use Rattle.records.specs.Steps.{resulted}
use Rattle.records.proofs.Arms.{not_in_flight}
use Rattle.records.proofs.Record.result.Statement.{statement}
use Rattle.records.proofs.Record.result.Tie as tie

returns-then-kind-gt-LAST_KIND : tie.Need-returns-then-kind-gt-LAST_KIND
unfolding resulted
returns-then-kind-gt-LAST_KIND c = simp (lt-ltb _ _ c.if-kind-gt-LAST_KIND.true)

enum_known-notice : tie.Need-enum_known-notice
enum_known-notice c = search rules

returns-in_default : tie.Need-returns-in_default
unfolding resulted
returns-in_default c = simp (le-ltb _ _ c.if-kind-gt-LAST_KIND.false, not_in_flight c.args.self.notice c.in_default.in_default-own.keys2)

cleared-ended-requires : tie.Need-cleared-ended-requires
cleared-ended-requires c κs = search rules

returns-then-kind-eq0 : tie.Need-returns-then-kind-eq0
unfolding resulted
returns-then-kind-eq0 c =
    simp (le-ltb _ _ c.if-kind-gt-LAST_KIND.false, c.in-InFlight.is, eq-eqb _ _ c.if-kind-eq0.true, c.cleared-ended.ensures)

returns-then-kind-lt-LAST_KIND : tie.Need-returns-then-kind-lt-LAST_KIND
unfolding resulted
returns-then-kind-lt-LAST_KIND c =
    simp (le-ltb _ _ c.if-kind-gt-LAST_KIND.false, c.in-InFlight.is, ne_eqb _ _ c.if-kind-eq0.false, lt-ltb _ _ c.if-kind-lt-LAST_KIND.true, c.cleared-ended.ensures)

returns-then-sendings-ge-MOST_SENDINGS : tie.Need-returns-then-sendings-ge-MOST_SENDINGS
unfolding resulted
returns-then-sendings-ge-MOST_SENDINGS c =
    simp (le-ltb _ _ c.if-kind-gt-LAST_KIND.false, c.in-InFlight.is, ne_eqb _ _ c.if-kind-eq0.false, le-ltb _ _ c.if-kind-lt-LAST_KIND.false, le-leb _ _ c.if-sendings-ge-MOST_SENDINGS.true, c.cleared-ended.ensures)

with_notice-requires : tie.Need-with_notice-requires
with_notice-requires c κs = search rules

returns : tie.Need-returns
unfolding resulted
returns c =
    simp (le-ltb _ _ c.if-kind-gt-LAST_KIND.false, c.in-InFlight.is, ne_eqb _ _ c.if-kind-eq0.false, le-ltb _ _ c.if-kind-lt-LAST_KIND.false, lt-leb _ _ c.if-sendings-ge-MOST_SENDINGS.false, c.with_notice.ensures)

pub result_spec : {M : Type 1} → statement M
result_spec =
    tie.close
    (tie.spec
    returns-then-kind-gt-LAST_KIND
    enum_known-notice
    returns-in_default
    cleared-ended-requires
    returns-then-kind-eq0
    returns-then-kind-lt-LAST_KIND
    returns-then-sendings-ge-MOST_SENDINGS
    with_notice-requires
    returns)
