use Rattle.std.proofs.Common.{rules, eq-eqb, ne_eqb}
use Rattle.records.specs.Steps.{forced}
use Rattle.records.proofs.Arms.{not_absent}
use Rattle.records.proofs.Record.force.Statement.{statement}
use Rattle.records.proofs.Record.force.Tie as tie

returns-then-holder_word-eq0 : tie.Need-returns-then-holder_word-eq0
unfolding forced
returns-then-holder_word-eq0 c = simp (eq-eqb _ _ c.if-holder_word-eq0.true)

returns-then-holder_word-named_word : tie.Need-returns-then-holder_word-named_word
unfolding forced
returns-then-holder_word-named_word c = simp (ne_eqb _ _ c.if-holder_word-eq0.false, ne_eqb _ _ c.if-holder_word-named_word.true)

held_by-requires : tie.Need-held_by-requires
held_by-requires c κs = search rules

returns-then-holder_word-supervisor_word : tie.Need-returns-then-holder_word-supervisor_word
unfolding forced
returns-then-holder_word-supervisor_word c =
    simp (ne_eqb _ _ c.if-holder_word-eq0.false, eq-eqb _ _ c.if-holder_word-named_word.false, eq-eqb _ _ c.if-holder_word-supervisor_word.true, c.held_by.ensures)

enum_told-1 : tie.Need-enum_told-1
enum_told-1 c = search rules

returns-in_default : tie.Need-returns-in_default
unfolding forced
returns-in_default c =
    simp (ne_eqb _ _ c.if-holder_word-eq0.false, eq-eqb _ _ c.if-holder_word-named_word.false, ne_eqb _ _ c.if-holder_word-supervisor_word.false, not_absent c.args.self.notice c.in_default.in_default-own.keys2)

forced_off-requires : tie.Need-forced_off-requires
forced_off-requires c κs = search rules

returns : tie.Need-returns
unfolding forced
returns c =
    rw (ne_eqb _ _ c.if-holder_word-eq0.false, eq-eqb _ _ c.if-holder_word-named_word.false, ne_eqb _ _ c.if-holder_word-supervisor_word.false, c.in-Absent.is, c.forced_off.ensures)

pub force_spec : {M : Type 1} → statement M
force_spec =
    tie.close
    (tie.spec
    returns-then-holder_word-eq0
    returns-then-holder_word-named_word
    held_by-requires
    returns-then-holder_word-supervisor_word
    enum_told-1
    returns-in_default
    forced_off-requires
    returns)
