-- Assumes nothing.
use Rattle.std.proofs.Common.{sym, ap, ◌∙◌}
use Rattle.states.proofs.States.{state_table, refusal_some}
use Rattle.timetable.specs.Timetable.{rows, leaving}
use Rattle.timetable.proofs.Using.{in_use_passes, handed_on}
use Rattle.timetable.proofs.Calls.{adding_refused, adding_malformed, adding_present, adding_full, adding_done}
use Rattle.timetable.proofs.add.Goals as goal

pub returns-in_err-check : goal.returns-in_err-check
returns-in_err-check c =
    let a = c.args in
    let r = c.in_err-check.field-0.0 in
    rw (handed_on c.from_residual.result r c.from_residual.ensures.1)
    (adding_refused a.words.now a.used a.figures.now a.number.0 _ c.in_err-check.ensures (refusal_some r))

pub returns-then-not-is_number : goal.returns-then-not-is_number
returns-then-not-is_number c =
    let a = c.args in
    let p = in_use_passes a.words.now a.used a.figures.now _ c.check.ensures c.in_ok-check.was in
    adding_malformed a.words.now a.used a.figures.now a.number.0 p.0 p.1 (sym c.is_number.ensures ∙ c.if-not-is_number.true)

pub is_there-requires : goal.is_there-requires
is_there-requires c =
    let a = c.args in
    let p = in_use_passes a.words.now a.used a.figures.now _ c.check.ensures c.in_ok-check.was in
    (p.0, state_table _ p.1)

pub returns-then-is_there : goal.returns-then-is_there
returns-then-is_there c =
    let a = c.args in
    let p = in_use_passes a.words.now a.used a.figures.now _ c.check.ensures c.in_ok-check.was in
    adding_present a.words.now a.used a.figures.now a.number.0 p.0 p.1 (sym c.is_number.ensures ∙ c.if-not-is_number.false) (sym c.is_there.ensures ∙ c.if-is_there.true)

pub returns-then-used-words : goal.returns-then-used-words
returns-then-used-words c =
    let a = c.args in
    let p = in_use_passes a.words.now a.used a.figures.now _ c.check.ensures c.in_ok-check.was in
    adding_full a.words.now a.used a.figures.now a.number.0 p.0 p.1 (sym c.is_number.ensures ∙ c.if-not-is_number.false) (sym c.is_there.ensures ∙ c.if-is_there.false) c.if-used-words.true

pub returns : goal.returns
returns c =
    let a = c.args in
    let p = in_use_passes a.words.now a.used a.figures.now _ c.check.ensures c.in_ok-check.was in
    ap (leaving (rows _)) c.insert.ensures
    ∙ sym (adding_done a.words.now a.used a.figures.now a.number.0 p.0 p.1 (sym c.is_number.ensures ∙ c.if-not-is_number.false) (sym c.is_there.ensures ∙ c.if-is_there.false) c.if-used-words.false)
