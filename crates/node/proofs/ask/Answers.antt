use Rattle.std.proofs.Common.{sym, ◌∙◌, arith}
use borrow.Author.Tests.{eq-eqb}
use Rattle.answers.proofs.Parts.{rest_of}
use Rattle.strings.proofs.Text.{sound_rules}
use Rattle.tables.specs.Tables.{flags_of}
use Rattle.states.specs.Lent.{state_in}
use Rattle.node.specs.Asked.{with_additional}
use Rattle.node.proofs.Asked.{passes, single_crew, no_broken, single_asked_lem, crew_digits, crew_few, crew_most, crew_within, crew_carried, crew_number_lem, crew_asked}
use Rattle.node.proofs.ask.Goals as goal

pub ask_single-requires : goal.ask_single-requires
ask_single-requires c =
    let a = c.args in
    (c.requires.figures_value.0, c.requires.figures_value.2, (sound_rules (with_additional a.fields a.additional.now) c.requires.additional_value.0).erasing)

pub overflow_mul-digits : goal.overflow_mul-digits
overflow_mul-digits c =
    let a = c.args in
    omega (arith, crew_most a.fields a.additional.now _ c.requires.additional_value.0 (sym c.requires.additional_value.1 ∙ c.in-Codes.is))

pub overflow_sub-digits : goal.overflow_sub-digits
overflow_sub-digits c =
    let a = c.args in
    crew_within a.fields a.additional.now _ c.requires.additional_value.0 (sym c.requires.additional_value.1 ∙ c.in-Codes.is)

pub request_crew-requires-clause-figures_value : goal.request_crew-requires-clause-figures_value
request_crew-requires-clause-figures_value c =
    let a = c.args in
    (c.requires.figures_value.0, crew_carried a.fields a.additional.now _ c.requires.additional_value.0 (sym c.requires.additional_value.1 ∙ c.in-Codes.is), c.requires.figures_value.3)

pub request_crew-requires-clause-lead_value : goal.request_crew-requires-clause-lead_value
request_crew-requires-clause-lead_value c =
    let a = c.args in
    (crew_number_lem a.fields a.additional.now _ c.requires.additional_value.0 (sym c.requires.additional_value.1 ∙ c.in-Codes.is), rw rest_of (crew_digits a.fields a.additional.now _ c.requires.additional_value.0 (sym c.requires.additional_value.1 ∙ c.in-Codes.is)), rw rest_of (crew_few a.fields a.additional.now _ c.requires.additional_value.0 (sym c.requires.additional_value.1 ∙ c.in-Codes.is)))

pub returns-in-Single-clause-answer : goal.returns-in-Single-clause-answer
returns-in-Single-clause-answer c =
    let a = c.args in
    c.ask_single.ensures.answer
    ∙ sym (passes (state_in a.lent.now) (flags_of a.list.now a.requester.0) a.reply.now a.requester (with_additional a.fields a.additional.now) (rw (← c.flags_of-flags.ensures) (eq-eqb _ _ c.if-flags-ne1.false)) (rw (← c.flags_of-flags.ensures) (sym c.is_forbidden.ensures ∙ c.if-is_forbidden.false)) ∙ single_asked_lem (state_in a.lent.now) a.reply.now a.requester a.fields a.additional.now (single_crew a.additional.now (sym c.requires.additional_value.1 ∙ c.in-Single.is)))

pub returns-in-Codes-clause-answer : goal.returns-in-Codes-clause-answer
returns-in-Codes-clause-answer c =
    let a = c.args in
    rw rest_of at c.request_crew.ensures.answer
    ∙ sym (passes (state_in a.lent.now) (flags_of a.list.now a.requester.0) a.reply.now a.requester (with_additional a.fields a.additional.now) (rw (← c.flags_of-flags.ensures) (eq-eqb _ _ c.if-flags-ne1.false)) (rw (← c.flags_of-flags.ensures) (sym c.is_forbidden.ensures ∙ c.if-is_forbidden.false)) ∙ crew_asked a.fields a.additional.now _ c.requires.additional_value.0 (sym c.requires.additional_value.1 ∙ c.in-Codes.is) (state_in a.lent.now) a.reply.now a.requester)

pub returns-in-Broken-clause-answer : goal.returns-in-Broken-clause-answer
returns-in-Broken-clause-answer c =
    let a = c.args in
    absurd (no_broken (with_additional a.fields a.additional.now) c.requires.additional_value.0 (sym c.requires.additional_value.1 ∙ c.in-Broken.is))
