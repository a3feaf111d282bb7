use Rattle.std.proofs.Common.{List, ℕ, sym, ap, ◌∙◌, arith}
use Rattle.std.proofs.lemmas.Bool.{eqb-true, eqb-false}
use Rattle.crews.specs.Crews.{count_of}
use Rattle.strings.specs.Text.{request_sound}
use Rattle.strings.proofs.Answered.{not_read, was_read, read_crew}
use Rattle.tables.specs.Tables.{flags_of}
use Rattle.states.specs.Lent.{state_in}
use Rattle.node.specs.Asked.{with_additional, asked_by}
use Rattle.node.proofs.Asked.{read_sound, read_within, read_short, read_part, request_asked}
use Rattle.node.proofs.Checks.{error_35_requester, error_71, error_35_empty, error_36_long, error_36_unread, none_refuses}
use Rattle.node.proofs.ask_string.Goals as goal

pub returns-then-not-is_number-clause-answer : goal.returns-then-not-is_number-clause-answer
returns-then-not-is_number-clause-answer c =
    let a = c.args in
    sym (error_35_requester (state_in a.lent.now) a.list.now a.reply.now a.requester a.scheme a.string.now c.requires.2 c.requires.1 c.requires.0 (sym c.is_number.ensures ∙ c.if-not-is_number.true))

pub returns-then-scheme-ne-CODING_SCHEME-clause-answer : goal.returns-then-scheme-ne-CODING_SCHEME-clause-answer
returns-then-scheme-ne-CODING_SCHEME-clause-answer c =
    let a = c.args in
    sym (error_71 (state_in a.lent.now) a.list.now a.reply.now a.requester a.scheme a.string.now c.requires.2 c.requires.1 c.requires.0 (sym c.is_number.ensures ∙ c.if-not-is_number.false) c.if-scheme-ne-CODING_SCHEME.true)

pub returns-then-is_empty-clause-answer : goal.returns-then-is_empty-clause-answer
returns-then-is_empty-clause-answer c =
    let a = c.args in
    sym (error_35_empty (state_in a.lent.now) a.list.now a.reply.now a.requester a.scheme a.string.now c.requires.2 c.requires.1 c.requires.0 (sym c.is_number.ensures ∙ c.if-not-is_number.false) c.if-scheme-ne-CODING_SCHEME.false (eqb-true _ _ (sym c.is_empty.ensures ∙ c.if-is_empty.true)))

pub returns-then-string-gt-MOST_STRING_OCTETS-clause-answer : goal.returns-then-string-gt-MOST_STRING_OCTETS-clause-answer
returns-then-string-gt-MOST_STRING_OCTETS-clause-answer c =
    let a = c.args in
    sym (error_36_long (state_in a.lent.now) a.list.now a.reply.now a.requester a.scheme a.string.now c.requires.2 c.requires.1 c.requires.0 (sym c.is_number.ensures ∙ c.if-not-is_number.false) c.if-scheme-ne-CODING_SCHEME.false (eqb-false _ _ (sym c.is_empty.ensures ∙ c.if-is_empty.false)) c.if-string-gt-MOST_STRING_OCTETS.true)

pub returns-in_default-clause-answer : goal.returns-in_default-clause-answer
returns-in_default-clause-answer c =
    let a = c.args in
    sym (error_36_unread (state_in a.lent.now) a.list.now a.reply.now a.requester a.scheme a.string.now c.requires.2 c.requires.1 c.requires.0 (sym c.is_number.ensures ∙ c.if-not-is_number.false) c.if-scheme-ne-CODING_SCHEME.false (eqb-false _ _ (sym c.is_empty.ensures ∙ c.if-is_empty.false)) c.if-string-gt-MOST_STRING_OCTETS.false (not_read a.string.now _ c.read_request-read.ensures c.in_default.is))

pub overflow_add-end : goal.overflow_add-end
overflow_add-end c = omega (arith, read_short c.args.string.now c.read_request-read.result c.read_request-read.ensures c.in-Some.fields c.in-Some.is)

pub slice_bounds-additional-end : goal.slice_bounds-additional-end
slice_bounds-additional-end c = read_within c.args.string.now c.read_request-read.result c.read_request-read.ensures c.in-Some.fields c.in-Some.is

pub ask-requires-clause-additional_value : goal.ask-requires-clause-additional_value
ask-requires-clause-additional_value c =
    let s = c.args.string.now in
    let r = c.read_request-read in
    let f = c.in-Some.fields in
    let part = read_part s r.result r.ensures f c.in-Some.is in
    (ap (λ (l : List ℕ). request_sound (with_additional f l)) part ∙ read_sound s r.result r.ensures f c.in-Some.is, read_crew s r.result r.ensures f c.in-Some.is ∙ ap count_of (sym part))

pub returns-clause-answer : goal.returns-clause-answer
returns-clause-answer c =
    let a = c.args in
    let s = a.string.now in
    let r = c.read_request-read in
    let f = c.in-Some.fields in
    let reads = was_read s r.result r.ensures f c.in-Some.is in
    let passed = none_refuses (state_in a.lent.now) a.list.now a.reply.now a.requester a.scheme a.string.now c.requires.2 c.requires.1 c.requires.0 (sym c.is_number.ensures ∙ c.if-not-is_number.false) c.if-scheme-ne-CODING_SCHEME.false (eqb-false _ _ (sym c.is_empty.ensures ∙ c.if-is_empty.false)) c.if-string-gt-MOST_STRING_OCTETS.false _ reads in
    c.ask.ensures.answer
    ∙ ap (λ (x : List ℕ). asked_by (state_in a.lent.now) (flags_of a.list.now a.requester.0) a.reply.now a.requester (with_additional f x)) (read_part s r.result r.ensures f c.in-Some.is)
    ∙ sym (request_asked (state_in a.lent.now) a.list.now a.reply.now a.requester a.scheme s _ c.requires.0 passed reads)
