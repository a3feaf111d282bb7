use Rattle.answers.proofs.Parts.{rest_of}
use Rattle.std.proofs.Common.{◌≡◌, ◌≢◌, ◌<◌, ◌≤◌, length, get_or, arith, rules, tests, ap, sym}
use borrow.Author.Tests.{ltb-true, ltb-false}
use Rattle.std.proofs.Math.Option.{Option}
use Rattle.forms.specs.Lines.{Form, space}
use Rattle.lines.specs.Program.{line_effect, effect_of, begun}
use Rattle.lines.specs.Memory.{program_in}
use Rattle.forms.proofs.Places.{form_short, form_joined, form_lettered}
use Rattle.lines.proofs.Memory.{fits_begun, did_begun, did_as}
use Rattle.lines.proofs.Calls.{octets_behind}
use Rattle.lines.proofs.do_line.Goals as goal
use Rattle.lines.proofs.do_line.Goals.{in_default-via-then-line-lt2, in_default-via-else-line-lt2+in_default-1}

pub returns-in_default : goal.returns-in_default
unfolding line_effect
returns-in_default c =
    elim c.in_default.branch [
      | in_default-via-then-line-lt2 w ↦ let short : length c.args.line.now < 2 = grind (arith, tests, ltb-true) in rw (form_short _ short) (did_begun (c.question.ensures _ _ (fits_begun c.requires.fits)))
      | in_default-via-else-line-lt2+in_default-1 w ↦
          let long : 2 ≤ length c.args.line.now = grind (arith, tests, ltb-false) in
          let joined : get_or c.args.line.now 1 0 ≢ space = grind (arith, tests) in
          rw (form_joined _ long joined) (did_begun (c.question.ensures _ _ (fits_begun c.requires.fits)))
    ]

pub returns-in_default-read_form : goal.returns-in_default-read_form
unfolding line_effect
returns-in_default-read_form c =
    let long : 2 ≤ length c.args.line.now = omega arith in
    let apart : get_or c.args.line.now 1 0 ≡ space = omega arith in
    let f = rw (rest_of, c.in_default-read_form.is) at c.read_form.ensures.form in
    rw (form_lettered _ long apart, ← f) (did_begun (c.question-in_default-read_form.ensures _ _ (fits_begun c.requires.fits)))

pub carry_out-requires-clause-rest_in_bounds : goal.carry_out-requires-clause-rest_in_bounds
carry_out-requires-clause-rest_in_bounds c = (rw rest_of (octets_behind 2 _ c.args.line.now c.requires.line_in_bounds.0), c.requires.line_in_bounds.1)

pub returns : goal.returns
unfolding line_effect
returns c =
    let long : 2 ≤ length c.args.line.now = omega arith in
    let apart : get_or c.args.line.now 1 0 ≡ space = omega arith in
    let f = rw c.in-Some.is at c.read_form.ensures.form in
    let d = did_as (ap (λ (x : Option Form). effect_of c.args.state.fresh x (begun (program_in c.args.state c.args.table.now c.args.list.now))) (sym f)) c.carry_out.ensures in
    rw (form_lettered _ long apart) (did_begun (rw rest_of at d))
