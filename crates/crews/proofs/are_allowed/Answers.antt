-- Assumes nothing.
use Rattle.std.proofs.Common.{◌≡◌, ℕ, ◌+◌, ◌-◌, ◌*◌, Bool, List, length, take, drop, sym, ◌∙◌, arith}
use Rattle.answers.proofs.Leading.{each_drop}
use Rattle.answers.proofs.Parts.{rest_of}
use Rattle.numbers.specs.Numbers.{is_digit}
use Rattle.crews.specs.Crews.{is_in, code_at, codes_in}
use Rattle.crews.proofs.Reading.{allowed_end, allowed_lead, allowed_twice, allowed_step}
use Rattle.crews.proofs.are_allowed.Goals as goal

pub returns-then-code-eq-LEAD_CODE : goal.returns-then-code-eq-LEAD_CODE
returns-then-code-eq-LEAD_CODE c = allowed_lead _ _ c.loop-i.invariant (omega arith) (sym c.code_at-code.ensures ∙ c.if-code-eq-LEAD_CODE.true)

pub is_among-requires : goal.is_among-requires
is_among-requires c = rw rest_of (each_drop is_digit c.args.digits.now (2 * c.loop-i.i + 2) c.requires)

-- whether the code stands among those behind it
among :
    (s : List ℕ) (i code : ℕ) {r : Bool} → r ≡ is_in code (codes_in (take (length s - (2 * i + 2)) (drop (2 * i + 2) s))) → code ≡ code_at s i
    → r ≡ is_in (code_at s i) (codes_in (drop (2 * (i + 1)) s))
among s i code e same =
    let behind : 2 * (i + 1) ≡ 2 * i + 2 = omega arith in
    rw (← same, behind) (rw rest_of at e)

pub returns-then-is_among : goal.returns-then-is_among
returns-then-is_among c = allowed_twice _ _ c.loop-i.invariant (omega arith) (sym (among c.args.digits.now c.loop-i.i c.code_at-code.result c.is_among.ensures c.code_at-code.ensures) ∙ c.if-is_among.true)

pub loop-i-preserved : goal.loop-i-preserved
loop-i-preserved c =
    allowed_step _ _ c.loop-i.invariant (omega arith) c.requires (λ same. c.if-code-eq-LEAD_CODE.false (c.code_at-code.ensures ∙ same)) (sym (among c.args.digits.now c.loop-i.i c.code_at-code.result c.is_among.ensures c.code_at-code.ensures) ∙ c.if-is_among.false)

pub returns : goal.returns
returns c = allowed_end _ _ c.loop-i.invariant (omega arith)
