use Rattle.std.proofs.Common.{◌≡◌, Bool, false, ap, rules, eq-eqb, ne_eqb}
use Rattle.records.specs.Step.{Becomes}
use Rattle.records.specs.Steps.{registered}
use Rattle.records.proofs.Record.register.Statement.{statement}
use Rattle.records.proofs.Record.register.Tie as tie

returns-then-number_word-requester_word : tie.Need-returns-then-number_word-requester_word
unfolding registered
returns-then-number_word-requester_word c = simp (eq-eqb _ _ c.if-number_word-requester_word.true)

returns-then-self : tie.Need-returns-then-self
unfolding registered
returns-then-self c = simp (ne_eqb _ _ c.if-number_word-requester_word.false, c.if-self.true)

returns-then-holder_word-requester_word : tie.Need-returns-then-holder_word-requester_word
unfolding registered
returns-then-holder_word-requester_word c = simp (ne_eqb _ _ c.if-number_word-requester_word.false, c.if-self.false, c.if-holder_word-requester_word.true)

held_by-requires : tie.Need-held_by-requires
held_by-requires c κs = search rules

returns : tie.Need-returns
unfolding registered
returns c =
    let a = c.args in
    let unclosed : a.self.closed ≡ false = c.if-self.false in
    rw (ne_eqb _ _ c.if-number_word-requester_word.false, unclosed, c.if-holder_word-requester_word.false, c.held_by.ensures)
    (ap (λ (b : Bool). Becomes (record { holder = a.requester; notice = a.self.notice; addressee = a.self.addressee; supervisor = a.self.supervisor; closed = b })) unclosed)

pub register_spec : {M : Type 1} → statement M
register_spec = tie.close (tie.spec
    returns-then-number_word-requester_word
    returns-then-self
    returns-then-holder_word-requester_word
    held_by-requires
    returns)
