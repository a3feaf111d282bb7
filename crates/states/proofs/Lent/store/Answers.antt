-- Assumes nothing.
use Rattle.std.proofs.Common.{◌≡◌, sym, ap, ◌∙◌, ℕ, List}
use mathlib.Core.Path.{subst}
use Rattle.tables.specs.Figures.{figure_words}
use Rattle.states.specs.States.{record_in, counts_of, Among, Room}
use Rattle.states.specs.Lent.{state_in}
use Rattle.states.proofs.States.{stored_parts, state_row, state_fits}
use Rattle.states.proofs.Lent.store.Goals as goal

pub load-requires-clause-row_value : goal.load-requires-clause-row_value
load-requires-clause-row_value c =
    let a = c.args in
    state_row (state_in a.self.now) a.row c.requires.0 c.requires.1

pub change-requires-clause-figures_len : goal.change-requires-clause-figures_len
change-requires-clause-figures_len c =
    let a = c.args in
    (state_fits (state_in a.self.now) a.row c.requires.0 c.requires.1).three

pub change-requires-clause-among : goal.change-requires-clause-among
change-requires-clause-among c =
    let a = c.args in
    let figures = a.self.now.figures.now in
    let fit = state_fits (state_in a.self.now) a.row c.requires.0 c.requires.1 in
    let lost : figure_words c.counts_of-lost.result ≡ counts_of (record_in (state_in a.self.now) a.row) = c.counts_of-lost.ensures ∙ ap counts_of c.load.ensures in
    (subst (λ (x : List ℕ). Among x figures) (sym lost) fit.among, subst (λ (x : List ℕ). Room figures x) (sym c.counts_of.ensures) (fit.room a.next))

pub returns-clause-stored : goal.returns-clause-stored
returns-clause-stored c =
    let a = c.args in
    stored_parts (state_in a.self.now) a.row a.next _ _ _ _ (c.counts_of-lost.ensures ∙ ap counts_of c.load.ensures) c.counts_of.ensures c.change.ensures c.store.ensures
