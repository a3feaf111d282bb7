-- Assumes nothing.
use Rattle.std.proofs.Common.{sym, ◌∙◌, arith}
use Rattle.tables.specs.Tables.{flags_of}
use Rattle.tables.proofs.Keys.{place_found}
use Rattle.tables.proofs.Sound.{list_ascends}
use Rattle.tables.proofs.flags_of.Goals as goal

pub place_of-requires-clause-width_value : goal.place_of-requires-clause-width_value
place_of-requires-clause-width_value c = list_ascends _ c.requires

-- the row found is one of the list's
pub overflow_mul-result : goal.overflow_mul-result
overflow_mul-result c = omega (arith, (place_found _ _ _ _ (sym c.place_of.ensures ∙ c.in-Some.is)).0)

pub overflow_add-result : goal.overflow_add-result
overflow_add-result c = omega (arith, (place_found _ _ _ _ (sym c.place_of.ensures ∙ c.in-Some.is)).0)

pub offset_bounds-list-row : goal.offset_bounds-list-row
offset_bounds-list-row c = omega (arith, (place_found _ _ _ _ (sym c.place_of.ensures ∙ c.in-Some.is)).0)

pub bounds-list-row : goal.bounds-list-row
bounds-list-row c = omega (arith, (place_found _ _ _ _ (sym c.place_of.ensures ∙ c.in-Some.is)).0)

pub returns-in-Some : goal.returns-in-Some
unfolding flags_of
returns-in-Some c = simp (sym c.place_of.ensures ∙ c.in-Some.is)

pub returns-in-None : goal.returns-in-None
unfolding flags_of
returns-in-None c = simp (sym c.place_of.ensures ∙ c.in-None.is)
