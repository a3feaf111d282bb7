-- Assumes nothing.
use Rattle.std.proofs.Common.{rules, arith, get_or, length, ◌/◌, ◌∙◌}
use Rattle.std.proofs.lemmas.List.Sorted.{answers_always}
use Rattle.tables.proofs.Search.{searched}
use Rattle.tables.proofs.place_of.Goals as goal

pub as_chunks-requires : goal.as_chunks-requires
as_chunks-requires g c = omega (arith, c.requires.width_bounds.0, c.requires.width_bounds.1)

pub binary_search_by_key-requires-room-F-FnMut : goal.binary_search_by_key-requires-room-F-FnMut
binary_search_by_key-requires-room-F-FnMut g c κs = omega (arith, c.requires.width_bounds.1)

pub binary_search_by_key-requires-room-F-FnOnce : goal.binary_search_by_key-requires-room-F-FnOnce
binary_search_by_key-requires-room-F-FnOnce g c κs = omega (arith, c.requires.width_bounds.1)

pub returns : goal.returns
returns g c =
    let a = c.args in
    let facts = c.binary_search_by_key.ensures in
    let by_key = facts.position (λ row. get_or row 0 0) (answers_always _ _ _ (λ f x r h called. search rules)) in
    let rows = c.as_chunks.ensures.front in
    c.ok.ensures.value
    ∙ searched g.row.WIDTH (length a.words.now / g.row.WIDTH) a.wanted a.words.now c.requires.width_bounds.0 c.requires.width_value c.binary_search_by_key.result
    (rw rows at facts.bound) (rw rows at by_key)
