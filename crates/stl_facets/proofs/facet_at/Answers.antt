-- `facet_at` gives the facet where its bytes are held.
use Rattle.stl_facets.proofs.Laws.{held_room, held_ends, at_end, is_given}
use Rattle.stl_facets.proofs.facet_at.Goals as goal

pub returns-then-holds_facet : goal.returns-then-holds_facet
returns-then-holds_facet c = search (is_given, held_room)

pub returns : goal.returns
returns c = search (at_end, held_ends)
