-- `after` goes on where a facet's bytes are held, so that the sum is at most the length.
use Rattle.stl_facets.proofs.Laws.{held_room, held_ends, stays, goes_on}
use Rattle.stl_facets.proofs.after.Goals as goal

pub returns-then-holds_facet : goal.returns-then-holds_facet
returns-then-holds_facet c = search (goes_on, held_room)

pub returns : goal.returns
returns c = search (stays, held_ends)
