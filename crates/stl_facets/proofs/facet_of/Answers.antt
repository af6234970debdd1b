-- `facet_of` reads three corners in a row.
use Rattle.stl_facets.proofs.Laws.{facet_is}
use Rattle.stl_facets.proofs.facet_of.Goals as goal

pub returns : goal.returns
returns c = search facet_is
