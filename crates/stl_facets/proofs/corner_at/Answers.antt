-- `corner_at` reads three words in a row as floats.
use Rattle.stl_facets.proofs.Laws.{corner_is}
use Rattle.stl_facets.proofs.corner_at.Goals as goal

pub returns : goal.returns
returns c = search corner_is
