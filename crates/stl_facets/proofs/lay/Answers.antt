-- `lay` writes float after float.
use Rattle.stl_facets.specs.Facets.{floats_of}
use Rattle.stl_facets.proofs.Laws.{puts, puts_laid}
use Rattle.stl_facets.proofs.lay.Goals as goal

pub returns : goal.returns
unfolding puts floats_of
returns c = puts_laid _ _ c.requires
