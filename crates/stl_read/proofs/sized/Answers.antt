-- `sized` refuses a misfit before too many facets.
use Rattle.stl_rules.proofs.Laws.Sizes.{misfit_short, misfit_other, fits_many, fits_done}
use Rattle.stl_read.proofs.sized.Goals as goal

pub returns-then-length-lt-FRONT : goal.returns-then-length-lt-FRONT
returns-then-length-lt-FRONT c = search misfit_short

pub returns-then-facets-le-TRIANGLES : goal.returns-then-facets-le-TRIANGLES
returns-then-facets-le-TRIANGLES c = search fits_done

pub returns-then-length-facets : goal.returns-then-length-facets
returns-then-length-facets c = search fits_many

pub returns : goal.returns
returns c = search misfit_other
