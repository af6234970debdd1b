-- Each part is the difference of two coordinates.
use Rattle.cover_weight.proofs.Laws.Weighed.{less_is}
use Rattle.cover_weight.proofs.minus.Goals as goal

pub returns : goal.returns
returns c = search less_is
