-- The differences of grid points are short, and the sizes of their cross product are the weight.
use Rattle.cover_weight.proofs.Laws.Weighed.{both_short, weight_is}
use Rattle.cover_weight.proofs.weigh.Goals as goal

pub sizes-requires : goal.sizes-requires
sizes-requires c = both_short _ _ _ c.minus.ensures c.minus-2.ensures c.requires

pub returns : goal.returns
returns c = search weight_is
