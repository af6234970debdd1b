-- The two points lie on the grid, and the vector between them is short.
use Rattle.cover_weight.proofs.Laws.Strides.{point_on_grid, between_short, stride_is}
use Rattle.cover_weight.proofs.stride.Goals as goal

pub minus-requires : goal.minus-requires
minus-requires c = search (point_on_grid, c.requires.0)

pub extent-requires : goal.extent-requires
extent-requires c = search (between_short, c.requires.0)

pub returns : goal.returns
returns c = search (stride_is, c.requires.0)
