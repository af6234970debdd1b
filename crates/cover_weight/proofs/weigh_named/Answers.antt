-- The three points lie on the grid, and the triangle weighs what they say.
use Rattle.cover_weight.proofs.Laws.Named.{three_on_grid, weighs_named}
use Rattle.cover_weight.proofs.weigh_named.Goals as goal

pub weigh-requires : goal.weigh-requires
weigh-requires c = three_on_grid _ c.requires.0 _ _ _ c.point_at.ensures c.point_at-2.ensures c.point_at-3.ensures

pub returns : goal.returns
returns c = search weighs_named
