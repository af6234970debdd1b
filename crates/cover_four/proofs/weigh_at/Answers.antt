-- `weigh_at` weighs by the points that the ring names.
use Rattle.cover_four.proofs.Laws.Fours.{weighed}
use Rattle.cover_four.proofs.weigh_at.Goals as goal

pub returns : goal.returns
returns c = let a = c.args in weighed a.grid.now a.ring.now a.i a.k a.m c.requires.0.coordinates c.weigh_named.ensures
