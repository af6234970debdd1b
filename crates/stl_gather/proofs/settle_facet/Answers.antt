-- `settle_facet` settles three corners, twelve bytes from one to the next.
use native.Mathlib.Omega.{arith}
use Rattle.stl_gather.proofs.Laws.Facets.{settled_stops, facet_corner, facet_goes_on, facet_ends}
use Rattle.stl_gather.proofs.settle_facet.Goals as goal

pub settle-requires : goal.settle-requires
settle-requires c = facet_corner c.loop-k.invariant c.loop-k-test.true

pub returns-in_err-points : goal.returns-in_err-points
returns-in_err-points c = rw c.from_residual.ensures (settled_stops _ _ _ _ c.in_err-points.ensures (omega (arith, c.loop-k-test.true)))

pub loop-k-preserved : goal.loop-k-preserved
loop-k-preserved c =
    facet_goes_on c.loop-k.invariant c.loop-k-test.true c.in_ok-points.ensures
    (record { words_same = c.settle.auto.ws; corners_same = c.settle.auto.cs; heads_same = c.settle.auto.heads; links_same = c.settle.auto.links })

pub returns : goal.returns
returns c = facet_ends c.loop-k.invariant (omega (arith, c.loop-k-test.false, c.loop-k.auto.k-end))
