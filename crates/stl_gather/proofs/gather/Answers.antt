-- `gather` goes facet after facet as the reader does; what it leaves is the whole file's after the last.
use native.Mathlib.Omega.{arith}
use Rattle.stl_gather.proofs.Laws.Facets.{going_begins, going_on, going_stops, going_ends}
use Rattle.stl_gather.proofs.gather.Goals as goal

pub loop-facet-init : goal.loop-facet-init
loop-facet-init c = going_begins c.requires

pub returns-in_err-n : goal.returns-in_err-n
returns-in_err-n c =
    rw c.from_residual.ensures
    (going_stops c.loop-facet.invariant (omega (arith, c.loop-facet-test.true, c.count-facet-end.ensures))
    (record { words_same = c.settle_facet.auto.ws; corners_same = c.settle_facet.auto.cs; heads_same = c.settle_facet.auto.heads; links_same = c.settle_facet.auto.links })
    _ _ c.in_err-n.ensures)

pub loop-facet-preserved : goal.loop-facet-preserved
loop-facet-preserved c =
    going_on c.loop-facet.invariant (omega (arith, c.loop-facet-test.true, c.count-facet-end.ensures))
    (record { words_same = c.settle_facet.auto.ws; corners_same = c.settle_facet.auto.cs; heads_same = c.settle_facet.auto.heads; links_same = c.settle_facet.auto.links })
    c.in_ok-n.ensures

pub returns : goal.returns
returns c = going_ends c.loop-facet.invariant (omega (arith, c.loop-facet-test.false, c.loop-facet.auto.facet-end, c.count-facet-end.ensures))
