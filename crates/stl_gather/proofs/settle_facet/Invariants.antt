-- `settle_facet` settles three corners, twelve bytes from one to the next.
use Rattle.stl_gather.specs.Workings.Racks.{rack}
use Rattle.stl_gather.proofs.Laws.Facets.{Turning}
use Rattle.stl_gather.proofs.settle_facet.Given as goal

abbrev pub invariant-loop-k : goal.invariant-loop-k
invariant-loop-k l = Turning l.file (rack l.initial.ws l.initial.cs l.initial.heads l.initial.links) (rack l.ws l.cs l.heads l.links) l.at l.i l.n l.k l.points
