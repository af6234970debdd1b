-- `gather` goes facet after facet as the reader does; what it leaves is the whole file's after the last.
use Rattle.stl_gather.specs.Workings.Racks.{rack}
use Rattle.stl_gather.proofs.Laws.Facets.{Going}
use Rattle.stl_gather.proofs.gather.Given as goal

abbrev pub invariant-loop-facet : goal.invariant-loop-facet
invariant-loop-facet l = Going l.file (rack l.initial.ws l.initial.cs l.initial.heads l.initial.links) (rack l.ws l.cs l.heads l.links) l.facet l.n
