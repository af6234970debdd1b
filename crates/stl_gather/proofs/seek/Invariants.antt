-- `seek` walks the chain of these words from its head, and what it passed has other words. The measure is the place itself, since a chain only goes back.
use Rattle.stl_gather.proofs.Laws.Walks.{Walking}
use Rattle.stl_gather.proofs.seek.Given as goal

abbrev pub invariant-loop-g : goal.invariant-loop-g
invariant-loop-g l = Walking l.ws l.links l.last l.a l.b l.c l.g

abbrev pub decreases-loop-g : goal.decreases-loop-g
decreases-loop-g l = l.g
