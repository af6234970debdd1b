-- `meet` walks the chain of u and v from its head, and what it passed joins them neither way. The measure is the place itself, since a chain only goes back.
use Rattle.surface_twins.proofs.Laws.Walks.{Walking}
use Rattle.surface_twins.proofs.meet.Given as goal

abbrev pub invariant-loop-g : goal.invariant-loop-g
invariant-loop-g l = Walking l.corners l.links l.ends l.last l.u l.v l.g

abbrev pub decreases-loop-g : goal.decreases-loop-g
decreases-loop-g l = l.g
