-- `bars_from` walks the chain of the position's vertex from its head. The measure is the place itself, since a chain only goes back.
use Rattle.cover_bars.proofs.Laws.Walks.{Walking}
use Rattle.cover_bars.proofs.bars_from.Given as goal

abbrev pub invariant-loop-e : goal.invariant-loop-e
invariant-loop-e l = Walking l.ring l.heads l.links l.ends l.stamps l.base l.j l.initial.rows l.rows l.e

abbrev pub decreases-loop-e : goal.decreases-loop-e
decreases-loop-e l = l.e
