-- The stretch of each triangle's seat is chained.
use Rattle.judge_chain.proofs.Laws.Chained.{Linking}
use Rattle.judge_chain.proofs.chain_seats.Given as goal

abbrev pub invariant-loop-t : goal.invariant-loop-t
invariant-loop-t l = Linking l.ring l.stamps l.base l.set l.initial.heads l.initial.links l.initial.ends l.e l.t l.heads l.links l.ends
