-- `chain_laid` chains the first side of triangle after triangle.
use Rattle.cover_bars.proofs.Laws.Laying.{Laying}
use Rattle.cover_bars.proofs.chain_laid.Given as goal

abbrev pub invariant-loop-t : goal.invariant-loop-t
invariant-loop-t l = Laying l.patches l.p l.end l.initial.heads l.initial.links l.initial.ends l.e l.t l.heads l.links l.ends
