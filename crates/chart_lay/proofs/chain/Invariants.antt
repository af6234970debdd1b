-- `chain` lets loop after loop, from the last down, stand for its piece.
use Rattle.chart_lay.proofs.Laws.Chaining.{Chaining}
use Rattle.chart_lay.proofs.chain.Given as goal

abbrev pub invariant-loop-l : goal.invariant-loop-l
invariant-loop-l l = Chaining l.marks l.pieces l.initial.rims l.initial.heads l.initial.links l.n l.l l.rims l.heads l.links
