-- `lay` chains and locates the loops, and lays piece after piece.
use Rattle.chart_lay.proofs.Laws.Laying.{Reporting}
use Rattle.chart_lay.proofs.lay.Given as goal

abbrev pub invariant-loop-p : goal.invariant-loop-p
invariant-loop-p l = Reporting l.rings l.lengths l.marks l.pieces l.initial.report l.count l.report l.lakes l.stamps l.at l.p
